use Rattle.std.proofs.Common.{◌+◌, ◌*◌, ◌<◌, rules, sym, subst, arith}
use Rattle.patmos_alone.specs.Alone.{ComesAlone}
use Rattle.patmos_step.specs.Shown.{core_of}
use Rattle.patmos_core.proofs.SecondPhase.{on_moved}
use Rattle.patmos_core.specs.Progress.{IsStillIn}
use Rattle.patmos_step.specs.Ready.{IsUpTo}
use Rattle.patmos_core.proofs.AloneOn.{there_alone}
use Rattle.patmos_core.proofs.Stillness.{up_to_cycle}
use Rattle.patmos_core.proofs.tasked.Tasked.go_alone.Goals as goal

pub returns-clause-goes_on : goal.returns-clause-goes_on
returns-clause-goes_on c = record {
  stands = λ x made on.
      let come : ComesAlone c.args.self.now.cycle c.run_alone-self.result (core_of c.args.self.now.body on.seen)
      c.run_alone-self.new.body = c.run_alone-self.ensures.goes.alone on.seen on.shows in
      on_moved c.args.self.now _ x made made c.run_alone-self.ensures.goes.keeps.frame on come.seen come.shows
      (there_alone c.args.self.now.body.place.cores c.args.self.now.body.place.core x made
      c.args.self.now.body.place.in_range.among
      c.args.self.now.cycle c.run_alone-self.result c.args.self.now.phase (core_of c.args.self.now.body on.seen)
      c.run_alone-self.new.body c.requires.delivery c.run_alone-self.ensures.goes.ahead
      (λ u from below. c.still_until-until.ensures.still u from (omega (arith, below, c.run_alone-self.ensures.within)))
      come on.there);
  frame = c.run_alone-self.ensures.goes.keeps.frame;
  phases = omega (arith, c.run_alone-self.ensures.goes.ahead);
}

pub returns-clause-alone : goal.returns-clause-alone
returns-clause-alone c = λ is.
    let below : c.run_alone-self.result < c.still_until-until.result = search rules in
    let up : IsUpTo (2 * c.args.self.now.cycle) c.args.self.now.body.ni =
    up_to_cycle c.args.self.now.body.ni c.args.self.now.cycle c.args.self.now.phase c.requires.delivery
    c.args.self.now.sound.ni in
    record {
      still = subst (λ s. IsStillIn s.interface c.run_alone-self.result) (sym c.run_alone-self.ensures.goes.keeps.ni)
          (c.still_until-until.ensures.still c.run_alone-self.result c.run_alone-self.ensures.goes.ahead below);
      ni = subst (IsUpTo (2 * c.run_alone-self.result + 2)) (sym c.run_alone-self.ensures.goes.keeps.ni) (record {
        after = omega (arith, up.after, c.run_alone-self.ensures.goes.ahead);
        past = λ half from acts. omega (arith, below, c.still_until-until.ensures.nothing half from acts);
        some = up.some;
      });
      due = c.run_alone-self.ensures.due below;
    }
