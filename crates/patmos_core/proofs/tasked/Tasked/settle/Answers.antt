use Rattle.std.proofs.Common.{ap, arith}
use Rattle.patmos_step.specs.Shown.{IsAt, core_of}
use Rattle.patmos_step.specs.Plan.{settled_at}
use Rattle.patmos_core.proofs.SecondPhase.{on_moved, there_settled}
use Rattle.patmos_core.proofs.tasked.Tasked.settle.Goals as goal

pub returns-clause-goes_on : goal.returns-clause-goes_on
returns-clause-goes_on c = record {
  stands = λ x made on.
      let at : IsAt c.settle.new.self (settled_at c.args.self.now.cycle (core_of c.args.self.now.body on.seen)) =
      c.settle.ensures.at on.seen on.shows in
      on_moved c.args.self.now _ x made made c.settle.ensures.keeps.frame on at.seen at.shows
      (there_settled c.args.self.now.body.place.cores c.args.self.now.body.place.core x made c.args.self.now.cycle
      c.args.self.now.phase
      (core_of c.args.self.now.body on.seen) (core_of c.settle.new.self at.seen) c.requires.act at.same
      (ap (λ s. s.interface) c.settle.ensures.keeps.ni) on.there);
  frame = c.settle.ensures.keeps.frame;
  phases = omega arith;
}
