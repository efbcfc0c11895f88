use Rattle.std.proofs.Common.{◌≤◌, refl, sym, subst, arith}
use Rattle.patmos_core.specs.declared.phase.Phase.TheVariants.{Act}
use Rattle.patmos_core.specs.Position.{phases_done}
use Rattle.patmos_step.specs.Shown.{core_of}
use Rattle.patmos_core.proofs.Stillness.{there_passed, quiet_delivery, up_to_cycle}
use Rattle.patmos_core.proofs.tasked.Tasked.pass.Goals as goal

pub returns-clause-goes_on : goal.returns-clause-goes_on
returns-clause-goes_on c = record {
  stands = λ x made on. record {
    seen = on.seen;
    shows = on.shows;
    cores = on.cores;
    core = on.core;
    there = there_passed c.args.self.now.body.place.cores c.args.self.now.body.place.core x made
        (core_of c.args.self.now.body on.seen) c.args.self.now.cycle
        c.args.self.now.phase c.requires.delivery c.args.self.now.body.place.in_range.among
        (quiet_delivery c.args.self.now.body.ni c.args.next c.args.self.now.cycle (core_of c.args.self.now.body on.seen)
        refl c.requires.next
        (up_to_cycle c.args.self.now.body.ni c.args.self.now.cycle c.args.self.now.phase c.requires.delivery
        c.args.self.now.sound.ni).after c.requires.later) on.there;
  };
  frame = record { place = refl; room = refl };
  phases = subst (λ p. phases_done c.args.self.now.cycle p ≤ phases_done c.args.self.now.cycle Act)
      (sym c.requires.delivery) (omega arith);
}
