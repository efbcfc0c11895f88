use Rattle.std.proofs.Common.{◌≡◌, ◌+◌, ◌-◌, ◌*◌, ◌≤◌}
use Rattle.patmos_core.specs.declared.phase.Phase.TheVariants.{Delivery}
use Rattle.patmos_core.specs.Position.{GoesOnAs, phases_done}
use Rattle.patmos_core.proofs.tasked.Tasked.run.Given as goal

abbrev pub invariant-loop-self : goal.invariant-loop-self
invariant-loop-self l = record {
  goes_on : GoesOnAs l.fn.self l.self;
  within : l.self.cycle ≤ l.limit;
  whole : l.self.cycle ≡ l.limit → l.self.phase ≡ Delivery;
}

abbrev pub decreases-loop-self : goal.decreases-loop-self
decreases-loop-self l = 3 * l.limit + 3 - phases_done l.self.cycle l.self.phase
