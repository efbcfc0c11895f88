use Rattle.std.proofs.Common.{◌-◌, ◌≤◌}
use Rattle.patmos_alone.specs.Alone.{GoesAlone}
use Rattle.patmos_alone.proofs.run.run_alone.Given as goal

abbrev pub invariant-loop-cycle : goal.invariant-loop-cycle
invariant-loop-cycle l = record { goes : GoesAlone l.from l.cycle l.fn.body l.body; within : l.cycle ≤ l.limit }

abbrev pub decreases-loop-cycle : goal.decreases-loop-cycle
decreases-loop-cycle l = l.limit - l.cycle
