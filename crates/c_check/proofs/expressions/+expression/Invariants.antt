use Rattle.std.proofs.Common.{◌≡◌, ◌+◌, take, drop}
use Rattle.std.specs.Prelude.{sum_by}
use Rattle.c_tree.specs.Least.{least_with}
use Rattle.c_tree.specs.Checks.{steps_faults}
use Rattle.c_tree.specs.Plains.{steps_of}
use Rattle.c_check.specs.Open.{names_of}
use Rattle.c_check.proofs.Sums.{step_size}
use Rattle.c_check.proofs.expressions.+expression.Given as goal

abbrev pub invariant-steps-loop-step : goal.invariant-steps-loop-step
invariant-steps-loop-step l = record {
  at : l.walk.at ≡ l.initial.walk.at + sum_by step_size (take l.step-index l.steps);
  least : least_with l.walk.least (steps_faults (names_of l.names) l.walk.at (steps_of (drop l.step-index l.steps)))
      ≡ least_with l.initial.walk.least (steps_faults (names_of l.names) l.initial.walk.at (steps_of l.steps));
}
