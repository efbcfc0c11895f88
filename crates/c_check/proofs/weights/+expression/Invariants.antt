use Rattle.std.proofs.Common.{◌≡◌, take}
use Rattle.std.specs.Prelude.{sum_by}
use Rattle.c_check.specs.Capped.{capped}
use Rattle.c_check.proofs.Sums.{step_weight}
use Rattle.c_check.proofs.weights.+expression.Given as goal

abbrev pub invariant-steps-loop-step : goal.invariant-steps-loop-step
invariant-steps-loop-step l = l.total ≡ capped (sum_by step_weight (take l.step-index l.steps))
