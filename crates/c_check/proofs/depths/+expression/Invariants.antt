use Rattle.std.proofs.Common.{◌≡◌, max, drop}
use Rattle.c_tree.specs.Depth.{steps_depth}
use Rattle.c_tree.specs.Plains.{steps_of}
use Rattle.c_check.specs.Capped.{capped}
use Rattle.c_check.proofs.depths.+expression.Given as goal

abbrev pub invariant-deepest-loop-step : goal.invariant-deepest-loop-step
invariant-deepest-loop-step l =
    max l.most (capped (steps_depth (steps_of (drop l.step-index l.steps)))) ≡ capped (steps_depth (steps_of l.steps))
