use Rattle.std.proofs.Common.{◌≡◌, take}
use Rattle.std.specs.Prelude.{sum_by}
use Rattle.c_check.specs.Capped.{capped}
use Rattle.c_check.proofs.Sums.{statement_weight, arm_weight}
use Rattle.c_check.proofs.weights.+statement.Given as goal

abbrev pub invariant-block-loop-s : goal.invariant-block-loop-s
invariant-block-loop-s l = l.total ≡ capped (sum_by statement_weight (take l.s-index l.body))

abbrev pub invariant-branches-loop-arm : goal.invariant-branches-loop-arm
invariant-branches-loop-arm l = l.total ≡ capped (sum_by arm_weight (take l.arm-index l.arms))
