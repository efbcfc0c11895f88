use Rattle.std.proofs.Common.{◌≡◌, take}
use Rattle.std.specs.Prelude.{sum_by}
use Rattle.c_check.specs.Capped.{capped}
use Rattle.c_check.proofs.Sums.{statement_frame, arm_frame}
use Rattle.c_check.proofs.frames.+statement.Given as goal

abbrev pub invariant-block-loop-s : goal.invariant-block-loop-s
invariant-block-loop-s l = l.total ≡ capped (sum_by statement_frame (take l.s-index l.body))

abbrev pub invariant-branches-loop-arm : goal.invariant-branches-loop-arm
invariant-branches-loop-arm l = l.total ≡ capped (sum_by arm_frame (take l.arm-index l.arms))
