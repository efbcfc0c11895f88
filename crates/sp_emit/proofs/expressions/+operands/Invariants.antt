use Rattle.std.proofs.Common.{◌+◌, ◌*◌}
use Rattle.sp_tree.specs.Plain.{plain_sp}
use Rattle.sp_emit.proofs.Sizes.{size}
use Rattle.sp_emit.proofs.expressions.+operands.Given as goal

abbrev pub decreases-operands : goal.decreases-operands
decreases-operands l = 2 * size (plain_sp l.e.now)

abbrev pub decreases-operand : goal.decreases-operand
decreases-operand l = 1 + 2 * size (plain_sp l.e.now)

abbrev pub decreases-two_operands : goal.decreases-two_operands
decreases-two_operands l = 3 + 2 * (size (plain_sp l.a.now) + size (plain_sp l.b.now))

abbrev pub decreases-one_by_one : goal.decreases-one_by_one
decreases-one_by_one l = 2 + 2 * (size (plain_sp l.first.now) + size (plain_sp l.second.now))
