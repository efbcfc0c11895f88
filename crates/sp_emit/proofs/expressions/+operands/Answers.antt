use Rattle.std.proofs.Common.{sym, ◌∙◌}
use Rattle.sp_shape.specs.Shown.{parts_of}
use Rattle.sp_tree.specs.Plain.{plain_sp}
use Rattle.sp_emit.proofs.Operands.{operand_none}
use Rattle.sp_emit.proofs.expressions.+operands.Goals as goal

pub operand-returns-then-is_home : goal.operand-returns-then-is_home
operand-returns-then-is_home t c = operand_none (parts_of c.args.out.now.items) c.args.homes (plain_sp c.args.e.now)
    c.args.rd (sym c.is_home.ensures ∙ c.if-is_home.true)
