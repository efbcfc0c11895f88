-- To be believed. Single-path trees without the places of their boxes in memory: all that they say, and no more.
use Rattle.std.specs.Prelude.{ℕ}
use Rattle.sp_tree.specs.declared.expressions.SpArray.{SpArray}
use Rattle.sp_tree.specs.declared.expressions.SpCell.{SpCell}
use Rattle.sp_tree.specs.declared.expressions.SpExpr.{SpExpr, Const, Frame, Scalar, Element', Unary', Binary'}
use Rattle.sp_tree.specs.declared.operators.SpBinary.{SpBinary}
use Rattle.sp_tree.specs.declared.operators.SpUnary.{SpUnary}

pub data PlainSp : Type 0 where
  constant : ℕ → PlainSp
  frame_word : ℕ → PlainSp
  cell_word : SpCell → PlainSp
  array_word : SpArray → PlainSp → PlainSp
  before_one : SpUnary → PlainSp → PlainSp
  between_two : SpBinary → PlainSp → PlainSp → PlainSp

-- After each box its place in memory comes first.
unfoldable pub plain_sp : SpExpr → PlainSp
plain_sp (Const value) = constant value
plain_sp (Frame slot) = frame_word slot
plain_sp (Scalar cell) = cell_word cell
plain_sp (Element' array p index) = array_word array (plain_sp index)
plain_sp (Unary' op p of) = before_one op (plain_sp of)
plain_sp (Binary' op p a q b) = between_two op (plain_sp a) (plain_sp b)
