-- To be believed. What the operators of single-path trees make of words: what C's operators do, each in one type.
use Rattle.std.specs.Prelude.{ℕ, ◌==◌, nat_lt, bit_and, bit_or, bit_xor, not, ◌&&◌, ◌||◌}
use Rattle.tc_word.specs.Word.{quotient, rest, quotient_unsigned, rest_unsigned, moved_up, moved_down, moved_down_signed, is_less}
use Rattle.c_world.specs.Numbers.{flag, is_true, sum_of, difference_of, product_of, complement_of}
use Rattle.sp_tree.specs.declared.operators.SpUnary.{SpUnary}
use Rattle.sp_tree.specs.declared.operators.SpUnary.TheVariants as unary
use Rattle.sp_tree.specs.declared.operators.SpBinary.{SpBinary}
use Rattle.sp_tree.specs.declared.operators.SpBinary.TheVariants as binary

abbrev pub unary_value : SpUnary → ℕ → ℕ
unary_value unary.Minus a = difference_of 0 a
unary_value unary.Complement a = complement_of a
unary_value unary.Not a = flag (not (is_true a))

abbrev pub binary_value : SpBinary → ℕ → ℕ → ℕ
binary_value binary.Or a b = flag (is_true a || is_true b)
binary_value binary.And a b = flag (is_true a && is_true b)
binary_value binary.BitOr a b = bit_or a b
binary_value binary.BitXor a b = bit_xor a b
binary_value binary.BitAnd a b = bit_and a b
binary_value binary.Equal a b = flag (a == b)
binary_value binary.NotEqual a b = flag (not (a == b))
binary_value binary.Less a b = flag (is_less a b)
binary_value binary.LessUnsigned a b = flag (nat_lt a b)
binary_value binary.LessEqual a b = flag (not (is_less b a))
binary_value binary.LessEqualUnsigned a b = flag (not (nat_lt b a))
binary_value binary.ShiftLeft a b = moved_up a b
binary_value binary.ShiftRight a b = moved_down_signed a b
binary_value binary.ShiftRightUnsigned a b = moved_down a b
binary_value binary.Plus a b = sum_of a b
binary_value binary.Minus a b = difference_of a b
binary_value binary.Times a b = product_of a b
binary_value binary.Divide a b = quotient a b
binary_value binary.DivideUnsigned a b = quotient_unsigned a b
binary_value binary.Remainder a b = rest a b
binary_value binary.RemainderUnsigned a b = rest_unsigned a b
