-- To be believed. What C's operators make of words (C99 6.5), where each operand is an `int` or an
-- `unsigned`. Signed arithmetic wraps, shifts count modulo 32, and a quotient by 0 or of the least
-- number by -1 is decided as the words of tc_word are.
use Rattle.std.specs.Prelude.{ℕ, ◌==◌, nat_lt, bit_and, bit_or, bit_xor, Bool, true, false, not, ◌&&◌, ◌||◌, if◌then◌else◌, List, [], ◌∷◌}
use Rattle.tc_word.specs.Word.{quotient, rest, quotient_unsigned, rest_unsigned, moved_up, moved_down, moved_down_signed, is_less}
use Rattle.c_world.specs.Numbers.{flag, is_true, sum_of, difference_of, product_of, complement_of}
use Rattle.c_tree.specs.declared.expressions.UnaryOp.{UnaryOp}
use Rattle.c_tree.specs.declared.expressions.UnaryOp.TheVariants as unary
use Rattle.c_tree.specs.declared.expressions.BinaryOp.{BinaryOp}
use Rattle.c_tree.specs.declared.expressions.BinaryOp.TheVariants as binary

-- ---- operators before an operand

abbrev pub signed_value : UnaryOp → ℕ → ℕ
signed_value unary.Minus a = difference_of 0 a
signed_value unary.Complement a = complement_of a
signed_value unary.Not a = flag (not (is_true a))
signed_value unary.Plus a = a

-- several, the outermost first
abbrev pub signs_value : List UnaryOp → ℕ → ℕ
signs_value [] a = a
signs_value (op ∷ ops) a = signed_value op (signs_value ops a)

-- `!` gives an `int`
abbrev pub sign_unsigned : UnaryOp → Bool → Bool
sign_unsigned unary.Not u = false
sign_unsigned _ u = u

abbrev pub signs_unsigned : List UnaryOp → Bool → Bool
signs_unsigned [] u = u
signs_unsigned (op ∷ ops) u = sign_unsigned op (signs_unsigned ops u)

-- ---- operators between operands

-- a shift works in the type of its left operand; all others in unsigned where an operand is
abbrev pub works_unsigned : BinaryOp → Bool → Bool → Bool
works_unsigned binary.ShiftLeft u v = u
works_unsigned binary.ShiftRight u v = u
works_unsigned _ u v = u || v

-- a truth is an `int`, and everything else of the type in which it was worked out
abbrev pub is_truth : BinaryOp → Bool
is_truth binary.Or = true
is_truth binary.And = true
is_truth binary.Equal = true
is_truth binary.NotEqual = true
is_truth binary.Less = true
is_truth binary.Greater = true
is_truth binary.LessEqual = true
is_truth binary.GreaterEqual = true
is_truth _ = false

abbrev pub gives_unsigned : BinaryOp → Bool → Bool → Bool
gives_unsigned op u v = not (is_truth op) && works_unsigned op u v

-- the order of words in a type
abbrev pub less_of : Bool → ℕ → ℕ → Bool
less_of unsigned a b = if unsigned then nat_lt a b else is_less a b

-- the value of an operator that works in a type
abbrev pub between_value : BinaryOp → Bool → ℕ → ℕ → ℕ
between_value binary.Or u a b = flag (is_true a || is_true b)
between_value binary.And u a b = flag (is_true a && is_true b)
between_value binary.BitOr u a b = bit_or a b
between_value binary.BitXor u a b = bit_xor a b
between_value binary.BitAnd u a b = bit_and a b
between_value binary.Equal u a b = flag (a == b)
between_value binary.NotEqual u a b = flag (not (a == b))
between_value binary.Less u a b = flag (less_of u a b)
between_value binary.Greater u a b = flag (less_of u b a)
between_value binary.LessEqual u a b = flag (not (less_of u b a))
between_value binary.GreaterEqual u a b = flag (not (less_of u a b))
between_value binary.ShiftLeft u a b = moved_up a b
between_value binary.ShiftRight u a b = if u then moved_down a b else moved_down_signed a b
between_value binary.Plus u a b = sum_of a b
between_value binary.Minus u a b = difference_of a b
between_value binary.Times u a b = product_of a b
between_value binary.Divide u a b = if u then quotient_unsigned a b else quotient a b
between_value binary.Remainder u a b = if u then rest_unsigned a b else rest a b
