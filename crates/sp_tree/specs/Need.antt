-- To be believed. How many registers an expression takes where of two operands the one
-- of the greater need is worked out first.
use Rattle.std.specs.Prelude.{ℕ, ◌+◌, nat_lt, max, if◌then◌else◌}
use Rattle.sp_tree.specs.Plain.{PlainSp, constant, frame_word, cell_word, array_word, before_one, between_two}

-- the value of the first operand that is worked out stands in a register while the other is worked out
abbrev pub both_need : ℕ → ℕ → ℕ
both_need a b = if nat_lt a b then max b (a + 1) else max a (b + 1)

abbrev pub need : PlainSp → ℕ
need (constant n) = 1
need (frame_word slot) = 1
need (cell_word cell) = 1
need (array_word array index) = need index
need (before_one op of) = need of
need (between_two op a b) = both_need (need a) (need b)
