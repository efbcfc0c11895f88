-- How large an expression is: its parts are smaller.
use Rattle.std.proofs.Common.{ℕ, ◌+◌}
use Rattle.sp_tree.specs.Plain.{PlainSp, array_word, before_one, between_two}

abbrev pub size : PlainSp → ℕ
size (array_word array index) = 1 + size index
size (before_one op of) = 1 + size of
size (between_two op a b) = 2 + size a + size b
size _ = 1
