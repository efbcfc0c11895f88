-- How large expressions are: code for one is made of code for those in it.
use Rattle.std.proofs.Common.{◌≡◌, ℕ, ◌+◌, ◌<◌, ◌≤◌, ap, arith}
use Rattle.sp_tree.specs.Plain.{PlainSp, constant, array_word, before_one, between_two}
use Rattle.sp_tree.specs.declared.operators.SpBinary.{SpBinary}

abbrev pub size : PlainSp → ℕ
size (array_word array index) = 1 + size index
size (before_one op of) = 1 + size of
size (between_two op a b) = 1 + (size a + size b)
size _ = 1

pub some_size : (e : PlainSp) → 1 ≤ size e
some_size (constant n) = omega arith
some_size _ = omega arith

pub operands_less : (e : PlainSp) (op : SpBinary) (a b : PlainSp) → e ≡ between_two op a b → size a + size b < size e
operands_less e op a b is = let same = ap size is in omega (arith, same)
