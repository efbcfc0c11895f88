-- To be believed. How the statements of each function of C begin: its mask is set to whether it is 1.
use Rattle.std.specs.Prelude.{ℕ, ◌==◌, ◌&&◌, Bool, true, false}
use Rattle.sp_tree.specs.declared.operators.SpBinary.{SpBinary}
use Rattle.sp_tree.specs.declared.operators.SpBinary.TheVariants as binary
use Rattle.sp_tree.specs.Plain.{PlainSp, constant, frame_word, between_two}
use Rattle.sp_tree.specs.Statements.{PlainStmts, masks, stmt}

abbrev pub is_equal : SpBinary → Bool
is_equal binary.Equal = true
is_equal _ = false

abbrev pub is_word : ℕ → PlainSp → Bool
is_word word (frame_word slot) = slot == word
is_word word _ = false

abbrev pub is_one : PlainSp → Bool
is_one (constant n) = n == 1
is_one _ = false

-- whether the first statement sets the word of a mask to whether it is 1
abbrev pub tests_mask : ℕ → PlainStmts → Bool
tests_mask mask (stmt (masks slot (between_two op a b)) rest) =
    slot == mask && (is_equal op && (is_word mask a && is_one b))
tests_mask mask _ = false
