-- For worked rows. A task with an arm.
use Rattle.std.specs.Prelude.{ℕ}
use Rattle.sp_tree.specs.Plain.{PlainSp, constant, frame_word, between_two}
use Rattle.sp_tree.specs.Small.{unit_of}
use Rattle.sp_tree.specs.Statements.{to_slot, masks, writes, PlainStmts, stmt, one, PlainUnit}
use Rattle.sp_tree.specs.declared.operators.SpBinary.TheVariants as binary

-- the mask of the task is word 0, that of the arm word 2, and that of what stands after its `else` word 3; under the mask
-- of a word the result becomes 7
abbrev pub arm : PlainSp → ℕ → PlainStmts
arm condition mask =
    stmt (masks 0 (between_two binary.Equal (frame_word 0) (constant 1)))
    (stmt (masks 2 (between_two binary.BitAnd (frame_word 0) condition))
    (stmt (masks 3 (between_two binary.BitXor (frame_word 0) (frame_word 2)))
    (one (writes mask (to_slot 1) (constant 7)))))

abbrev pub in_arm : PlainSp → ℕ → PlainUnit
in_arm condition mask = unit_of (arm condition mask)
