-- For proofs. How many statements of a list stand in the place of a call: all but a mask that is set last.
use Rattle.std.specs.Prelude.{ℕ, ◌-◌, false, if◌then◌else◌, List, length}
use Rattle.sp_tree.specs.declared.statements.SpStmt.{SpStmt}
use Rattle.sp_tree.specs.Shown.{stmts_of}
use Rattle.sp_inline.specs.Taken.{ends_so}

abbrev pub kept_count : ℕ → List SpStmt → ℕ
kept_count result body = if ends_so result false (stmts_of body) then length body - 1 else length body
