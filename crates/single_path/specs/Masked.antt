-- To be believed. The words of a frame that masks are set in.
use Rattle.std.specs.Prelude.{ℕ, ◌==◌, Bool, false, ◌||◌}
use Rattle.sp_tree.specs.Statements.{PlainStmt, masks, iterations, PlainStmts, no_stmt, stmt}

-- whether a statement `Mask` is made that sets the word, in iterations too
abbrev mutual
  pub stmt_masks : ℕ → PlainStmt → Bool
  stmt_masks x (masks slot e) = slot == x
  stmt_masks x (iterations count body) = stmts_mask x body
  stmt_masks x _ = false

  pub stmts_mask : ℕ → PlainStmts → Bool
  stmts_mask x no_stmt = false
  stmts_mask x (stmt t rest) = stmt_masks x t || stmts_mask x rest
