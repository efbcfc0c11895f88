-- To be believed. The counts of a tree's iterations are words.
use Rattle.std.specs.Prelude.{ℕ, ◌<◌, ◌^◌, List, slice_index_or}
use Rattle.sp_tree.specs.Statements.{PlainStmt, iterations, PlainStmts, no_stmt, stmt, PlainFunction, no_function}

abbrev mutual
  pub HasStmtCounts : PlainStmt → Type 0
  HasStmtCounts (iterations count body) = (count < 2 ^ 32) × HasStmtsCounts body
  HasStmtCounts _ = Unit {0}

  pub HasStmtsCounts : PlainStmts → Type 0
  HasStmtsCounts no_stmt = Unit {0}
  HasStmtsCounts (stmt t rest) = HasStmtCounts t × HasStmtsCounts rest

-- those of all functions
abbrev pub HasCounts : List PlainFunction → Type 0
HasCounts fs = (k : ℕ) → HasStmtsCounts (slice_index_or fs k no_function).body
