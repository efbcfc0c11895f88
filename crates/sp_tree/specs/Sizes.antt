-- For proofs. How large statements are: a run goes from larger to smaller ones.
use Rattle.std.specs.Prelude.{ℕ, zero, suc, ◌+◌, List, slice_index_or}
use Rattle.sp_tree.specs.Statements.{PlainStmt, masks, writes, calls, transfers, overruns, iterations, PlainStmts, no_stmt, stmt, PlainFunction, no_function}

abbrev mutual
  pub stmt_size : PlainStmt → ℕ
  stmt_size (masks slot e) = 1
  stmt_size (writes mask target e) = 1
  stmt_size (calls mask k args result) = 2
  stmt_size (transfers mask core source target count) = 1
  stmt_size (overruns mask e) = 1
  stmt_size (iterations count body) = 2 + stmts_size body

  pub stmts_size : PlainStmts → ℕ
  stmts_size no_stmt = 1
  stmts_size (stmt t rest) = 1 + stmt_size t + stmts_size rest

-- the first so many functions
abbrev pub total : List PlainFunction → ℕ → ℕ
total fs zero = 0
total fs (suc n) = total fs n + stmts_size (slice_index_or fs n no_function).body
