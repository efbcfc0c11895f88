-- To be believed. How many words of a frame statements name, and how many functions: one more than the greatest number.
use Rattle.std.specs.Prelude.{ℕ, ◌+◌, max, List, [], ◌∷◌, Option, None, Some}
use Rattle.sp_tree.specs.Plain.{PlainSp, constant, frame_word, cell_word, array_word, before_one, between_two}
use Rattle.sp_tree.specs.Statements.{PlainSpTarget, to_slot, to_cell, to_array, PlainStmt, masks, writes, calls, transfers, overruns, iterations, PlainStmts, no_stmt, stmt}

abbrev pub expr_reach : PlainSp → ℕ
expr_reach (constant n) = 0
expr_reach (frame_word slot) = slot + 1
expr_reach (cell_word cell) = 0
expr_reach (array_word array index) = expr_reach index
expr_reach (before_one op of) = expr_reach of
expr_reach (between_two op a b) = max (expr_reach a) (expr_reach b)

abbrev pub args_reach : List PlainSp → ℕ
args_reach [] = 0
args_reach (e ∷ args) = max (expr_reach e) (args_reach args)

abbrev pub target_reach : PlainSpTarget → ℕ
target_reach (to_slot slot) = slot + 1
target_reach (to_cell cell) = 0
target_reach (to_array array index) = expr_reach index

abbrev pub result_reach : Option ℕ → ℕ
result_reach None = 0
result_reach (Some slot) = slot + 1

abbrev mutual
  pub stmt_reach : PlainStmt → ℕ
  stmt_reach (masks slot e) = max (slot + 1) (expr_reach e)
  stmt_reach (writes mask target e) = max (mask + 1) (max (target_reach target) (expr_reach e))
  stmt_reach (calls mask k args result) = max (mask + 1) (max (args_reach args) (result_reach result))
  stmt_reach (transfers mask core source target count) =
      max (mask + 1) (max (expr_reach source) (max (expr_reach target) (expr_reach count)))
  stmt_reach (overruns mask e) = max (mask + 1) (expr_reach e)
  stmt_reach (iterations count body) = stmts_reach body

  pub stmts_reach : PlainStmts → ℕ
  stmts_reach no_stmt = 0
  stmts_reach (stmt t rest) = max (stmt_reach t) (stmts_reach rest)

abbrev mutual
  pub stmt_calls : PlainStmt → ℕ
  stmt_calls (calls mask k args result) = k + 1
  stmt_calls (iterations count body) = stmts_calls body
  stmt_calls _ = 0

  pub stmts_calls : PlainStmts → ℕ
  stmts_calls no_stmt = 0
  stmts_calls (stmt t rest) = max (stmt_calls t) (stmts_calls rest)
