-- To be believed. How often the code of single-path statements is run at most, and how many calls stand in them.
use Rattle.std.specs.Prelude.{ℕ, ◌+◌, ◌*◌, max, List, [], ◌∷◌}
use Rattle.sp_tree.specs.declared.operators.SpBinary.{SpBinary}
use Rattle.sp_tree.specs.declared.operators.SpBinary.TheVariants as binary
use Rattle.sp_tree.specs.Plain.{PlainSp, constant, frame_word, cell_word, array_word, before_one, between_two}
use Rattle.sp_tree.specs.Statements.{PlainSpTarget, to_slot, to_cell, to_array, PlainStmt, masks, writes, calls, transfers, overruns, iterations, PlainStmts, no_stmt, stmt}

-- ---- iterations: the most that nested loops make together, each of them in every iteration of the one around it

-- long division takes 16
abbrev pub op_iterations : SpBinary → ℕ
op_iterations binary.Divide = 16
op_iterations binary.DivideUnsigned = 16
op_iterations binary.Remainder = 16
op_iterations binary.RemainderUnsigned = 16
op_iterations _ = 1

abbrev pub expr_iterations : PlainSp → ℕ
expr_iterations (constant n) = 1
expr_iterations (frame_word slot) = 1
expr_iterations (cell_word cell) = 1
expr_iterations (array_word array index) = expr_iterations index
expr_iterations (before_one op of) = expr_iterations of
expr_iterations (between_two op a b) = max (op_iterations op) (max (expr_iterations a) (expr_iterations b))

abbrev pub args_iterations : List PlainSp → ℕ
args_iterations [] = 1
args_iterations (e ∷ args) = max (expr_iterations e) (args_iterations args)

abbrev pub target_iterations : PlainSpTarget → ℕ
target_iterations (to_slot slot) = 1
target_iterations (to_cell cell) = 1
target_iterations (to_array array index) = expr_iterations index

abbrev mutual
  pub stmt_iterations : PlainStmt → ℕ
  stmt_iterations (masks slot e) = expr_iterations e
  stmt_iterations (writes mask target e) = max (target_iterations target) (expr_iterations e)
  stmt_iterations (calls mask k args result) = args_iterations args
  stmt_iterations (transfers mask core source target count) =
      max (expr_iterations source) (max (expr_iterations target) (expr_iterations count))
  stmt_iterations (overruns mask e) = expr_iterations e
  stmt_iterations (iterations count body) = max 1 (count * stmts_iterations body)

  pub stmts_iterations : PlainStmts → ℕ
  stmts_iterations no_stmt = 1
  stmts_iterations (stmt t rest) = max (stmt_iterations t) (stmts_iterations rest)

-- ---- calls, each counted once, however often it is run

abbrev mutual
  pub stmt_call_count : PlainStmt → ℕ
  stmt_call_count (calls mask k args result) = 1
  stmt_call_count (iterations count body) = stmts_call_count body
  stmt_call_count _ = 0

  pub stmts_call_count : PlainStmts → ℕ
  stmts_call_count no_stmt = 0
  stmts_call_count (stmt t rest) = stmt_call_count t + stmts_call_count rest
