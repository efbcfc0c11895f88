-- To be believed. Expressions and statements over the words of a frame from a place on.
use Rattle.std.specs.Prelude.{ℕ, ◌+◌, List, [], ◌∷◌, Option, None, Some}
use Rattle.sp_tree.specs.Plain.{PlainSp, constant, frame_word, cell_word, array_word, before_one, between_two}
use Rattle.sp_tree.specs.Statements.{PlainSpTarget, to_slot, to_cell, to_array, PlainStmt, masks, writes, calls, transfers, overruns, iterations, PlainStmts, no_stmt, stmt}

abbrev pub moved : ℕ → PlainSp → PlainSp
moved o (constant n) = constant n
moved o (frame_word slot) = frame_word (o + slot)
moved o (cell_word cell) = cell_word cell
moved o (array_word array index) = array_word array (moved o index)
moved o (before_one op of) = before_one op (moved o of)
moved o (between_two op a b) = between_two op (moved o a) (moved o b)

abbrev pub args_moved : ℕ → List PlainSp → List PlainSp
args_moved o [] = []
args_moved o (e ∷ args) = moved o e ∷ args_moved o args

abbrev pub target_moved : ℕ → PlainSpTarget → PlainSpTarget
target_moved o (to_slot slot) = to_slot (o + slot)
target_moved o (to_cell cell) = to_cell cell
target_moved o (to_array array index) = to_array array (moved o index)

abbrev pub result_moved : ℕ → Option ℕ → Option ℕ
result_moved o None = None
result_moved o (Some slot) = Some (o + slot)

abbrev mutual
  pub stmt_moved : ℕ → PlainStmt → PlainStmt
  stmt_moved o (masks slot e) = masks (o + slot) (moved o e)
  stmt_moved o (writes mask target e) = writes (o + mask) (target_moved o target) (moved o e)
  stmt_moved o (calls mask k args result) = calls (o + mask) k (args_moved o args) (result_moved o result)
  stmt_moved o (transfers mask core source target count) =
      transfers (o + mask) core (moved o source) (moved o target) (moved o count)
  stmt_moved o (overruns mask e) = overruns (o + mask) (moved o e)
  stmt_moved o (iterations count body) = iterations count (stmts_moved o body)

  pub stmts_moved : ℕ → PlainStmts → PlainStmts
  stmts_moved o no_stmt = no_stmt
  stmts_moved o (stmt t rest) = stmt (stmt_moved o t) (stmts_moved o rest)
