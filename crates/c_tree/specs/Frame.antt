-- To be believed. The words that a function keeps on the stack (our subset): those that compiled code keeps besides,
-- one for each parameter and each declared variable, two for each loop, and one for each arm of an `if`.
use Rattle.std.specs.Prelude.{ℕ, ◌+◌, List, length, sum_by}
use Rattle.c_tree.specs.declared.limits.TheConstants.{WORDS_BESIDES}
use Rattle.c_tree.specs.declared.units.Parameter.{Parameter}
use Rattle.c_tree.specs.Plain.{PlainStmt, PlainBlock, PlainArms, PlainOtherwise, declared, chosen, looped, inner, no_stmt, stmt, no_arm, arm, no_else, or_else}

unfoldable mutual
  pub stmt_frame : PlainStmt → ℕ
  stmt_frame (declared kind text r) = 1
  stmt_frame (chosen arms otherwise) = arms_frame arms + otherwise_frame otherwise
  stmt_frame (looped bound head body) = 2 + block_frame body
  stmt_frame (inner body) = block_frame body
  stmt_frame _ = 0

  pub block_frame : PlainBlock → ℕ
  block_frame no_stmt = 0
  block_frame (stmt s rest) = stmt_frame s + block_frame rest

  pub arms_frame : PlainArms → ℕ
  arms_frame no_arm = 0
  arms_frame (arm condition body rest) = 1 + block_frame body + arms_frame rest

  pub otherwise_frame : PlainOtherwise → ℕ
  otherwise_frame no_else = 0
  otherwise_frame (or_else body) = block_frame body

abbrev pub body_frame : List PlainStmt → ℕ
body_frame body = sum_by stmt_frame body

abbrev pub function_frame : List Parameter → List PlainStmt → ℕ
function_frame parameters body = WORDS_BESIDES + length parameters + body_frame body
