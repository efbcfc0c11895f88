-- To be believed. Weights (our subset): for each part of a program, the most words that its code may take.
use Rattle.std.specs.Prelude.{ℕ, ◌+◌, ◌*◌, List, length, sum_by, None, Some}
use Rattle.c_tree.specs.declared.expressions.BinaryOp.{BinaryOp}
use Rattle.c_tree.specs.declared.expressions.BinaryOp.TheVariants as binary
use Rattle.c_tree.specs.Plain.{PlainExpr, PlainSteps, chain, unary, number, name, element, paren, no_step, step, PlainRight, value, call, PlainHead, iterations_while, iterations_for, PlainStmt, PlainBlock, PlainArms, PlainOtherwise, declared, set, set_element, called, sent, chosen, looped, broken, continued, returned, inner, no_stmt, stmt, no_arm, arm, no_else, or_else, PlainItem, global, function}

abbrev pub operator_weight : BinaryOp → ℕ
operator_weight op = elim op as (λ _. ℕ) [
  | binary.Times ↦ 10
  | binary.Divide ↦ 64
  | binary.Remainder ↦ 64
  | _ ↦ 8
]

unfoldable mutual
  pub expr_weight : PlainExpr → ℕ
  expr_weight (chain level first rest) = expr_weight first + steps_weight rest
  expr_weight (unary ops of) = 6 * length ops + expr_weight of
  expr_weight (number n unsigned) = 4
  expr_weight (name text) = 4
  expr_weight (element text index) = 16 + expr_weight index
  expr_weight (paren e) = expr_weight e

  pub steps_weight : PlainSteps → ℕ
  steps_weight no_step = 0
  steps_weight (step op operand rest) = operator_weight op + expr_weight operand + steps_weight rest

-- a call, with 6 for each argument
abbrev pub args_weight : List PlainExpr → ℕ
args_weight args = 48 + sum_by (λ e. 6 + expr_weight e) args

abbrev pub right_weight : PlainRight → ℕ
right_weight (value of) = expr_weight of
right_weight (call text args) = args_weight args

-- a `for` has its two assignments besides
abbrev pub head_weight : PlainHead → ℕ
head_weight (iterations_while condition) = 48 + 2 * expr_weight condition
head_weight (iterations_for first from condition next to) =
    48 + 2 * expr_weight condition + (12 + expr_weight from) + (12 + expr_weight to)

unfoldable mutual
  pub stmt_weight : PlainStmt → ℕ
  stmt_weight (declared kind text None) = 12 + 4
  stmt_weight (declared kind text (Some r)) = 12 + right_weight r
  stmt_weight (set text r) = 12 + right_weight r
  stmt_weight (set_element text index r) = 28 + expr_weight index + right_weight r
  stmt_weight (called text args) = args_weight args
  stmt_weight (sent core core_unsigned source target count) =
      32 + expr_weight source + expr_weight target + expr_weight count
  stmt_weight (chosen arms otherwise) = arms_weight arms + otherwise_weight otherwise
  stmt_weight (looped bound head body) = head_weight head + block_weight body
  stmt_weight broken = 16
  stmt_weight continued = 16
  stmt_weight (returned None) = 16
  stmt_weight (returned (Some e)) = 16 + expr_weight e
  stmt_weight (inner body) = block_weight body

  pub block_weight : PlainBlock → ℕ
  block_weight no_stmt = 0
  block_weight (stmt s rest) = stmt_weight s + block_weight rest

  pub arms_weight : PlainArms → ℕ
  arms_weight no_arm = 0
  arms_weight (arm condition body rest) = 24 + expr_weight condition + block_weight body + arms_weight rest

  -- an `else` block is no arm
  pub otherwise_weight : PlainOtherwise → ℕ
  otherwise_weight no_else = 0
  otherwise_weight (or_else body) = block_weight body

abbrev pub body_weight : List PlainStmt → ℕ
body_weight body = sum_by stmt_weight body

abbrev pub function_weight : List PlainStmt → ℕ
function_weight body = 64 + body_weight body

-- a task weighs what its functions weigh
abbrev pub item_weight : PlainItem → ℕ
item_weight (global of) = 0
item_weight (function its_kind text void_word parameters body) = function_weight body

abbrev pub items_weight : List PlainItem → ℕ
items_weight items = sum_by item_weight items
