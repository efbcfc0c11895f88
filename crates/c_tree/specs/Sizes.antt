-- To be believed. How many tokens a part has. Its place is the number of the tokens before it.
use Rattle.std.specs.Prelude.{ℕ, ◌+◌, List, [], ◌∷◌, length, sum_by, Option, None, Some, Bool, if◌then◌else◌}
use Rattle.c_tree.specs.declared.statements.Bound.{Bound}
use Rattle.c_tree.specs.declared.statements.Kind.{Kind}
use Rattle.c_tree.specs.declared.units.Const.{Const}
use Rattle.c_tree.specs.declared.units.Parameter.{Parameter}
use Rattle.c_tree.specs.Plain.{PlainExpr, PlainSteps, chain, unary, number, name, element, paren, no_step, step, PlainRight, value, call, PlainHead, iterations_while, iterations_for, PlainStmt, PlainBlock, PlainArms, PlainOtherwise, declared, set, set_element, called, sent, chosen, looped, broken, continued, returned, inner, no_stmt, stmt, no_arm, arm, no_else, or_else, PlainItem, global, function}
use Rattle.c_tree.specs.Tokens.{kind_tokens, const_tokens, global_tokens, gives_tokens, parameters_tokens}

abbrev pub kind_size : Kind → ℕ
kind_size k = length (kind_tokens k)

-- a parameter, or a constant of a list, and the token after it: a comma, or what closes the list
abbrev pub parameter_size : Parameter → ℕ
parameter_size p = kind_size p.kind + 2

abbrev pub const_size : Const → ℕ
const_size k = length (const_tokens k) + 1

unfoldable mutual
  pub expr_size : PlainExpr → ℕ
  expr_size (chain level first rest) = expr_size first + steps_size rest
  expr_size (unary ops of) = length ops + expr_size of
  expr_size (number n unsigned) = 1
  expr_size (name text) = 1
  expr_size (element text index) = expr_size index + 3
  expr_size (paren e) = expr_size e + 2

  pub steps_size : PlainSteps → ℕ
  steps_size no_step = 0
  steps_size (step op operand rest) = 1 + expr_size operand + steps_size rest

-- each argument has one token after it; a call without any has three tokens
abbrev pub argument_size : PlainExpr → ℕ
argument_size e = expr_size e + 1

abbrev pub call_size : List PlainExpr → ℕ
call_size [] = 3
call_size (e ∷ args) = 2 + sum_by argument_size (e ∷ args)

abbrev pub right_size : PlainRight → ℕ
right_size (value of) = expr_size of
right_size (call text args) = call_size args

abbrev pub bound_size : Option Bound → ℕ
bound_size None = 0
bound_size (Some b) = 1

abbrev pub head_size : PlainHead → ℕ
head_size (iterations_while condition) = expr_size condition + 3
head_size (iterations_for first from condition next to) = expr_size from + expr_size condition + expr_size to + 9

unfoldable mutual
  pub stmt_size : PlainStmt → ℕ
  stmt_size (declared kind text None) = kind_size kind + 2
  stmt_size (declared kind text (Some r)) = kind_size kind + right_size r + 3
  stmt_size (set text r) = right_size r + 3
  stmt_size (set_element text index r) = expr_size index + right_size r + 5
  stmt_size (called text args) = call_size args + 1
  stmt_size (sent core core_unsigned source target count) = expr_size source + expr_size target + expr_size count + 8
  stmt_size (chosen arms otherwise) = arms_size arms + otherwise_size otherwise
  stmt_size (looped bound head body) = bound_size bound + (head_size head + (2 + block_size body))
  stmt_size broken = 2
  stmt_size continued = 2
  stmt_size (returned None) = 2
  stmt_size (returned (Some e)) = expr_size e + 2
  stmt_size (inner body) = 2 + block_size body

  pub block_size : PlainBlock → ℕ
  block_size no_stmt = 0
  block_size (stmt s rest) = stmt_size s + block_size rest

  -- the first arm, and each further one after `else`
  pub arms_size : PlainArms → ℕ
  arms_size no_arm = 0
  arms_size (arm condition body rest) = expr_size condition + block_size body + 5 + further_size rest

  pub further_size : PlainArms → ℕ
  further_size no_arm = 0
  further_size (arm condition body rest) = 1 + (expr_size condition + block_size body + 5) + further_size rest

  pub otherwise_size : PlainOtherwise → ℕ
  otherwise_size no_else = 0
  otherwise_size (or_else body) = 3 + block_size body

-- the parameters of a function, or the one word `void`
abbrev pub list_size : Bool → List Parameter → ℕ
list_size void_word parameters = if void_word then 1 else length (parameters_tokens parameters)

abbrev pub item_size : PlainItem → ℕ
item_size (global of) = length (global_tokens of)
item_size (function its_kind text void_word parameters body) =
    length (gives_tokens its_kind) + list_size void_word parameters + sum_by stmt_size body + 5
