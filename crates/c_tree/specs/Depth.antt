-- To be believed. How deep an expression is (our subset): how many operands wait at
-- once, at most, while it is evaluated.
use Rattle.std.specs.Prelude.{ℕ, ◌+◌, max}
use Rattle.c_tree.specs.Plain.{PlainExpr, PlainSteps, chain, unary, number, name, element, paren, no_step, step}

unfoldable mutual
  pub expr_depth : PlainExpr → ℕ
  expr_depth (chain level first rest) = max (expr_depth first) (steps_depth rest)
  expr_depth (unary ops of) = expr_depth of
  expr_depth (number n unsigned) = 1
  expr_depth (name text) = 1
  expr_depth (element text index) = expr_depth index
  expr_depth (paren e) = expr_depth e

  -- each operand but the first waits for one more
  pub steps_depth : PlainSteps → ℕ
  steps_depth no_step = 0
  steps_depth (step op operand rest) = max (1 + expr_depth operand) (steps_depth rest)
