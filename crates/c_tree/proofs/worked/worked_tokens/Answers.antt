use Rattle.std.proofs.Common.{[], ◌∷◌, Some, false}
use Rattle.c_tree.specs.declared.expressions.Expr.{Number}
use Rattle.c_tree.specs.declared.statements.Head.TheVariants as head
use Rattle.c_tree.specs.declared.statements.Stmt.{Break, Continue}
use Rattle.c_tree.specs.Tokens.{expr_tokens, stmt_tokens}
use Rattle.c_tree.proofs.Blocks.{loop_tokens, if_tokens}
use Rattle.c_tree.proofs.worked.worked_tokens.Goals as goal

pub returns-clause-bounded : goal.returns-clause-bounded
unfolding expr_tokens stmt_tokens
returns-clause-bounded c = loop_tokens (Some (record { min = 1; max = 2 })) (head.While (Number 1 false)) (Break ∷ [])

pub returns-clause-otherwise : goal.returns-clause-otherwise
unfolding expr_tokens stmt_tokens
returns-clause-otherwise c = if_tokens (record { condition = Number 1 false; body = Continue ∷ [] } ∷ []) (Some [])
