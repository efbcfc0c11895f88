-- The size of a statement that holds a block, by its parts.
use Rattle.std.proofs.Common.{◌≡◌, ◌+◌, List, Option, ap, ◌∙◌}
use Rattle.c_tree.specs.declared.statements.Bound.{Bound}
use Rattle.c_tree.specs.declared.statements.Head.{Head}
use Rattle.c_tree.specs.declared.statements.Stmt.{Stmt}
use Rattle.c_tree.specs.declared.statements.Stmt.TheViews.{Loop, Inner}
use Rattle.c_tree.specs.Plain.{plain_head, plain_stmt}
use Rattle.c_tree.specs.Sizes.{bound_size, head_size, stmt_size, block_size}
use Rattle.c_tree.specs.Plains.{block_of}
use Rattle.c_tree.proofs.Plains.{plain_inner, plain_loop}

pub inner_sized : (s : Stmt) (body : List Stmt) → s ≡ Inner body → stmt_size (plain_stmt s)
    ≡ 2 + block_size (block_of body)
unfolding stmt_size
inner_sized s body is = ap (λ x. stmt_size (plain_stmt x)) is ∙ ap stmt_size (plain_inner body)

pub loop_sized : (s : Stmt) (bound : Option Bound) (head : Head) (body : List Stmt) → s ≡ Loop bound head body
    → stmt_size (plain_stmt s) ≡ bound_size bound + (head_size (plain_head head) + (2 + block_size (block_of body)))
unfolding stmt_size
loop_sized s bound head body is = ap (λ x. stmt_size (plain_stmt x)) is ∙ ap stmt_size (plain_loop bound head body)
