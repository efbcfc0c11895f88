-- The plain trees of parts that hold lists, by these lists.
use Rattle.std.proofs.Common.{◌≡◌, ℕ, List, [], ◌∷◌, Option, None, Some, refl, ap, ◌∙◌}
use denote.Hole.Carrier.{hidden}
use Rattle.std.specs.declared.boxed.Box.{Box}
use Rattle.std.specs.Global.{Global}
use Rattle.c_tree.specs.declared.expressions.Expr.{Expr}
use Rattle.c_tree.specs.declared.expressions.Expr.TheViews.{Chain}
use Rattle.c_tree.specs.declared.expressions.Expr.TheBlock.{hidden-the_row-Step-0}
use Rattle.c_tree.specs.declared.expressions.Step.{Step}
use Rattle.c_tree.specs.declared.statements.Head.{Head}
use Rattle.c_tree.specs.declared.statements.Bound.{Bound}
use Rattle.c_tree.specs.declared.statements.Arm.{Arm}
use Rattle.c_tree.specs.declared.statements.Stmt.{Stmt}
use Rattle.c_tree.specs.declared.statements.Stmt.TheViews.{Inner, Loop, If}
use Rattle.c_tree.specs.declared.statements.Stmt.TheBlock.{hidden-the_row-Stmt-0, hidden-the_row-Arm-1}
use Rattle.c_tree.specs.Plain.{chain, step, plain_expr, plain_steps, stmt, arm, no_else, or_else, inner, looped, chosen, plain_head, plain_stmt, plain_block, plain_arms, plain_otherwise}
use Rattle.c_tree.specs.Plains.{steps_of, block_of, arms_of, otherwise_of}

-- ---- expressions

row_steps : (steps : List Step) → plain_steps (hidden-the_row-Step-0 steps) ≡ steps_of steps
unfolding plain_expr plain_steps hidden-the_row-Step-0 hidden
row_steps [] = refl
row_steps (s ∷ steps) = ap (step s.op (plain_expr s.operand)) (row_steps steps)

pub plain_chain : (level : ℕ) (b : Box Expr Global) (steps : List Step) → plain_expr (Chain level b steps)
    ≡ chain level (plain_expr b.value) (steps_of steps)
unfolding plain_expr
plain_chain level b steps = ap (chain level (plain_expr b.value)) (row_steps steps)

-- ---- statements

row_block : (body : List Stmt) → plain_block (hidden-the_row-Stmt-0 body) ≡ block_of body
unfolding plain_stmt plain_block hidden-the_row-Stmt-0 hidden
row_block [] = refl
row_block (s ∷ body) = ap (stmt (plain_stmt s)) (row_block body)

row_arms : (arms : List Arm) → plain_arms (hidden-the_row-Arm-1 arms) ≡ arms_of arms
unfolding plain_stmt plain_block plain_arms hidden-the_row-Arm-1 hidden
row_arms [] = refl
row_arms (a ∷ arms) =
    ap (λ block. arm (plain_expr a.condition) block (plain_arms (hidden-the_row-Arm-1 arms))) (row_block a.body)
    ∙ ap (arm (plain_expr a.condition) (block_of a.body)) (row_arms arms)

pub plain_inner : (body : List Stmt) → plain_stmt (Inner body) ≡ inner (block_of body)
unfolding plain_stmt
plain_inner body = ap inner (row_block body)

pub plain_loop : (bound : Option Bound) (head : Head) (body : List Stmt) → plain_stmt (Loop bound head body)
    ≡ looped bound (plain_head head) (block_of body)
unfolding plain_stmt
plain_loop bound head body = ap (looped bound (plain_head head)) (row_block body)

pub plain_if : (arms : List Arm) (otherwise : Option (List Stmt)) → plain_stmt (If arms otherwise)
    ≡ chosen (arms_of arms) (otherwise_of otherwise)
unfolding plain_stmt plain_otherwise
plain_if arms None = ap (λ them. chosen them no_else) (row_arms arms)
plain_if arms (Some body) =
    ap (λ them. chosen them (or_else (plain_block (hidden-the_row-Stmt-0 body)))) (row_arms arms)
    ∙ ap (λ block. chosen (arms_of arms) (or_else block)) (row_block body)
