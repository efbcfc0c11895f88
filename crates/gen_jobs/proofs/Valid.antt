-- The tree is valid.
use Rattle.std.proofs.Common.{ℕ, refl}
use Rattle.std.specs.Fmt.{digits}
use denote.Hole.Carrier.{hidden}
use Rattle.c_tree.specs.declared.expressions.Expr.TheBlock.{hidden-the_row-Step-0}
use Rattle.c_tree.specs.declared.statements.Stmt.TheBlock.{hidden-the_row-Stmt-0, hidden-the_row-Arm-1}
use Rattle.c_tree.specs.Plain.{plain, plain_expr, plain_steps, plain_stmt, plain_block, plain_arms, plain_otherwise}
use Rattle.c_tree.specs.Checks.{expr_faults, steps_faults, stmt_faults, block_faults, arms_faults, otherwise_faults}
use Rattle.c_tree.specs.Sizes.{expr_size, steps_size, stmt_size, block_size, arms_size, further_size, otherwise_size}
use Rattle.c_tree.specs.Weight.{expr_weight, steps_weight, stmt_weight, block_weight, arms_weight, otherwise_weight}
use Rattle.c_tree.specs.Frame.{stmt_frame, block_frame, arms_frame, otherwise_frame}
use Rattle.c_tree.specs.Depth.{expr_depth, steps_depth}
use Rattle.c_tree.specs.Valid.{IsValid}
use Rattle.gen_jobs.proofs.Trees.{tree_of}

pub tree_is_valid : (x core : ℕ) → IsValid (plain (tree_of x)) 4 core
unfolding digits plain_expr plain_steps plain_stmt plain_block plain_arms plain_otherwise hidden-the_row-Step-0
    hidden-the_row-Stmt-0 hidden-the_row-Arm-1 hidden
    expr_faults steps_faults stmt_faults block_faults arms_faults otherwise_faults expr_size steps_size stmt_size
    block_size arms_size further_size otherwise_size
    expr_weight steps_weight stmt_weight block_weight arms_weight otherwise_weight stmt_frame block_frame arms_frame
    otherwise_frame expr_depth steps_depth
tree_is_valid x core = refl
