-- What the functions of a generated C text weigh, and the loops and calls of their trees.
use Rattle.std.proofs.Common.{◌≡◌, ℕ, zero, suc, ◌==◌, Bool, true, false, List, [], ◌∷◌, length, slice_index_or, refl}
use Rattle.std.specs.Prelude.{◌&&◌}
use Rattle.std.specs.Fmt.{digits}
use denote.Hole.Carrier.{hidden}
use Rattle.c_tree.specs.declared.expressions.Expr.TheBlock.{hidden-the_row-Step-0}
use Rattle.c_tree.specs.declared.statements.Stmt.TheBlock.{hidden-the_row-Stmt-0, hidden-the_row-Arm-1}
use Rattle.c_tree.specs.Plain.{PlainItem, plain, plain_expr, plain_steps, plain_stmt, plain_block, plain_arms, plain_otherwise}
use Rattle.c_tree.specs.Weight.{expr_weight, steps_weight, stmt_weight, block_weight, arms_weight, otherwise_weight}
use Rattle.sp_tree.specs.Statements.{PlainFunction, no_function}
use Rattle.single_path.specs.Single.{weights_in, with_calls}
use Rattle.weight_bounds.specs.Trees.{stmts_iterations, stmts_call_count}
use Rattle.gen_jobs.proofs.Trees.{tree_of}

-- the items of the C text whose draws begin at a state
abbrev pub items_of : ℕ → List PlainItem
items_of x = plain (tree_of x)

-- the same number so many times, before others
abbrev pub copies : ℕ → ℕ → List ℕ → List ℕ
copies zero n rest = rest
copies (suc count) n rest = n ∷ copies count n rest

pub weights_are : (x : ℕ) → weights_in (items_of x) ≡ copies 24 234 (1984 ∷ [])
unfolding digits plain_expr plain_steps plain_stmt plain_block plain_arms plain_otherwise hidden-the_row-Step-0
    hidden-the_row-Stmt-0 hidden-the_row-Arm-1 hidden
    expr_weight steps_weight stmt_weight block_weight arms_weight otherwise_weight
weights_are x = refl

-- a function without loops and calls
abbrev pub is_leaf : PlainFunction → Bool
is_leaf f = (stmts_iterations f.body == 1) && (stmts_call_count f.body == 0)

-- the first so many functions
abbrev pub are_leaves : ℕ → List PlainFunction → Bool
are_leaves zero fs = true
are_leaves (suc n) [] = false
are_leaves (suc n) (f ∷ fs) = is_leaf f && are_leaves n fs

pub leaves_are : (x : ℕ) → are_leaves 24 (with_calls (items_of x)).functions ≡ true
unfolding digits plain_expr plain_steps plain_stmt plain_block plain_arms plain_otherwise hidden-the_row-Step-0
    hidden-the_row-Stmt-0 hidden-the_row-Arm-1 hidden
leaves_are x = refl

pub many_are : (x : ℕ) → length (with_calls (items_of x)).functions ≡ 25
unfolding digits plain_expr plain_steps plain_stmt plain_block plain_arms plain_otherwise hidden-the_row-Step-0
    hidden-the_row-Stmt-0 hidden-the_row-Arm-1 hidden
many_are x = refl

pub entry_is : (x : ℕ) → (with_calls (items_of x)).entry ≡ 24
unfolding digits plain_expr plain_steps plain_stmt plain_block plain_arms plain_otherwise hidden-the_row-Step-0
    hidden-the_row-Stmt-0 hidden-the_row-Arm-1 hidden
entry_is x = refl

pub iterations_are : (x : ℕ) → stmts_iterations (slice_index_or (with_calls (items_of x)).functions 24 no_function).body
    ≡ 16
unfolding digits plain_expr plain_steps plain_stmt plain_block plain_arms plain_otherwise hidden-the_row-Step-0
    hidden-the_row-Stmt-0 hidden-the_row-Arm-1 hidden
iterations_are x = refl

pub calls_are : (x : ℕ) → stmts_call_count (slice_index_or (with_calls (items_of x)).functions 24 no_function).body ≡ 24
unfolding digits plain_expr plain_steps plain_stmt plain_block plain_arms plain_otherwise hidden-the_row-Step-0
    hidden-the_row-Stmt-0 hidden-the_row-Arm-1 hidden
calls_are x = refl
