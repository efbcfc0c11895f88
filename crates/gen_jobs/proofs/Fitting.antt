-- The tree fits the grammar.
use Rattle.std.proofs.Common.{◌≡◌, ℕ, zero, suc, ◌+◌, ◌%◌, ◌≤◌, refl, codes, arith}
use Rattle.std.proofs.lemmas.Grind.{common_steps}
use Rattle.std.specs.List.{AllByRecursion as Each}
use denote.Hole.Carrier.{hidden}
use Rattle.job_gen.specs.Generator.{after, draw, next}
use Rattle.job_gen.specs.declared.task.TheConstants.{FUNCTIONS, MASKS, VALUES}
use Rattle.c_tree.specs.declared.expressions.BinaryOp.{BinaryOp}
use Rattle.c_tree.specs.declared.expressions.BinaryOp.TheVariants as binary
use Rattle.c_tree.specs.declared.expressions.Expr.{Expr}
use Rattle.c_tree.specs.declared.expressions.Expr.TheViews.{Element, Paren}
use Rattle.c_tree.specs.declared.expressions.Expr.TheBlock.{hidden-the_row-Step-0}
use Rattle.c_tree.specs.declared.statements.Stmt.TheBlock.{hidden-the_row-Stmt-0, hidden-the_row-Arm-1}
use Rattle.c_tree.specs.Tokens.{expr_tokens, steps_tokens, stmt_tokens, block_tokens, arms_tokens, further_tokens, otherwise_tokens, tokens_of}
use Rattle.c_tree.specs.Fits.{ExprFits, StepsFit, StmtFits, BlockFits, ArmsFit, OtherwiseFits, FunctionFits, ItemFits, Fits, level_of, rank, most_open}
use Rattle.gen_jobs.proofs.Trees.{between, boxed, choice, function_of, functions_from, main, masked, mixed, moved_down, moved_up, number, scaled, test, tree_of, turn_from, variable}

-- an operator with its operands, of a rank above its level
between_fits : (level : ℕ) (first : Expr) (op : BinaryOp) (operand : Expr) → 1 ≤ level → level ≤ 10 → level_of op
    ≡ level → level + 1 ≤ rank first → level + 1 ≤ rank operand
    → ExprFits first → ExprFits operand → ExprFits (between level first op operand)
unfolding ExprFits StepsFit hidden-the_row-Step-0 hidden
between_fits level first op operand low high same above below fits also =
    (low, high, tt, above, fits, (same, below, also, tt))

-- the same for a level by its number, where each operand is of rank 12
primary_fits : (level : ℕ) (first : Expr) (op : BinaryOp) (operand : Expr) → 1 ≤ level → level ≤ 10 → level_of op
    ≡ level → rank first ≡ 12 → rank operand ≡ 12
    → ExprFits first → ExprFits operand → ExprFits (between level first op operand)
primary_fits level first op operand low high same above below =
    between_fits level first op operand low high same (omega (arith, above, high)) (omega (arith, below, high))

test_fits : (mask : ℕ) → ExprFits (test mask)
unfolding ExprFits
test_fits mask =
    primary_fits 6 (Paren (boxed (masked mask))) binary.Equal (number 0) (omega arith) (omega arith) refl refl refl
    (primary_fits 5 (variable (codes "x")) binary.BitAnd (number mask) (omega arith) (omega arith) refl refl refl tt tt)
    tt

up_fits : (factor term : ℕ) → ExprFits (moved_up factor term)
unfolding ExprFits
up_fits factor term =
    between_fits 9 (scaled factor) binary.Plus (number term) (omega arith) (omega arith) refl
    (omega arith) (omega arith)
    (primary_fits 10 (variable (codes "x")) binary.Times (number factor) (omega arith) (omega arith) refl
    refl refl tt tt) tt

down_fits : (factor term : ℕ) → ExprFits (moved_down factor term)
unfolding ExprFits
down_fits factor term =
    primary_fits 9 (Paren (boxed (mixed term))) binary.Minus (number factor) (omega arith) (omega arith) refl refl refl
    (primary_fits 4 (variable (codes "x")) binary.BitXor (number term) (omega arith) (omega arith) refl refl refl tt tt)
    tt

choice_fits : (mask factor term : ℕ) → StmtFits (choice mask factor term)
unfolding StmtFits BlockFits ArmsFit OtherwiseFits hidden-the_row-Stmt-0 hidden-the_row-Arm-1 hidden
choice_fits mask factor term = (tt, (test_fits mask, (up_fits factor term, tt), tt), (down_fits factor term, tt))

function_fits : (index mask factor term : ℕ) → FunctionFits (function_of index mask factor term)
unfolding ExprFits StmtFits
function_fits index mask factor term =
    (λ e. absurd (grind (arith, common_steps)), (tt, (choice_fits mask factor term, (tt, tt))))

turn_fits : (left index : ℕ) → BlockFits (hidden-the_row-Stmt-0 (turn_from left index))
unfolding ExprFits StmtFits BlockFits hidden-the_row-Stmt-0 hidden
turn_fits zero index =
    (primary_fits 9 (variable (codes "i")) binary.Plus (number 1) (omega arith) (omega arith) refl refl refl tt tt, tt)
turn_fits (suc left) index = ((tt, tt), turn_fits left (index + 1))

main_fits : FunctionFits main
unfolding ExprFits StmtFits BlockFits hidden-the_row-Stmt-0 hidden
main_fits = (
  λ e. refl,
  (
    tt,
    (
      tt,
      (
        (
          primary_fits 7 (variable (codes "i")) binary.Less (number 16) (omega arith) (omega arith) refl
              refl refl tt tt,
          (
            primary_fits 9 (variable (codes "s")) binary.Plus (Element (codes "in") (boxed (variable (codes "i"))))
                (omega arith) (omega arith) refl refl refl tt tt,
            turn_fits FUNCTIONS 0,
          ),
        ),
        ((tt, tt), (tt, tt)),
      ),
    ),
  ),
)

functions_fit : (left index x : ℕ) → Each ItemFits (functions_from left index x)
functions_fit zero index x = (main_fits, tt)
functions_fit (suc left) index x = (
  function_fits index (draw x % MASKS) (draw (next x) % VALUES)
      (draw (next (next x)) % VALUES),
  functions_fit left (index + 1) (after 3 x),
)

brackets : (x : ℕ) → most_open 0 (tokens_of (tree_of x)) ≡ 3
unfolding expr_tokens steps_tokens stmt_tokens block_tokens arms_tokens further_tokens otherwise_tokens
    hidden-the_row-Step-0 hidden-the_row-Stmt-0 hidden-the_row-Arm-1 hidden
brackets x = refl

pub tree_fits : (x : ℕ) → Fits (tree_of x)
tree_fits x = record { grammar = (tt, (tt, functions_fit FUNCTIONS 0 x)); brackets = omega (arith, brackets x) }
