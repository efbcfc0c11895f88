-- Statements that fit, by their parts.
use Rattle.std.proofs.Common.{◌≡◌, ℕ, ◌+◌, ◌<◌, List, length, get_or, drop, map, Option, Some, sym, subst, ◌∙◌, ap}
use Rattle.std.specs.Prelude.{option_map}
use Rattle.tc_word.proofs.Items.{drop_item}
use Rattle.c_tree.specs.declared.expressions.Expr.{Expr}
use Rattle.c_tree.specs.declared.limits.TheConstants.{MOST_LEVELS}
use Rattle.c_tree.specs.declared.statements.Arm.{Arm}
use Rattle.c_tree.specs.declared.statements.Bound.{Bound}
use Rattle.c_tree.specs.declared.statements.Head.{Head}
use Rattle.c_tree.specs.declared.statements.Kind.{Kind}
use Rattle.c_tree.specs.declared.statements.Right.{Right}
use Rattle.c_tree.specs.declared.statements.Stmt.{Stmt, Declare, Set, SetElement, Call}
use Rattle.c_tree.specs.declared.statements.Stmt.TheViews.{If, Loop, Inner}
use Rattle.c_tree.specs.Plain.{plain_expr, plain_right, plain_stmt}
use Rattle.c_tree.specs.Plains.{block_of, arms_of, otherwise_of}
use Rattle.c_tree.proofs.Plains.{plain_inner, plain_loop, plain_if}
use Rattle.c_meaning.specs.Fits.{ArgsFit, RightFits, FirstFits, StmtFits, BlockFits, ArmsFit, OtherwiseFits}
use Rattle.c_meaning.specs.Meaning.{names_after}
use Rattle.c_meaning.specs.Values.{Names}

pub declare_fits : (o : Names) (s : Stmt) (kind : Kind) (text : List ℕ) (r : Option Right) → s ≡ Declare kind text r
    → StmtFits o (plain_stmt s)
    → (length o.variables < MOST_LEVELS) × FirstFits (option_map plain_right r)
unfolding plain_stmt
declare_fits o s kind text r is fits = subst (λ x. StmtFits o (plain_stmt x)) is fits

pub set_fits : (o : Names) (s : Stmt) (text : List ℕ) (r : Right) → s ≡ Set text r → StmtFits o (plain_stmt s)
    → RightFits (plain_right r)
unfolding plain_stmt
set_fits o s text r is fits = subst (λ x. StmtFits o (plain_stmt x)) is fits

pub set_element_fits : (o : Names) (s : Stmt) (text : List ℕ) (index : Expr) (r : Right) → s ≡ SetElement text index r
    → StmtFits o (plain_stmt s)
    → RightFits (plain_right r)
unfolding plain_stmt
set_element_fits o s text index r is fits = subst (λ x. StmtFits o (plain_stmt x)) is fits

pub call_fits : (o : Names) (s : Stmt) (text : List ℕ) (args : List Expr) → s ≡ Call text args
    → StmtFits o (plain_stmt s) → ArgsFit (map plain_expr args)
unfolding plain_stmt
call_fits o s text args is fits = subst (λ x. StmtFits o (plain_stmt x)) is fits

if_fits : (o : Names) (s : Stmt) (arms : List Arm) (otherwise : Option (List Stmt)) → s ≡ If arms otherwise
    → StmtFits o (plain_stmt s)
    → ArmsFit o (arms_of arms) × OtherwiseFits o (otherwise_of otherwise)
if_fits o s arms otherwise is fits = subst (StmtFits o) (ap plain_stmt is ∙ plain_if arms otherwise) fits

pub arms_fits : (o : Names) (s : Stmt) (arms them : List Arm) (otherwise : Option (List Stmt)) → s ≡ If arms otherwise
    → them ≡ arms → StmtFits o (plain_stmt s)
    → ArmsFit o (arms_of them)
arms_fits o s arms them otherwise is same fits =
    subst (λ xs. ArmsFit o (arms_of xs)) (sym same) (if_fits o s arms otherwise is fits).0

pub else_fits : (o p : Names) (s : Stmt) (arms : List Arm) (otherwise : Option (List Stmt)) (body them : List Stmt) → s
    ≡ If arms otherwise
    → otherwise ≡ Some body → them ≡ body → p ≡ o → StmtFits o (plain_stmt s) → BlockFits p (block_of them)
else_fits o p s arms otherwise body them is some same kept fits =
    subst (λ n. BlockFits n (block_of them)) (sym kept)
    (subst (λ ss. BlockFits o (block_of ss)) (sym same) (subst (λ x. OtherwiseFits o (otherwise_of x)) some
    (if_fits o s arms otherwise is fits).1))

pub loop_fits : (o : Names) (s : Stmt) (bound : Option Bound) (head : Head) (body them : List Stmt) → s
    ≡ Loop bound head body → them ≡ body
    → StmtFits o (plain_stmt s) → BlockFits o (block_of them)
loop_fits o s bound head body them is same fits =
    subst (λ ss. BlockFits o (block_of ss)) (sym same)
    (subst (StmtFits o) (ap plain_stmt is ∙ plain_loop bound head body) fits)

pub inner_fits : (o : Names) (s : Stmt) (body them : List Stmt) → s ≡ Inner body → them ≡ body
    → StmtFits o (plain_stmt s) → BlockFits o (block_of them)
inner_fits o s body them is same fits =
    subst (λ ss. BlockFits o (block_of ss)) (sym same) (subst (StmtFits o) (ap plain_stmt is ∙ plain_inner body) fits)

-- ---- lists, from an item on

pub block_fits : (o : Names) (body : List Stmt) (i : ℕ) (s : Stmt) → i < length body → s ≡ get_or body i s
    → BlockFits o (block_of (drop i body))
    → StmtFits o (plain_stmt s) × BlockFits (names_after o (plain_stmt s)) (block_of (drop (i + 1) body))
block_fits o body i s within is fits = subst (λ ss. BlockFits o (block_of ss)) (drop_item body i s within is) fits

pub arms_fit : (o : Names) (arms : List Arm) (i : ℕ) (a : Arm) → i < length arms → a ≡ get_or arms i a
    → ArmsFit o (arms_of (drop i arms))
    → BlockFits o (block_of a.body) × ArmsFit o (arms_of (drop (i + 1) arms))
arms_fit o arms i a within is fits = subst (λ as'. ArmsFit o (arms_of as')) (drop_item arms i a within is) fits
