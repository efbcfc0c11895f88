-- Sizes of statements, by their parts: what goes through them goes from larger to smaller ones.
use Rattle.std.proofs.Common.{◌≡◌, ℕ, ◌+◌, ◌<◌, ◌≤◌, zero, suc, List, [], ◌∷◌, length, get_or, Option, Some, sym, subst, ap, ◌∙◌, arith}
use Rattle.c_tree.specs.declared.statements.Arm.{Arm}
use Rattle.c_tree.specs.declared.statements.Stmt.{Stmt}
use Rattle.c_tree.specs.declared.statements.Stmt.TheViews.{If}
use Rattle.c_tree.specs.Plain.{plain_stmt}
use Rattle.c_tree.specs.Sizes.{stmt_size, block_size, arms_size, further_size, otherwise_size}
use Rattle.c_tree.specs.Plains.{block_of, arms_of, otherwise_of}
use Rattle.c_tree.proofs.Plains.{plain_if}

pub if_size : (s : Stmt) (arms : List Arm) (otherwise : Option (List Stmt)) → s ≡ If arms otherwise
    → stmt_size (plain_stmt s) ≡ arms_size (arms_of arms) + otherwise_size (otherwise_of otherwise)
unfolding stmt_size
if_size s arms otherwise is = ap (λ x. stmt_size (plain_stmt x)) is ∙ ap stmt_size (plain_if arms otherwise)

pub else_size : (otherwise : Option (List Stmt)) (body : List Stmt) → otherwise ≡ Some body
    → otherwise_size (otherwise_of otherwise) ≡ 3 + block_size (block_of body)
unfolding otherwise_size
else_size otherwise body some = ap (λ x. otherwise_size (otherwise_of x)) some

pub stmt_in_block : (body : List Stmt) (i : ℕ) (s : Stmt) → i < length body → s ≡ get_or body i s
    → stmt_size (plain_stmt s) ≤ block_size (block_of body)
unfolding block_size
stmt_in_block [] i s below is = absurd (omega (arith, below))
stmt_in_block (x ∷ body) zero s below is = subst (λ y. stmt_size (plain_stmt y) ≤ stmt_size (plain_stmt x)
    + block_size (block_of body)) (sym is) (omega arith)
stmt_in_block (x ∷ body) (suc i) s below is = omega (arith, stmt_in_block body i s (omega (arith, below)) is)

block_in_further : (arms : List Arm) (i : ℕ) (a : Arm) → i < length arms → a ≡ get_or arms i a
    → block_size (block_of a.body) + 5 ≤ further_size (arms_of arms)
unfolding further_size
block_in_further [] i a below is = absurd (omega (arith, below))
block_in_further (x ∷ arms) zero a below is =
    subst (λ y. block_size (block_of y.body) + 5 ≤ further_size (arms_of (x ∷ arms))) (sym is) (omega arith)
block_in_further (x ∷ arms) (suc i) a below is = omega (arith, block_in_further arms i a (omega (arith, below)) is)

pub block_in_arms : (arms : List Arm) (i : ℕ) (a : Arm) → i < length arms → a ≡ get_or arms i a
    → block_size (block_of a.body) + 5 ≤ arms_size (arms_of arms)
unfolding arms_size
block_in_arms [] i a below is = absurd (omega (arith, below))
block_in_arms (x ∷ arms) zero a below is =
    subst (λ y. block_size (block_of y.body) + 5 ≤ arms_size (arms_of (x ∷ arms))) (sym is) (omega arith)
block_in_arms (x ∷ arms) (suc i) a below is = omega (arith, block_in_further arms i a (omega (arith, below)) is)
