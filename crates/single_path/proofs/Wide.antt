-- Widths of loops.
use Rattle.std.proofs.Common.{◌≡◌, ◌≢◌, ℕ, zero, suc, ◌+◌, List, refl, ap, ◌∙◌, arith}
use Rattle.sp_tree.specs.declared.statements.SpStmt.{SpStmt}
use Rattle.sp_tree.specs.declared.statements.SpStmt.TheViews.{Iterations}
use Rattle.sp_tree.specs.Formed.{stmt_levels, stmts_levels}
use Rattle.sp_tree.specs.Shown.{plain_stmt, stmts_of}
use Rattle.sp_tree.proofs.Forms.{plain_iterations}
use Rattle.single_path.specs.Widths as specs
use Rattle.single_path.specs.Widths.{capped}
use Rattle.c_meaning.specs.Actions.{PlainBranches, no_branch, branch}

pub capped_loop : (most body n : ℕ) → n ≡ capped body → capped (specs.loop_masks most n)
    ≡ capped (specs.loop_masks most body)
capped_loop zero body n is = refl
capped_loop (suc k) body n is = omega (arith, is)

pub no_masks : (most body : ℕ) → most ≡ 0 → capped (specs.loop_masks most body) ≡ 0
no_masks zero body is = refl
no_masks (suc n) body is = absurd (omega (arith, is))

pub some_masks : (most body : ℕ) → most ≢ 0 → capped (specs.loop_masks most body) ≡ capped (body + 1)
some_masks zero body other = absurd (other refl)
some_masks (suc n) body other = omega arith

-- so many masks after the last `else`, as a word counts them
pub capped_arms : (bs : PlainBranches) (masks n : ℕ) → n ≡ capped masks → capped (specs.branches_masks bs n)
    ≡ capped (specs.branches_masks bs masks)
capped_arms no_branch masks n is = omega (arith, is)
capped_arms (branch condition body rest) masks n is = let behind = capped_arms rest masks n is in omega (arith, behind)

pub iterations_levels : (t : SpStmt) (count : ℕ) (body shown : List SpStmt) (n : ℕ) → t ≡ Iterations count body → shown
    ≡ body → n ≡ capped (stmts_levels (stmts_of shown))
    → capped (n + 1) ≡ capped (stmt_levels (plain_stmt t))
iterations_levels t count body shown n is same inner =
    let levels = ap (λ b. stmts_levels (stmts_of b)) same in
    let whole : stmt_levels (plain_stmt t) ≡ 1 + stmts_levels (stmts_of body) =
    ap (λ x. stmt_levels (plain_stmt x)) is ∙ ap stmt_levels (plain_iterations count body) in
    omega (arith, levels, whole, inner)
