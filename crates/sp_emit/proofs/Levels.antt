-- How many levels of iterations statements have, as a word counts them.
use Rattle.std.proofs.Common.{◌≡◌, ℕ, ◌+◌, List, ap, ◌∙◌, arith}
use Rattle.sp_tree.proofs.Forms.{plain_iterations}
use Rattle.sp_tree.specs.Formed.{stmt_levels, stmts_levels}
use Rattle.sp_tree.specs.Shown.{plain_stmt, stmts_of}
use Rattle.sp_tree.specs.declared.statements.SpStmt.{SpStmt}
use Rattle.sp_tree.specs.declared.statements.SpStmt.TheViews.{Iterations}
use Rattle.sp_emit.specs.Places.{capped}

pub iterations_levels : (t : SpStmt) (count : ℕ) (body shown : List SpStmt) (n : ℕ) → t ≡ Iterations count body → shown
    ≡ body → n ≡ capped (stmts_levels (stmts_of shown))
    → capped (n + 1) ≡ capped (stmt_levels (plain_stmt t))
iterations_levels t count body shown n is same inner =
    let levels = ap (λ b. stmts_levels (stmts_of b)) same in
    let whole : stmt_levels (plain_stmt t) ≡ 1 + stmts_levels (stmts_of body) =
    ap (λ x. stmt_levels (plain_stmt x)) is ∙ ap stmt_levels (plain_iterations count body) in
    omega (arith, levels, whole, inner)
