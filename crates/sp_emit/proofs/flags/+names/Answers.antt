use Rattle.std.proofs.Common.{◌≡◌, ◌*◌, ap, sym, ◌∙◌, arith}
use Rattle.sp_tree.proofs.Forms.{plain_iterations}
use Rattle.sp_tree.specs.Shown.{plain_stmt, stmts_of}
use Rattle.sp_tree.specs.Statements.{iterations}
use Rattle.sp_emit.specs.Flags.{stmt_names, stmts_name}
use Rattle.sp_emit.specs.Places.{capped}
use Rattle.sp_emit.proofs.flags.+names.Goals as goal

pub statement_names-returns-in-Iterations : goal.statement_names-returns-in-Iterations
statement_names-returns-in-Iterations t c =
    let slot = c.args.slot in
    let is = ap plain_stmt c.in-Iterations.is ∙ plain_iterations c.in-Iterations.count c.in-Iterations.body
    ∙ ap (λ ts. iterations c.in-Iterations.count (stmts_of ts)) (sym c.as_slice.ensures) in
    let inside = c.statements_name-inside.ensures in
    let times : c.saturating_mul.result ≡ capped (8 * stmts_name slot (stmts_of c.as_slice.result.now)) =
    omega (arith, c.saturating_mul.ensures, inside) in
    times ∙ ap (λ t. capped (stmt_names slot t)) (sym is)
