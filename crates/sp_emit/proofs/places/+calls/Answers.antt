use Rattle.std.proofs.Common.{ap, sym, ◌∙◌}
use Rattle.sp_tree.proofs.Forms.{plain_iterations}
use Rattle.sp_tree.specs.Shown.{plain_stmt, stmts_of}
use Rattle.sp_tree.specs.Statements.{iterations}
use Rattle.sp_emit.specs.Chains.{stmt_calls}
use Rattle.sp_emit.proofs.places.+calls.Goals as goal

pub has_call-returns-in-Iterations : goal.has_call-returns-in-Iterations
has_call-returns-in-Iterations t c =
    let is = ap plain_stmt c.in-Iterations.is ∙ plain_iterations c.in-Iterations.count c.in-Iterations.body
    ∙ ap (λ ts. iterations c.in-Iterations.count (stmts_of ts)) (sym c.as_slice.ensures) in
    c.have_calls.ensures ∙ ap stmt_calls (sym is)
