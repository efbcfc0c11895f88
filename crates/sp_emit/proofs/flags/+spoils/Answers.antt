use Rattle.std.proofs.Common.{ap, sym, ◌∙◌}
use Rattle.sp_tree.proofs.Forms.{plain_iterations}
use Rattle.sp_tree.specs.Shown.{plain_stmt, stmts_of}
use Rattle.sp_tree.specs.Statements.{iterations}
use Rattle.sp_emit.specs.Flags.{stmt_spoils}
use Rattle.sp_emit.proofs.flags.+spoils.Goals as goal

pub statement_spoils-returns-in-Iterations : goal.statement_spoils-returns-in-Iterations
statement_spoils-returns-in-Iterations t c =
    let is = ap plain_stmt c.in-Iterations.is ∙ plain_iterations c.in-Iterations.count c.in-Iterations.body
    ∙ ap (λ ts. iterations c.in-Iterations.count (stmts_of ts)) (sym c.as_slice.ensures) in
    c.statements_spoil.ensures ∙ ap (stmt_spoils c.args.mask c.args.slot) (sym is)
