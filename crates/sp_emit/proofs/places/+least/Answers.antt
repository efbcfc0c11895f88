use Rattle.std.proofs.Common.{arith, ap, sym, ◌∙◌, subst, map}
use Rattle.std.specs.Prelude.{max}
use Rattle.sp_tree.proofs.Forms.{item_size, iterations_size, plain_iterations}
use Rattle.sp_tree.specs.Plain.{plain_sp}
use Rattle.sp_tree.specs.Shown.{plain_stmt, stmts_of}
use Rattle.sp_tree.specs.Sizes.{stmts_size}
use Rattle.sp_tree.specs.Statements.{iterations}
use Rattle.sp_emit.specs.Fits.{ArgsFit, StmtFits}
use Rattle.sp_emit.specs.Places.{stmt_least}
use Rattle.sp_emit.specs.declared.registers.TheConstants.{FIRST}
use Rattle.sp_emit.proofs.Fitting.{calls_args, item_fits, iterations_body}
use Rattle.sp_emit.proofs.places.+least.Goals as goal

pub statement_least-arguments_least-requires : goal.statement_least-arguments_least-requires
unfolding plain_stmt
statement_least-arguments_least-requires t c =
    let stated = subst (λ x. StmtFits c.args.frame c.args.counter (plain_stmt x)) c.in-Call.is c.requires in
    let fits = calls_args c.in-Call.mask c.in-Call.function (map plain_sp c.in-Call.args) c.in-Call.result stated in
    subst (λ es. ArgsFit (map plain_sp es) 3) (sym c.as_slice.ensures) fits

pub statement_least-statements_least-inner-requires : goal.statement_least-statements_least-inner-requires
statement_least-statements_least-inner-requires t c =
    let size = iterations_size c.args.t.now c.in-Iterations.count c.in-Iterations.body c.in-Iterations.is in
    let body = ap (λ ts. stmts_size (stmts_of ts)) c.as_slice-in-Iterations.ensures in
    let is = ap plain_stmt c.in-Iterations.is ∙ plain_iterations c.in-Iterations.count c.in-Iterations.body
    ∙ ap (λ ts. iterations c.in-Iterations.count (stmts_of ts)) (sym c.as_slice-in-Iterations.ensures) in (
      omega (arith, c.decreases, size, body),
      iterations_body c.in-Iterations.count
          (stmts_of c.as_slice-in-Iterations.result.now) (subst (StmtFits c.args.frame c.args.counter) is c.requires),
    )

pub statement_least-returns-in-Iterations : goal.statement_least-returns-in-Iterations
statement_least-returns-in-Iterations t c =
    let is = ap plain_stmt c.in-Iterations.is ∙ plain_iterations c.in-Iterations.count c.in-Iterations.body
    ∙ ap (λ ts. iterations c.in-Iterations.count (stmts_of ts)) (sym c.as_slice-in-Iterations.ensures) in
    c.max-in-Iterations.ensures ∙ ap (max FIRST) c.statements_least-inner.ensures
    ∙ ap (stmt_least c.args.tops.now) (sym is)

pub statements_least-statement_least-requires : goal.statements_least-statement_least-requires
statements_least-statement_least-requires t c =
    let part = item_size c.args.body.now c.loop-t.t-index c.t-item.result (omega arith) c.t-item.is in (
      omega (arith, c.decreases, part),
      item_fits c.args.body.now c.loop-t.t-index c.t-item.result
          (omega arith) c.t-item.is c.requires,
    )
