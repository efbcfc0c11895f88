use Rattle.std.proofs.Common.{◌≡◌, OnOk, arith, ap, sym, ◌∙◌, subst, map}
use Rattle.sp_shape.specs.Parts.{joined}
use Rattle.sp_shape.specs.Shown.{parts_of}
use Rattle.sp_tree.proofs.Forms.{item_size, iterations_size, plain_iterations}
use Rattle.sp_tree.specs.Plain.{plain_sp}
use Rattle.sp_tree.specs.Shown.{plain_stmt, stmts_of}
use Rattle.sp_tree.specs.Sizes.{stmts_size}
use Rattle.sp_tree.specs.Statements.{iterations}
use Rattle.sp_emit.specs.Fits.{ArgsFit, StmtFits}
use Rattle.sp_emit.specs.Statements.{stmt_code, stmts_code}
use Rattle.sp_emit.proofs.Fitting.{calls_args, item_fits}
use Rattle.sp_emit.proofs.Looping.{statement_added, statements_done}
use Rattle.sp_emit.proofs.statements.+statement.Goals as goal

pub statement-arguments-requires : goal.statement-arguments-requires
unfolding plain_stmt
statement-arguments-requires t c =
    let stated = subst (λ x. StmtFits c.args.frame c.args.counter (plain_stmt x)) c.in-Call.is c.requires.fits in
    let fits = calls_args c.in-Call.mask c.in-Call.function (map plain_sp c.in-Call.args) c.in-Call.result stated in
    record {
      fits = subst (λ r. ArgsFit (map plain_sp c.as_slice.result.now) r) (sym c.reg.ensures)
          (subst (λ es. ArgsFit (map plain_sp es) 3) (sym c.as_slice.ensures) fits);
    }

pub statement-iterations-requires : goal.statement-iterations-requires
statement-iterations-requires t c =
    let size = iterations_size c.args.t.now c.in-Iterations.count c.in-Iterations.body c.in-Iterations.is in
    let body = ap (λ ts. stmts_size (stmts_of ts)) c.as_slice-in-Iterations.ensures in
    let is = ap plain_stmt c.in-Iterations.is ∙ plain_iterations c.in-Iterations.count c.in-Iterations.body
    ∙ ap (λ ts. iterations c.in-Iterations.count (stmts_of ts)) (sym c.as_slice-in-Iterations.ensures) in
    (omega (arith, c.decreases, size, body), subst (StmtFits c.args.frame c.args.counter) is c.requires.fits)

pub statement-returns-in-Iterations : goal.statement-returns-in-Iterations
statement-returns-in-Iterations t c =
    let is = ap plain_stmt c.in-Iterations.is ∙ plain_iterations c.in-Iterations.count c.in-Iterations.body
    ∙ ap (λ ts. iterations c.in-Iterations.count (stmts_of ts)) (sym c.as_slice-in-Iterations.ensures) in
    subst (λ s. OnOk c.iterations.result (parts_of c.iterations.new.out.items
    ≡ joined (parts_of c.args.out.now.items) (stmt_code c.args.homes c.args.frame c.args.counter s)))
    (sym is) c.iterations.ensures

pub statements-statement-requires : goal.statements-statement-requires
statements-statement-requires t c =
    let part = item_size c.args.body.now c.loop-t.t-index c.t-item.result (omega arith) c.t-item.is in (
      omega (arith, c.decreases, part),
      item_fits c.args.body.now c.loop-t.t-index c.t-item.result
          (omega arith) c.t-item.is c.requires.fits,
    )

pub statements-loop-t-preserved : goal.statements-loop-t-preserved
statements-loop-t-preserved t c =
    statement_added c.args.homes c.args.frame c.args.counter c.args.body.now c.loop-t.t-index c.t-item.result
    (parts_of c.loop-t.out.items) (parts_of c.statement.new.out.items)
    (joined (parts_of c.args.out.now.items) (stmts_code c.args.homes c.args.frame c.args.counter
    (stmts_of c.args.body.now)))
    (omega arith) c.t-item.is c.loop-t.invariant c.in_ok-statement.ensures

pub statements-returns : goal.statements-returns
statements-returns t c =
    statements_done c.args.homes c.args.frame c.args.counter c.args.body.now c.loop-t.t-index
    (parts_of c.loop-t.out.items)
    (joined (parts_of c.args.out.now.items) (stmts_code c.args.homes c.args.frame c.args.counter
    (stmts_of c.args.body.now))) (omega arith) c.loop-t.invariant
