use Rattle.std.proofs.Common.{◌≡◌, ap, subst, arith}
use Rattle.sp_tree.specs.Sizes.{stmt_size}
use Rattle.sp_tree.proofs.Forms.{item_size}
use Rattle.sp_inline.specs.Reach.{stmt_calls}
use Rattle.sp_inline.proofs.Parts.{iterations_is}
use Rattle.sp_inline.proofs.callees.+calls.Goals as goal

pub calls_of-statement-calls-requires : goal.calls_of-statement-calls-requires
calls_of-statement-calls-requires t c =
    let size = item_size c.args.body.now c.loop-t.t-index c.t-item.result (omega arith) c.t-item.is in
    (omega (arith, c.decreases, size), tt)

pub statement-calls_of-requires : goal.statement-calls_of-requires
statement-calls_of-requires t c =
    let size = ap stmt_size (iterations_is c.args.t.now c.in-Iterations.count c.in-Iterations.body c.as_slice.result.now
    c.in-Iterations.is c.as_slice.ensures) in
    (omega (arith, c.decreases, size), tt)

pub statement-returns-in-Iterations : goal.statement-returns-in-Iterations
statement-returns-in-Iterations t c =
    subst (λ a. c.calls_of.result ≡ stmt_calls a)
    (iterations_is c.args.t.now c.in-Iterations.count c.in-Iterations.body c.as_slice.result.now c.in-Iterations.is
    c.as_slice.ensures) c.calls_of.ensures
