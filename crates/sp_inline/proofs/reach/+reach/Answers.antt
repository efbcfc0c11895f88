use Rattle.std.proofs.Common.{◌≡◌, ap, subst, arith}
use Rattle.sp_tree.specs.Sizes.{stmt_size}
use Rattle.sp_tree.proofs.Forms.{item_size}
use Rattle.sp_inline.specs.Reach.{stmt_reach}
use Rattle.sp_inline.proofs.Parts.{iterations_is}
use Rattle.sp_inline.proofs.reach.+reach.Goals as goal

pub reach_of-statement-words-requires : goal.reach_of-statement-words-requires
reach_of-statement-words-requires t c =
    let size = item_size c.args.body.now c.loop-t.t-index c.t-item.result (omega arith) c.t-item.is in
    (omega (arith, c.decreases, size), tt)

pub statement-reach_of-requires : goal.statement-reach_of-requires
statement-reach_of-requires t c =
    let size = ap stmt_size (iterations_is c.args.t.now c.in-Iterations.count c.in-Iterations.body
    c.as_slice-in-Iterations.result.now c.in-Iterations.is c.as_slice-in-Iterations.ensures) in
    (omega (arith, c.decreases, size), tt)

pub statement-returns-in-Iterations : goal.statement-returns-in-Iterations
statement-returns-in-Iterations t c =
    subst (λ a. c.reach_of.result ≡ stmt_reach a)
    (iterations_is c.args.t.now c.in-Iterations.count c.in-Iterations.body c.as_slice-in-Iterations.result.now
    c.in-Iterations.is c.as_slice-in-Iterations.ensures) c.reach_of.ensures
