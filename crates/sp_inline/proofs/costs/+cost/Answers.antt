use Rattle.std.proofs.Common.{◌∙◌, ap, arith}
use Rattle.sp_tree.specs.Sizes.{stmt_size}
use Rattle.sp_tree.proofs.Forms.{item_size}
use Rattle.sp_tree.specs.Cost.{stmt_cost}
use Rattle.sp_inline.proofs.Parts.{iterations_is, cost_done}
use Rattle.sp_inline.proofs.costs.+cost.Goals as goal

pub cost_of-statement-requires : goal.cost_of-statement-requires
cost_of-statement-requires t c =
    let size = item_size c.args.body.now c.loop-t.t-index c.t-item.result (omega arith) c.t-item.is in
    (omega (arith, c.decreases, size), tt)

pub statement-cost_of-requires : goal.statement-cost_of-requires
statement-cost_of-requires t c =
    let size = ap stmt_size (iterations_is c.args.t.now c.in-Iterations.count c.in-Iterations.body
    c.as_slice-in-Iterations.result.now c.in-Iterations.is c.as_slice-in-Iterations.ensures) in
    (omega (arith, c.decreases, size), tt)

pub statement-returns-in-Iterations : goal.statement-returns-in-Iterations
statement-returns-in-Iterations t c =
    let same = ap stmt_cost (iterations_is c.args.t.now c.in-Iterations.count c.in-Iterations.body
    c.as_slice-in-Iterations.result.now c.in-Iterations.is c.as_slice-in-Iterations.ensures) in
    c.saturating_add-in-Iterations.ensures ∙ (omega (arith, same, c.cost_of.ensures))

pub cost_of-returns : goal.cost_of-returns
cost_of-returns t c = cost_done c.loop-t.total _ c.args.body.now c.loop-t.t-index (omega arith) c.loop-t.invariant.fits
    c.loop-t.invariant.so_far
