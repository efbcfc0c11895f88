use Rattle.std.proofs.Common.{◌∙◌, ap, arith}
use Rattle.sp_tree.specs.Sizes.{stmt_size}
use Rattle.sp_tree.proofs.Forms.{item_size}
use Rattle.sp_tree.specs.Formed.{stmt_levels}
use Rattle.sp_inline.proofs.Parts.{iterations_is}
use Rattle.sp_inline.proofs.levels.+levels.Goals as goal

pub levels_of-statement-levels-requires : goal.levels_of-statement-levels-requires
levels_of-statement-levels-requires t c =
    let size = item_size c.args.body.now c.loop-t.t-index c.t-item.result (omega arith) c.t-item.is in
    (omega (arith, c.decreases, size), tt)

pub statement-levels_of-requires : goal.statement-levels_of-requires
statement-levels_of-requires t c =
    let size = ap stmt_size (iterations_is c.args.t.now c.in-Iterations.count c.in-Iterations.body c.as_slice.result.now
    c.in-Iterations.is c.as_slice.ensures) in
    (omega (arith, c.decreases, size), tt)

pub statement-returns-in-Iterations : goal.statement-returns-in-Iterations
statement-returns-in-Iterations t c =
    let same = ap stmt_levels (iterations_is c.args.t.now c.in-Iterations.count c.in-Iterations.body
    c.as_slice.result.now c.in-Iterations.is c.as_slice.ensures) in
    c.saturating_add.ensures ∙ (omega (arith, same, c.levels_of.ensures))
