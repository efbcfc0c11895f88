use Rattle.std.proofs.Common.{◌≡◌, ap, subst, arith}
use Rattle.std.specs.Prelude.{IfOk}
use Rattle.sp_tree.specs.Shown.{plain_stmt, stmts_of}
use Rattle.sp_tree.specs.Sizes.{stmt_size}
use Rattle.sp_tree.specs.Statements.{joined}
use Rattle.sp_tree.proofs.Forms.{item_size}
use Rattle.sp_inline.specs.Moved.{stmt_moved, stmts_moved}
use Rattle.sp_inline.specs.Reach.{stmt_reach}
use Rattle.sp_inline.proofs.Parts.{stmt_part, none_moved, iterations_is}
use Rattle.sp_inline.proofs.moves.+moving.Goals as goal

pub moved_statement-moved_iterations-requires : goal.moved_statement-moved_iterations-requires
moved_statement-moved_iterations-requires t c =
    let same = iterations_is c.args.t.now c.in-Iterations.count c.in-Iterations.body c.as_slice-in-Iterations.result.now
    c.in-Iterations.is c.as_slice-in-Iterations.ensures in
    let size = ap stmt_size same in
    let reach = ap stmt_reach same in
    (omega (arith, c.decreases, size), omega (arith, c.requires, reach))

pub moved_statement-returns-in-Iterations : goal.moved_statement-returns-in-Iterations
moved_statement-returns-in-Iterations t c =
    subst (λ a. IfOk c.moved_iterations.result (λ m. plain_stmt m ≡ stmt_moved c.args.place a))
    (iterations_is c.args.t.now c.in-Iterations.count c.in-Iterations.body c.as_slice-in-Iterations.result.now
    c.in-Iterations.is c.as_slice-in-Iterations.ensures) c.moved_iterations.ensures

pub add_moved-moved_statement-requires : goal.add_moved-moved_statement-requires
add_moved-moved_statement-requires t c =
    let size = item_size c.args.body.now c.loop-t.t-index c.t-item.result (omega arith) c.t-item.is in
    let part = stmt_part c.args.body.now c.loop-t.t-index c.t-item.result (omega arith) c.t-item.is in
    (omega (arith, c.decreases, size), omega (arith, c.requires, part))

pub add_moved-returns : goal.add_moved-returns
add_moved-returns t c =
    none_moved c.args.place (stmts_of c.loop-t.out.items) (joined (stmts_of c.args.out.now.items)
    (stmts_moved c.args.place (stmts_of c.args.body.now)))
    c.args.body.now c.loop-t.t-index (omega arith) c.loop-t.invariant
