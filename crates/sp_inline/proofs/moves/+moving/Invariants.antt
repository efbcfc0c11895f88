use Rattle.std.proofs.Common.{◌≡◌, ◌+◌, drop}
use Rattle.sp_tree.specs.Shown.{plain_stmt, stmts_of}
use Rattle.sp_tree.specs.Sizes.{stmt_size, stmts_size}
use Rattle.sp_tree.specs.Statements.{joined}
use Rattle.sp_inline.specs.Moved.{stmts_moved}
use Rattle.sp_inline.proofs.moves.+moving.Given as goal

abbrev pub invariant-add_moved-loop-t : goal.invariant-add_moved-loop-t
invariant-add_moved-loop-t l =
    joined (stmts_of l.out.items) (stmts_moved l.place (stmts_of (drop l.t-index l.body)))
    ≡ joined (stmts_of l.initial.out.items) (stmts_moved l.place (stmts_of l.body))

abbrev pub decreases-moved_statement : goal.decreases-moved_statement
decreases-moved_statement l = stmt_size (plain_stmt l.t.now)

abbrev pub decreases-moved_iterations : goal.decreases-moved_iterations
decreases-moved_iterations l = 1 + stmts_size (stmts_of l.body.now)

abbrev pub decreases-add_moved : goal.decreases-add_moved
decreases-add_moved l = stmts_size (stmts_of l.body.now)
