use Rattle.std.proofs.Common.{◌≡◌, drop, max}
use Rattle.sp_inline.specs.Reach.{stmts_calls}
use Rattle.sp_tree.specs.Shown.{plain_stmt, stmts_of}
use Rattle.sp_tree.specs.Sizes.{stmt_size, stmts_size}
use Rattle.sp_inline.proofs.callees.+calls.Given as goal

abbrev pub invariant-calls_of-loop-t : goal.invariant-calls_of-loop-t
invariant-calls_of-loop-t l =
    max l.most (stmts_calls (stmts_of (drop l.t-index l.body))) ≡ stmts_calls (stmts_of l.body)

abbrev pub decreases-statement : goal.decreases-statement
decreases-statement l = stmt_size (plain_stmt l.t.now)

abbrev pub decreases-calls_of : goal.decreases-calls_of
decreases-calls_of l = stmts_size (stmts_of l.body.now)
