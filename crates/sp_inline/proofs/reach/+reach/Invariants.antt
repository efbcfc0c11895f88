use Rattle.std.proofs.Common.{◌≡◌, drop, max}
use Rattle.sp_tree.specs.Shown.{plain_stmt, stmts_of}
use Rattle.sp_tree.specs.Sizes.{stmt_size, stmts_size}
use Rattle.sp_inline.specs.Reach.{stmts_reach}
use Rattle.sp_inline.proofs.reach.+reach.Given as goal

abbrev pub invariant-reach_of-loop-t : goal.invariant-reach_of-loop-t
invariant-reach_of-loop-t l =
    max l.most (stmts_reach (stmts_of (drop l.t-index l.body))) ≡ stmts_reach (stmts_of l.body)

abbrev pub decreases-statement : goal.decreases-statement
decreases-statement l = stmt_size (plain_stmt l.t.now)

abbrev pub decreases-reach_of : goal.decreases-reach_of
decreases-reach_of l = stmts_size (stmts_of l.body.now)
