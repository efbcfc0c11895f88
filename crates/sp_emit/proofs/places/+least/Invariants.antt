use Rattle.std.proofs.Common.{◌≡◌, drop, max}
use Rattle.sp_tree.specs.Shown.{plain_stmt, stmts_of}
use Rattle.sp_tree.specs.Sizes.{stmt_size, stmts_size}
use Rattle.sp_emit.specs.Places.{stmts_least}
use Rattle.sp_emit.proofs.places.+least.Given as goal

abbrev pub invariant-statements_least-loop-t : goal.invariant-statements_least-loop-t
invariant-statements_least-loop-t l =
    max l.least (stmts_least l.tops (stmts_of (drop l.t-index l.body))) ≡ stmts_least l.tops (stmts_of l.body)

abbrev pub decreases-statement_least : goal.decreases-statement_least
decreases-statement_least l = stmt_size (plain_stmt l.t.now)

abbrev pub decreases-statements_least : goal.decreases-statements_least
decreases-statements_least l = stmts_size (stmts_of l.body.now)
