use Rattle.std.proofs.Common.{◌≡◌, drop, max}
use Rattle.sp_tree.specs.Formed.{stmts_levels}
use Rattle.sp_tree.specs.Shown.{plain_stmt, stmts_of}
use Rattle.sp_tree.specs.Sizes.{stmt_size, stmts_size}
use Rattle.sp_inline.specs.Capped.{capped}
use Rattle.sp_inline.proofs.levels.+levels.Given as goal

abbrev pub invariant-levels_of-loop-t : goal.invariant-levels_of-loop-t
invariant-levels_of-loop-t l =
    max l.most (capped (stmts_levels (stmts_of (drop l.t-index l.body)))) ≡ capped (stmts_levels (stmts_of l.body))

abbrev pub decreases-statement : goal.decreases-statement
decreases-statement l = stmt_size (plain_stmt l.t.now)

abbrev pub decreases-levels_of : goal.decreases-levels_of
decreases-levels_of l = stmts_size (stmts_of l.body.now)
