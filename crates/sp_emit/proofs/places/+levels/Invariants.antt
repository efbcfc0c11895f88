use Rattle.std.proofs.Common.{◌≡◌, drop, max}
use Rattle.sp_tree.specs.Formed.{stmts_levels}
use Rattle.sp_tree.specs.Shown.{stmts_of}
use Rattle.sp_emit.specs.Places.{capped}
use Rattle.sp_emit.proofs.places.+levels.Given as goal

abbrev pub invariant-levels_of-loop-t : goal.invariant-levels_of-loop-t
invariant-levels_of-loop-t l =
    max l.most (capped (stmts_levels (stmts_of (drop l.t-index l.stmts)))) ≡ capped (stmts_levels (stmts_of l.stmts))
