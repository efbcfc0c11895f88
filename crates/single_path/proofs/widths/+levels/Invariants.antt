use Rattle.std.proofs.Common.{◌≡◌, drop, max}
use Rattle.sp_tree.specs.Formed.{stmts_levels}
use Rattle.sp_tree.specs.Shown.{stmts_of}
use Rattle.single_path.specs.Widths.{capped}
use Rattle.single_path.proofs.widths.+levels.Given as goal

abbrev pub invariant-levels_of-loop-t : goal.invariant-levels_of-loop-t
invariant-levels_of-loop-t l =
    max l.most (capped (stmts_levels (stmts_of (drop l.t-index l.stmts)))) ≡ capped (stmts_levels (stmts_of l.stmts))
