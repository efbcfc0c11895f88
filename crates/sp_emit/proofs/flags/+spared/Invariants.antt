use Rattle.std.proofs.Common.{◌≡◌, drop, max}
use Rattle.sp_tree.specs.Shown.{stmts_of}
use Rattle.sp_emit.specs.Flags.{stmts_spared}
use Rattle.sp_emit.proofs.flags.+spared.Given as goal

abbrev pub invariant-statements_spared-loop-t : goal.invariant-statements_spared-loop-t
invariant-statements_spared-loop-t l =
    max l.most (stmts_spared l.tops (stmts_of (drop l.t-index l.stmts))) ≡ stmts_spared l.tops (stmts_of l.stmts)
