use Rattle.std.proofs.Common.{◌≡◌, drop}
use Rattle.sp_tree.specs.Shown.{stmts_of}
use Rattle.sp_emit.specs.Flags.{stmts_hinder}
use Rattle.sp_emit.proofs.flags.+hinders.Given as goal

abbrev pub invariant-statements_hinder-loop-t : goal.invariant-statements_hinder-loop-t
invariant-statements_hinder-loop-t l =
    stmts_hinder l.flags (stmts_of (drop l.t-index l.stmts)) ≡ stmts_hinder l.flags (stmts_of l.stmts)
