use Rattle.std.proofs.Common.{◌≡◌, drop}
use Rattle.sp_tree.specs.Shown.{stmts_of}
use Rattle.sp_emit.specs.Flags.{stmts_spoil}
use Rattle.sp_emit.proofs.flags.+spoils.Given as goal

abbrev pub invariant-statements_spoil-loop-t : goal.invariant-statements_spoil-loop-t
invariant-statements_spoil-loop-t l =
    stmts_spoil l.mask l.slot (stmts_of (drop l.t-index l.stmts)) ≡ stmts_spoil l.mask l.slot (stmts_of l.stmts)
