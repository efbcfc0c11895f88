use Rattle.std.proofs.Common.{◌≡◌, ◌+◌, ◌<◌, ◌^◌, drop}
use Rattle.sp_tree.specs.Shown.{stmts_of}
use Rattle.sp_emit.specs.Flags.{stmts_name}
use Rattle.sp_emit.specs.Places.{capped}
use Rattle.sp_emit.proofs.flags.+names.Given as goal

abbrev pub invariant-statements_name-loop-t : goal.invariant-statements_name-loop-t
invariant-statements_name-loop-t l = record {
  so_far : capped (l.total + stmts_name l.slot (stmts_of (drop l.t-index l.stmts)))
      ≡ capped (stmts_name l.slot (stmts_of l.stmts));
  fits : l.total < 2 ^ 32;
}
