use Rattle.std.proofs.Common.{◌≡◌, false, drop}
use Rattle.sp_tree.specs.Shown.{stmts_of}
use Rattle.sp_inline.specs.Taken.{ends_so}
use Rattle.sp_inline.proofs.endings.ends_by_mask.Given as goal

abbrev pub invariant-loop-t : goal.invariant-loop-t
invariant-loop-t l = ends_so l.fn.result_slot l.ends (stmts_of (drop l.t-index l.body))
    ≡ ends_so l.fn.result_slot false (stmts_of l.body)
