use Rattle.std.proofs.Common.{◌≡◌, drop}
use Rattle.sp_tree.specs.Shown.{stmts_of}
use Rattle.sp_emit.specs.Chains.{stmts_call}
use Rattle.sp_emit.proofs.places.+calls.Given as goal

abbrev pub invariant-have_calls-loop-t : goal.invariant-have_calls-loop-t
invariant-have_calls-loop-t l = stmts_call (stmts_of (drop l.t-index l.stmts)) ≡ stmts_call (stmts_of l.stmts)
