use Rattle.std.proofs.Common.{◌≡◌, drop, map, max}
use Rattle.sp_tree.specs.Plain.{plain_sp}
use Rattle.sp_inline.specs.Reach.{args_reach}
use Rattle.sp_inline.proofs.reach.arguments.Given as goal

abbrev pub invariant-loop-e : goal.invariant-loop-e
invariant-loop-e l = max l.most (args_reach (map plain_sp (drop l.e-index l.args))) ≡ args_reach (map plain_sp l.args)
