use Rattle.std.proofs.Common.{◌≡◌, ◌+◌, ◌<◌, ◌^◌, drop, map}
use Rattle.sp_tree.specs.Cost.{args_cost}
use Rattle.sp_tree.specs.Plain.{plain_sp}
use Rattle.sp_inline.specs.Capped.{capped}
use Rattle.sp_inline.proofs.costs.arguments.Given as goal

abbrev pub invariant-loop-e : goal.invariant-loop-e
invariant-loop-e l = record {
  so_far : capped (l.total + args_cost (map plain_sp (drop l.e-index l.args)))
      ≡ capped (args_cost (map plain_sp l.args));
  fits : l.total < 2 ^ 64;
}
