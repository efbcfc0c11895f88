use Rattle.std.proofs.Common.{◌≡◌, ◌++◌}
use Rattle.sp_emit.specs.Functions.{arguments_kept}
use Rattle.sp_emit.proofs.functions.keep_arguments.Given as goal

abbrev pub invariant-loop-n : goal.invariant-loop-n
invariant-loop-n l = l.bundles.items ≡ l.initial.bundles.items ++ arguments_kept l.homes l.n
