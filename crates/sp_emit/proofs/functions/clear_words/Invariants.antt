use Rattle.std.proofs.Common.{◌≡◌, ◌++◌}
use Rattle.sp_emit.specs.Places.{words_cleared}
use Rattle.sp_emit.proofs.functions.clear_words.Given as goal

abbrev pub invariant-loop-n : goal.invariant-loop-n
invariant-loop-n l = l.bundles.items ≡ l.initial.bundles.items ++ words_cleared l.homes l.n
