use Rattle.std.proofs.Common.{ℕ, ◌<◌, IfSome, slice_get}
use Rattle.global_step.specs.Range.{HoldsWords}
use Rattle.tc_run.proofs.in_words.loaded_with_words.Given as goal

abbrev pub invariant-loop-core : goal.invariant-loop-core
invariant-loop-core l = (k : ℕ) → k < l.core-index → IfSome (slice_get l.machine.cores k) HoldsWords
