use Rattle.std.proofs.Common.{◌≡◌, ◌-◌}
use Rattle.stack_cache.specs.Slots.{held}
use Rattle.stack_cache.specs.Stack.{with_words}
use Rattle.stack_cache.proofs.slots.spill.Given as goal

abbrev pub invariant-loop-word : goal.invariant-loop-word
invariant-loop-word l = l.private ≡ with_words l.initial.private l.from (held l.slots l.from (l.word - l.from))
