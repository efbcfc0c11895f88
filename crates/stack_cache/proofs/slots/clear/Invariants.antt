use Rattle.std.proofs.Common.{◌≡◌, ℕ, ◌+◌, ◌<◌, ◌≤◌}
use Rattle.stack_cache.specs.Slots.{slot}
use Rattle.stack_cache.proofs.slots.clear.Given as goal

abbrev pub invariant-loop-word : goal.invariant-loop-word
invariant-loop-word l = record {
  zeros : (w : ℕ) → l.from ≤ w → w < l.word → slot l.slots w ≡ 0;
  others : (w : ℕ) → l.to ≤ w → w < l.from + 128 → slot l.slots w ≡ slot l.initial.slots w;
}
