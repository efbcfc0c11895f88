use Rattle.std.proofs.Common.{◌≡◌, ℕ, ◌+◌, ◌<◌, ◌≤◌, get_or}
use Rattle.stack_cache.specs.Slots.{slot}
use Rattle.stack_cache.proofs.slots.fill.Given as goal

abbrev pub invariant-loop-word : goal.invariant-loop-word
invariant-loop-word l = record {
  filled : (w : ℕ) → l.from ≤ w → w < l.word → slot l.slots w ≡ get_or l.private w 0;
  others : (w : ℕ) → w < l.from → l.to ≤ w + 128 → slot l.slots w ≡ slot l.initial.slots w;
}
