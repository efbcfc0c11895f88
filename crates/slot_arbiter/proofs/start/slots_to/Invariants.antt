use Rattle.std.proofs.Common.{◌≡◌, ℕ, ◌+◌, ◌%◌, ◌<◌, length, false}
use Rattle.slot_arbiter.specs.Table.{is_owned}
use Rattle.slot_arbiter.proofs.start.slots_to.Given as goal

abbrev pub invariant-loop-slots : goal.invariant-loop-slots
invariant-loop-slots l = record {
  place : l.at ≡ (l.first + l.slots) % length l.entries;
  some : 0 < length l.entries;
  passed : (k : ℕ) → k < l.slots → is_owned l.entries l.core (l.first + k) ≡ false;
}
