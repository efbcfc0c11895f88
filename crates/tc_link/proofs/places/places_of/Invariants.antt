use Rattle.std.proofs.Common.{◌≡◌, ℕ, ◌+◌, ◌<◌, length, slice_index}
use Rattle.tc_link.specs.Placed.{others_below, place}
use Rattle.tc_link.proofs.places.places_of.Given as goal

abbrev pub invariant-loop-k : goal.invariant-loop-k
invariant-loop-k l = record {
  count : length l.places.items ≡ l.k;
  next : l.next ≡ 1 + slice_index l.sizes l.entry + others_below (slice_index l.sizes) l.entry l.k + 1;
  places : (k : ℕ) → k < l.k → slice_index l.places.items k ≡ place (slice_index l.sizes) l.entry k;
}
