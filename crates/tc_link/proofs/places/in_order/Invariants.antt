use Rattle.std.proofs.Common.{◌≡◌, ◌∷◌, map, slice_index}
use Rattle.tc_link.specs.Placed.{others}
use Rattle.tc_link.proofs.places.in_order.Given as goal

abbrev pub invariant-loop-k : goal.invariant-loop-k
invariant-loop-k l = l.starts.items ≡ map (slice_index l.places) (l.entry ∷ others l.entry l.k)
