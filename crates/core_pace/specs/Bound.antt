-- To be believed. How long events take at most.
use Rattle.std.specs.Prelude.{ℕ, ◌+◌, ◌-◌, List, [], ◌∷◌}
use Rattle.patmos_model.specs.Site.{Site}
use Rattle.core_pace.specs.Starts.{gap_in}
use Rattle.core_pace.specs.Pace.{Event, came}

-- the most cycles that one transaction takes: less than a gap until its slot starts, and the slot
abbrev pub most_in_slot : Site → ℕ
most_in_slot site = gap_in site.table site.slot site.core + site.slot - 1

-- the event is a bundle's: one cycle
abbrev pub bundles_of : Event → ℕ
bundles_of (came method) = 0
bundles_of _ = 1

-- how many bundles there are among the events
abbrev pub bundles_among : List Event → ℕ
bundles_among [] = 0
bundles_among (e ∷ es) = bundles_of e + bundles_among es
