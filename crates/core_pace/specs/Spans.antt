-- To be believed. A transfer in time: the cycles in which its transactions move their words, one after another in slots
-- of the core's own, and the cycle at which the last of these slots ends.
use Rattle.std.specs.Prelude.{ℕ, zero, suc, ◌+◌, Bool, List, [], ◌∷◌}
use Rattle.slot_arbiter.specs.declared.event.Access.{Access}
use Rattle.patmos_model.specs.Site.{Site}
use Rattle.patmos_model.specs.Bursts.{slots_of, bursts_in, in_cycles}
use Rattle.core_pace.specs.Starts.{HasSlots, start_from}

-- the site's core has slots
abbrev pub IsSlotted : Site → Type 0
IsSlotted site = HasSlots site.table site.slot site.core

-- the first cycle from t on at which a slot of the site's core starts
abbrev pub start_in : Site → ℕ → ℕ
start_in site t = start_from site.table site.slot site.core t

-- the cycles of so many transactions, the first of which is wanted at t and each other at the end of the one before
abbrev pub cycles_from : Site → ℕ → ℕ → List ℕ
cycles_from site zero t = []
cycles_from site (suc count) t = start_in site t ∷ cycles_from site count (start_in site t + site.slot)

-- the cycle at which the slot of the last of them ends
abbrev pub end_from : Site → ℕ → ℕ → ℕ
end_from site zero t = t
end_from site (suc count) t = end_from site count (start_in site t + site.slot)

-- the transactions of so many words that are wanted at t, read or written, each with its cycle
abbrev pub accesses_from : Site → ℕ → Bool → ℕ → List Access
accesses_from site t write words =
    in_cycles (cycles_from site (slots_of words) t) (bursts_in (slots_of words) write words)

-- the cycle from which on a core that moves so many words from t on goes on
abbrev pub moved_by : Site → ℕ → ℕ → ℕ
moved_by site t words = end_from site (slots_of words) t
