-- To be believed. The gap of a core's slots, worked out from the slot table: the greatest distance from one slot of the
-- core's to its next. That it is the gap of slot_arbiter's `IsGap` is a clause of `bound`.
use Rattle.std.specs.Prelude.{ℕ, zero, suc, ◌+◌, ◌-◌, ◌*◌, max, if◌then◌else◌, List, length}
use Rattle.slot_arbiter.specs.Table.{is_owned}
use Rattle.sp_shape.specs.Parts.{PlainShape}
use Rattle.cycle_bound.specs.Bound.{shape_bound}

-- how many slots of others come from the k-th on before one of the core's, looked for among so many
abbrev pub slots_to : List ℕ → ℕ → ℕ → ℕ → ℕ
slots_to table core k zero = 0
slots_to table core k (suc more) = if is_owned table core k then 0 else 1 + slots_to table core (k + 1) more

-- the most of them from any of the first so many slots on
abbrev pub most_slots_to : List ℕ → ℕ → ℕ → ℕ
most_slots_to table core zero = 0
most_slots_to table core (suc n) = max (most_slots_to table core n) (slots_to table core n (length table))

-- in cycles, for slots of so many
abbrev pub gap : List ℕ → ℕ → ℕ → ℕ
gap table slot core = (1 + most_slots_to table core (length table)) * slot

-- the bound under a slot table, for slots of so many cycles, on a core
abbrev pub place_bound : List ℕ → ℕ → ℕ → PlainShape → ℕ
place_bound table slot core s = shape_bound (gap table slot core + slot - 1) s
