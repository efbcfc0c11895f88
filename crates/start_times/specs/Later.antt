-- To be believed. Starts of one core, and times that are so many cycles later.
use Rattle.std.specs.Prelude.{◌≡◌, ℕ, ◌+◌, ◌*◌, map}
use Rattle.slot_arbiter.specs.Slot.{period}
use Rattle.slot_arbiter.specs.declared.event.Access.{Access}
use Rattle.slot_arbiter.specs.declared.place.Place.{Place}
use Rattle.core_pace.specs.Starts.{start_from}
use Rattle.core_pace.specs.Times.{Times}

-- the other place is of the same core, under the same table: they differ in their starts at most
pub record IsSameCore (place other : Place) : Type 0 where
  pub cores : other.cores ≡ place.cores
  pub core : other.core ≡ place.core
  pub slot : other.slot ≡ place.slot
  pub table : other.table ≡ place.table

-- and it starts so many periods of the table later
pub record IsLater (periods : ℕ) (place other : Place) : Type 0 where
  pub same : IsSameCore place other
  pub start : other.start ≡ place.start + periods * period place.table place.slot

-- the first cycle from its start on at which a slot of the core starts
abbrev pub first_slot : Place → ℕ
first_slot place = start_from place.table place.slot place.core place.start

-- the same transaction, so many cycles later
abbrev pub access_later : ℕ → Access → Access
access_later far a = record a { cycle = a.cycle + far }

-- the same transactions and the same end, so many cycles later
abbrev pub times_later : ℕ → Times → Times
times_later far t = record { accesses = map (access_later far) t.accesses; end = t.end + far }
