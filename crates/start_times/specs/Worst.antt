-- To be believed. The most cycles over some starts.
use Rattle.std.specs.Prelude.{◌≡◌, ℕ, ◌-◌, ◌<◌, ◌≤◌, List, true}
use Rattle.slot_arbiter.specs.Slot.{is_slot_start, period}
use Rattle.slot_arbiter.specs.declared.place.Place.{Place}
use Rattle.core_pace.specs.Times.{Times}
use Rattle.c_tree.specs.Plain.{PlainItem}
use Rattle.sp_shape.specs.Parts.{PlainShape}
use Rattle.code_times.specs.Times.{times_at}
use Rattle.c_task.specs.Translation as program
use Rattle.start_times.specs.Later.{IsSameCore}

-- how many cycles pass from the start at a place to the end of times, as a report counts them
abbrev pub lasting : Place → Times → ℕ
lasting place t = t.end - place.start

-- those of code
abbrev pub code_cycles : PlainShape → Place → ℕ
code_cycles s place = lasting place (times_at place s)

-- those of a C program
abbrev pub program_cycles : List PlainItem → Place → ℕ
program_cycles items place = lasting place (program.times place items)

-- the core starts in the first period of its table
pub record IsFirst (place other : Place) : Type 0 where
  pub same : IsSameCore place other
  pub first : other.start < period place.table place.slot

-- and there in the cycle after one in which a slot of its own starts: it has just missed it
pub record HasJustMissed (place other : Place) : Type 0 where
  pub first : IsFirst place other
  pub later : 0 < other.start
  pub missed : is_slot_start place.table place.slot place.core (other.start - 1) ≡ true

-- of all places of a kind none has a greater number, and one has it
pub record IsGreatest (kind : Place → Type 0) (number : Place → ℕ) (most : ℕ) : Type 0 where
  pub covers : (place : Place) → kind place → number place ≤ most
  pub reached : (place : Place) × (kind place × (number place ≡ most))
