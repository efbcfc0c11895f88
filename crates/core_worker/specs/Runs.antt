-- To be believed. How the core of a worker and the course meet.
use Rattle.std.specs.Prelude.{◌≡◌, ℕ, List, IfSome}
use Rattle.slot_arbiter.specs.declared.event.Event.{Event}
use Rattle.shared_order.specs.declared.operation.Operation.{Operation}
use Rattle.shared_order.specs.Operation.{loads, operations_of}
use Rattle.clock_board.specs.declared.known.Look.{Look}
use Rattle.clock_board.specs.declared.known.View.{View}
use Rattle.clock_board.specs.View.{own, given}
use Rattle.patmos_core.specs.declared.cpu.Core.{Core as Cpu}
use Rattle.patmos_model.specs.State.{Core}
use Rattle.patmos_model.specs.Apart.{apart_from}
use Rattle.patmos_core.specs.Position.{StandsFor, waiting_of, place_of, room_of, IsNextOf, IsWholeOf}

-- the course's list of the pass's core
abbrev pub listed : View → List Operation
listed v = operations_of v.cores (own v).core v.course

-- below the limit the core that began as x makes, by itself and on the values of this list's own loads,
-- exactly the list
abbrev pub Makes : Core → List Operation → ℕ → Type 0
Makes x list limit = (apart_from x (loads list) limit).made ≡ list

-- the event comes next in the run of the core that began as x and made these operations, and is all that this
-- core makes at its stamp, but for the store of a narrow store, which comes in an event of its own
pub record IsNextWhole (x : Core) (made : List Operation) (limit : ℕ) (e : Event) : Type 0 where
  pub next : IsNextOf x made limit e
  pub whole : IsWholeOf x made limit e

-- The core stands for the run apart of the core that began as x, in which it made what the pass made;
-- that run's operations below the limit are the course's list of the pass's core; and what the core waits
-- to be told comes next in it, and is whole.
pub record RunsAs (x : Core) (limit : ℕ) (k : Cpu) (v : View) : Type 0 where
  pub stands : StandsFor k x (own v).made
  pub makes : Makes x (listed v) limit
  pub next : IfSome (waiting_of k) (IsNextWhole x (own v).made limit)

-- the same core and pass later: they stand for the same, at the same place, on the same course
pub record GoesOnAs (limit : ℕ) (k : Cpu) (v : View) (k' : Cpu) (v' : View) : Type 0 where
  pub runs : (x : Core) → RunsAs x limit k v → RunsAs x limit k' v'
  pub place : place_of k' ≡ place_of k
  pub room : room_of k' ≡ room_of k
  pub cores : v'.cores ≡ v.cores
  pub course : v'.course ≡ v.course
  pub core : (own v').core ≡ (own v).core

-- the view of a pass of the same core that made other operations
abbrev pub with_made : View → List Operation → View
with_made v made = given v (record (own v) { made = made })

-- a view with other stamps published
abbrev pub with_published : View → List ℕ → View
with_published v published = given v (record (own v) { published = published })

-- a view with other looks
abbrev pub with_looks : View → List Look → View
with_looks v looks = given v (record (own v) { looks = looks })
