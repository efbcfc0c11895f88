-- To be believed. How far a core that is stepped by itself has come: which run
-- apart it stands for, and what it asks for.
use Rattle.std.specs.Prelude.{◌≡◌, ℕ, suc, ◌+◌, ◌*◌, ◌%◌, ◌≤◌, ◌<◌, List, [], ◌∷◌, ◌++◌, Option, None, Some, IfSome, IsSome, IsNone, option_map}
use Rattle.slot_arbiter.specs.Stamp.{stamp}
use Rattle.slot_arbiter.specs.declared.place.Place.{Place}
use Rattle.slot_arbiter.specs.declared.event.Event.{Event}
use Rattle.shared_order.specs.declared.operation.Operation.{Operation}
use Rattle.shared_order.specs.Operation.{store, loads}
use Rattle.shared_order.specs.Order.{GoesOn}
use Rattle.shared_order.specs.Event.{asked_by}
use Rattle.shared_order.specs.Stamps.{act_at}
use Rattle.shared_order.specs.Stands.{Stands, Midway}
use Rattle.argo_ni.specs.Packet.{comm_word}
use Rattle.patmos_code.specs.Images.{Parts}
use Rattle.patmos_model.specs.declared.pending_store.PendingStore.{PendingStore}
use Rattle.patmos_core.specs.declared.tasked.Tasked.{Tasked}
use Rattle.patmos_core.specs.declared.phase.Phase.{Phase}
use Rattle.patmos_core.specs.declared.phase.Phase.TheVariants.{Delivery, Act, Completion}
use Rattle.patmos_core.specs.declared.cpu.Core.{Core as Cpu}
use Rattle.patmos_core.specs.declared.kind.Kind.{Kind}
use Rattle.patmos_core.specs.declared.kind.Kind.TheVariants.{Idle, Tasked as WithTask}
use Rattle.patmos_core.specs.declared.cpu.Next.{Next}
use Rattle.patmos_core.specs.declared.cpu.Next.TheVariants as next
use Rattle.patmos_model.specs.declared.state.CoreState.{CoreState}
use Rattle.patmos_model.specs.declared.state.CoreState.TheVariants as states
use Rattle.patmos_model.specs.State.{Core, History}
use Rattle.patmos_model.specs.Begin.{idle}
use Rattle.patmos_model.specs.Cycle.{turn, settled}
use Rattle.patmos_model.specs.Apart.{site_of, apart_from}
use Rattle.patmos_core.specs.Events.{AllBelow, AllUnread, LoadsFirst, asked_of, EndsBefore, if_found}
use Rattle.patmos_step.specs.Shown.{Shows, IsFramed, core_of}

-- the phases of a cycle in their order, and how many are done, three a cycle
abbrev pub phase_number : Phase → ℕ
phase_number phase = elim phase [ Delivery ↦ 0 | Act ↦ 1 | Completion pending_store ↦ 2 ]

abbrev pub phases_done : ℕ → Phase → ℕ
phases_done cycle phase = 3 * cycle + phase_number phase

-- Core number `core` of n that began as x and made these operations is y before a phase of a cycle.
abbrev pub IsThere : ℕ → ℕ → ℕ → Phase → Core → List Operation → Core → Type 0
IsThere n core cycle phase x made y = elim phase [
  | Delivery ↦ Stands (act_at turn n) n core x made (2 * cycle * n) y
  | Act ↦ Midway (act_at turn n) n core x made (stamp n core cycle 1) (turn 1 cycle y)
  | Completion pending_store ↦ Midway (act_at turn n) n core x made (stamp n core cycle 1)
      (settled (record { core = y; pending_store = Some pending_store }))
]

-- a core with a task stands for the run apart of the core that began as x, in which it made these
-- operations
pub record IsOn (t : Tasked) (x : Core) (made : List Operation) : Type 0 where
  pub seen : History
  pub shows : Shows t.body seen
  pub cores : x.plain.site.cores ≡ t.body.place.cores
  pub core : x.plain.site.core ≡ t.body.place.core
  pub there : IsThere t.body.place.cores t.body.place.core t.cycle t.phase x made (core_of t.body seen)

-- the core goes on: it stands for the same, has kept its place, and has no fewer phases after it
pub record GoesOnAs (t t' : Tasked) : Type 0 where
  pub stands : (x : Core) (made : List Operation) → IsOn t x made → IsOn t' x made
  pub frame : IsFramed t.body t'.body
  pub phases : phases_done t.cycle t.phase ≤ phases_done t'.cycle t'.phase

-- the core has kept its place, and has fewer phases after it, up to the next cycle at most
pub record IsFurther (t t' : Tasked) : Type 0 where
  pub frame : IsFramed t.body t'.body
  pub further : phases_done t.cycle t.phase < phases_done t'.cycle t'.phase
  pub cycle : t'.cycle ≤ t.cycle + 1
  pub whole : t'.cycle ≡ t.cycle + 1 → t'.phase ≡ Delivery

-- so does a core without one, which made none
pub record IsResting (place : Place) (x : Core) (made : List Operation) : Type 0 where
  pub image : Parts
  pub is : x ≡ idle (site_of place image)
  pub none : made ≡ []

-- what is at a place stands for the run apart of the core that began as x, in which it made these operations
abbrev pub StandsAt : Kind → Core → List Operation → Type 0
StandsAt kind x made = elim kind [ Idle place ↦ IsResting place x made | WithTask t ↦ IsOn t x made ]

-- its place, how many transactions it keeps, and how many phases of cycles it has after it, three a cycle
abbrev pub place_at : Kind → Place
place_at kind = elim kind [ Idle place ↦ place | WithTask t ↦ t.body.place ]

abbrev pub room_at : Kind → ℕ
room_at kind = elim kind [ Idle place ↦ 0 | WithTask t ↦ t.body.room ]

abbrev pub phases_at : Kind → ℕ
phases_at kind = elim kind [ Idle place ↦ 0 | WithTask t ↦ phases_done t.cycle t.phase ]

-- the cycles below the limit are done
abbrev pub IsThroughTo : ℕ → Kind → Type 0
IsThroughTo limit kind = elim kind [ Idle place ↦ Unit {0} | WithTask t ↦ (t.cycle ≡ limit) × (t.phase ≡ Delivery) ]

-- a core of the machine at this place: its kind, the event that it waits for with its stamp, and the last limit
abbrev pub StandsFor : Cpu → Core → List Operation → Type 0
StandsFor k x made = StandsAt k.kind x made

abbrev pub place_of : Cpu → Place
place_of k = place_at k.kind

abbrev pub room_of : Cpu → ℕ
room_of k = room_at k.kind

abbrev pub phases_of : Cpu → ℕ
phases_of k = phases_at k.kind

abbrev pub waiting_of : Cpu → Option Event
waiting_of k = if_found k.waits k.event

abbrev pub stamp_of : Cpu → Option ℕ
stamp_of k = option_map (λ e. e.stamp) (waiting_of k)

abbrev pub limit_of : Cpu → ℕ
limit_of k = k.limit

abbrev pub IsThrough : Cpu → Type 0
IsThrough k = IsThroughTo k.limit k.kind

-- the event of an answer
abbrev pub event_of : Next → Option Event
event_of answer = elim answer [ next.Event e ↦ Some e | next.Limit ↦ None | next.Ended ↦ None ]

-- the answer where no event comes before the limit, by how far the task has come there
abbrev pub rest_as : CoreState → Next
rest_as state = elim state [
  | states.Idle ↦ next.Ended
  | states.Running ↦ next.Limit
  | states.Done value flag cycles ↦ next.Ended
  | states.Trapped trap at ↦ next.Ended
]

-- whatever its loads to come give, the core that began as x and made these operations makes those of the
-- event next, and then only such at its stamp or later
abbrev pub IsNextOf : Core → List Operation → ℕ → Event → Type 0
IsNextOf x made limit e = (more : List ℕ) →
    GoesOn e.stamp (made ++ asked_by e more) (apart_from x (loads made ++ more) limit).made

-- These operations are what an event leaves of its stamp: none; or, where it ends with the load of a narrow
-- store, the one store that is then pending, into the word that the event loads last.
pub record IsLeftBy (e : Event) (rest : List Operation) : Type 0 where
  pub pending_store : Option PendingStore
  pub only : rest ≡ elim pending_store [ None ↦ [] | Some o ↦ store e.stamp o.word o.value ∷ [] ]
  pub narrow : EndsBefore e pending_store

-- After the operations that were made, all that are made begin with those of the event when its loads give
-- these values and with what the event leaves of its stamp; the others are at later stamps.
pub record IsWholeIn (made all : List Operation) (e : Event) (values : List ℕ) : Type 0 where
  pub rest : List Operation
  pub left : IsLeftBy e rest
  pub goes_on : GoesOn (suc e.stamp) (made ++ (asked_by e values ++ rest)) all

-- whatever its loads to come give, the event has all that the core that began as x and made these operations
-- makes at its stamp; but what is left of a narrow store comes in an event of its own
abbrev pub IsWholeOf : Core → List Operation → ℕ → Event → Type 0
IsWholeOf x made limit e = (more : List ℕ) →
    IsWholeIn made (apart_from x (loads made ++ more) limit).made e more

-- the operations are all that the core makes before the limit, whatever other values there are
abbrev pub HasMadeAll : Core → List Operation → ℕ → Type 0
HasMadeAll x made limit = (more : List ℕ) → apart_from x (loads made ++ more) limit
    ≡ record { core = (apart_from x (loads made) limit).core; left = more; made = made }

-- the event is one of the core at the place before the limit, on words of the board, and not of none; what its
-- loads will give stands as 0 in it, and they stand before its stores
pub record EventFits (place : Place) (limit : ℕ) (e : Event) : Type 0 where
  pub core : e.stamp % place.cores ≡ place.core
  pub below : e.stamp < 2 * limit * place.cores
  pub some : 1 ≤ e.count
  pub words : AllBelow (comm_word place.cores 0) (asked_of e)
  pub unread : AllUnread (asked_of e)
  pub loads_first : LoadsFirst (asked_of e)

-- the core goes from k on to k' at the limit: it stands for the same runs apart at the same place, and waits to be
-- told what comes next before the limit, whole, or else is through at the limit and has made all before it
pub record ComesTo (k k' : Cpu) (limit : ℕ) : Type 0 where
  pub stands : (x : Core) (made : List Operation) → StandsFor k x made → StandsFor k' x made
  pub at : limit_of k' ≡ limit
  pub place : place_of k' ≡ place_of k
  pub room : room_of k' ≡ room_of k
  pub event : IfSome (waiting_of k') (λ e. (x : Core) (made : List Operation) → StandsFor k x made
      → IsNextOf x made limit e)
  pub whole : IfSome (waiting_of k') (λ e. (x : Core) (made : List Operation) → StandsFor k x made
      → IsWholeOf x made limit e)
  pub fits : IfSome (waiting_of k') (EventFits (place_of k) limit)
  pub phases : phases_of k ≤ phases_of k'
  pub below : IsSome (waiting_of k') → phases_of k' < 3 * limit
  pub through : IsNone (waiting_of k') → IsThrough k'
  pub all : IsNone (waiting_of k') → (x : Core) (made : List Operation) → StandsFor k x made → HasMadeAll x made limit
