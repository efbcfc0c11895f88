-- For proofs. What a core waits to be told.
use Rattle.std.specs.Prelude.{◌≡◌, ℕ, ◌*◌, ◌%◌, ◌≤◌, ◌<◌, List, Option, None, Some, IsSome}
use Rattle.std.proofs.Props.{props}
use Rattle.slot_arbiter.specs.declared.place.TheConstants.{MOST_CYCLES}
use Rattle.slot_arbiter.specs.Stamp.{stamp}
use Rattle.slot_arbiter.specs.declared.place.Place.{Place}
use Rattle.slot_arbiter.specs.declared.event.Event.{Event}
use Rattle.shared_order.specs.Program.{fed}
use Rattle.shared_order.specs.Event.{IsAskedBy}
use Rattle.argo_ni.specs.Packet.{comm_word}
use Rattle.argo_ni.specs.Event.{IsNextAct}
use Rattle.patmos_model.specs.declared.pending_store.PendingStore.{PendingStore}
use Rattle.patmos_core.specs.declared.tasked.Tasked.{Tasked}
use Rattle.patmos_core.specs.declared.phase.Phase.{Phase}
use Rattle.patmos_core.specs.declared.phase.Phase.TheVariants.{Delivery, Act, Completion}
use Rattle.patmos_core.specs.declared.kind.Kind.{Kind}
use Rattle.patmos_core.specs.declared.kind.Kind.TheVariants.{Idle, Tasked as WithTask}
use Rattle.patmos_model.specs.State.{Core, History}
use Rattle.patmos_model.specs.Cycle.{turn, acted, settled}
use Rattle.patmos_core.specs.Events.{AllBelow, AllUnread, LoadsFirst, asked_of, EndsBefore}
use Rattle.patmos_step.specs.Shown.{Shows, core_of}

-- the number of a phase in a stamp
abbrev pub stamp_phase : Phase → ℕ
stamp_phase phase = elim phase [ Delivery ↦ 0 | Act ↦ 1 | Completion pending_store ↦ 1 ]

-- the event is what the core asks for in a phase of a cycle, whatever its loads give
abbrev pub AsksIn : Phase → ℕ → Core → Event → Type 0
AsksIn phase cycle y e = elim phase [
  | Delivery ↦ IsAskedBy e (turn 0 cycle y)
  | Act ↦ IsAskedBy e (acted cycle y)
  | Completion pending_store ↦ IsAskedBy e (settled (record { core = y; pending_store = Some pending_store }))
]

-- what the event leaves of the second phase, whatever its loads give, is no more than a store into the word
-- that it loads last
abbrev pub LeavesIn : Phase → ℕ → Core → Event → Type 0
LeavesIn phase cycle y e = elim phase [
  | Delivery ↦ Unit {0}
  | Act ↦ (values : List ℕ) → EndsBefore e (fed e.stamp (acted cycle y) values).core.pending_store
  | Completion pending_store ↦ Unit {0}
]

-- it is what the core asks for where it stands, before the latest limit; and where packets come to their
-- words, the interface is about to deliver them
pub record IsAskedAt (t : Tasked) (e : Event) : Type 0 where
  pub stamp : e.stamp ≡ stamp t.body.place.cores t.body.place.core t.cycle (stamp_phase t.phase)
  pub asks : (h : History) → Shows t.body h → AsksIn t.phase t.cycle (core_of t.body h) e
  pub leaves : (h : History) → Shows t.body h → LeavesIn t.phase t.cycle (core_of t.body h) e
  pub early : t.cycle < MOST_CYCLES
  pub delivers : t.phase ≡ Delivery → IsNextAct t.body.ni (2 * t.cycle)

-- the event is one of the core at the place, on words of the board, and not of none; what its loads will give
-- stands as 0 in it, and they stand before its stores
pub record IsOfPlace (place : Place) (e : Event) : Type 0 where
  pub core : e.stamp % place.cores ≡ place.core
  pub some : 1 ≤ e.count
  pub words : AllBelow (comm_word place.cores 0) (asked_of e)
  pub unread : AllUnread (asked_of e)
  pub loads_first : LoadsFirst (asked_of e)

-- what waits at a place, if anything does
abbrev pub WaitsAt : Kind → Option Event → Type 0
WaitsAt kind waiting = elim waiting [
  | None ↦ Unit {0}
  | Some e ↦ elim kind [ Idle place ↦ ⊥ | WithTask t ↦ IsAskedAt t e ]
]

-- the core has not gone past the limit, and is not midway in a cycle there; where it waits, it is before it
pub record IsUpToLimit (t : Tasked) (limit : ℕ) (waiting : Option Event) : Type 0 where
  pub within : t.cycle ≤ limit
  pub whole : t.cycle ≡ limit → t.phase ≡ Delivery
  pub before : IsSome waiting → t.cycle < limit

abbrev pub KeepsLimit : Kind → ℕ → Option Event → Type 0
KeepsLimit kind limit waiting = elim kind [ Idle place ↦ Unit {0} | WithTask t ↦ IsUpToLimit t limit waiting ]

-- these hold in one way only
asks_in_once : (phase : Phase) (cycle : ℕ) (y : Core) (e : Event) → IsProp (AsksIn phase cycle y e)
asks_in_once Delivery cycle y e = Prim.hlevel props
asks_in_once Act cycle y e = Prim.hlevel props
asks_in_once (Completion pending_store) cycle y e = Prim.hlevel props

ends_once : (e : Event) (pending_store : Option PendingStore) → IsProp (EndsBefore e pending_store)
ends_once e None = Prim.hlevel props
ends_once e (Some o) = Prim.hlevel props

leaves_in_once : (phase : Phase) (cycle : ℕ) (y : Core) (e : Event) → IsProp (LeavesIn phase cycle y e)
leaves_in_once Delivery cycle y e = Prim.hlevel props
leaves_in_once Act cycle y e = Prim.hlevel (props, ends_once)
leaves_in_once (Completion pending_store) cycle y e = Prim.hlevel props

asked_once : (t : Tasked) (e : Event) → IsProp (IsAskedAt t e)
asked_once t e = Prim.hlevel (props, asks_in_once, leaves_in_once)

pub waits_once : (kind : Kind) (waiting : Option Event) → IsProp (WaitsAt kind waiting)
waits_once kind None = Prim.hlevel props
waits_once (Idle place) (Some e) = Prim.hlevel props
waits_once (WithTask t) (Some e) = asked_once t e

pub limit_once : (kind : Kind) (limit : ℕ) (waiting : Option Event) → IsProp (KeepsLimit kind limit waiting)
limit_once (Idle place) limit waiting = Prim.hlevel props
limit_once (WithTask t) limit waiting = Prim.hlevel props
