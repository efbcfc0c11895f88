-- To be believed. What contracts see of a worker, and what a turn of it does.
use Rattle.std.specs.Prelude.{◌≡◌, ℕ, List, ◌++◌, Some, IfSome, ◌<◌, length, slice_index_or}
use Rattle.slot_arbiter.specs.declared.event.Event.{Event}
use Rattle.shared_order.specs.Event.{asked_by}
use Rattle.clock_board.specs.View.{own, HasSeen}
use Rattle.clock_board.specs.Board.{BoardFace, PassFace, IsPassOf}
use Rattle.patmos_core.specs.declared.cpu.Core.{Core as Cpu}
use Rattle.patmos_model.specs.State.{Core}
use Rattle.patmos_core.specs.Position.{waiting_of, place_of, IsNextOf, IsWholeOf, EventFits}
use Rattle.core_worker.specs.declared.turn.Turn.{Turn}
use Rattle.core_worker.specs.declared.turn.Turn.TheVariants.{Moved, Blocked, Ended}
use Rattle.core_worker.specs.Runs.{RunsAs, GoesOnAs}
use Rattle.core_worker.specs.Pieces.{EndsWith, ShowsPieces}
use Rattle.core_worker.specs.Looked.{SawAll, SawOne}
use Rattle.core_worker.specs.Kept.{HasEnded}

-- a worker: its core, its pass, and the limit in cycles
pub record WorkerFace : Type 0 where
  pub core : Cpu
  pub pass : PassFace
  pub limit : ℕ

-- the worker of these
abbrev pub face : Cpu → PassFace → ℕ → WorkerFace
face core pass limit = record { core = core; pass = pass; limit = limit }

-- the event, which is of one operation or more, comes next in the run of the worker's core, whichever core's
-- it is, below the limit, and is all of that stamp but for the store of a narrow store; where the core waits to
-- be told one, it is that
pub record IsNextEvent (w : WorkerFace) (e : Event) : Type 0 where
  pub fits : EventFits (place_of w.core) w.limit e
  pub sized : length e.ops ≡ 8
  pub next : (x : Core) → RunsAs x w.limit w.core w.pass.view → IsNextOf x (own w.pass.view).made w.limit e
  pub whole : (x : Core) → RunsAs x w.limit w.core w.pass.view → IsWholeOf x (own w.pass.view).made w.limit e
  pub waits : IfSome (waiting_of w.core) (λ f. e ≡ f)

-- it made its next event, and nothing else: its stamp was published last, every other clock was seen at or
-- past it, and no look of this turn showed less
pub record HasMoved (w w' : WorkerFace) : Type 0 where
  pub event : Event
  pub is : IsNextEvent w event
  pub values : List ℕ
  pub made : (own w'.pass.view).made ≡ (own w.pass.view).made ++ asked_by event values
  pub last : EndsWith event.stamp (own w'.pass.view).published
  pub seen : HasSeen w'.pass.view event.stamp
  pub looks : SawAll event.stamp (own w.pass.view).looks (own w'.pass.view).looks

-- it made nothing, and waits with its next event, whose stamp was published last: a look at this core's
-- clock showed less than that
pub record IsBlocked (core seen wanted : ℕ) (w w' : WorkerFace) : Type 0 where
  pub event : Event
  pub is : IsNextEvent w event
  pub waits : waiting_of w'.core ≡ Some event
  pub wanted_is : wanted ≡ event.stamp
  pub made : (own w'.pass.view).made ≡ (own w.pass.view).made
  pub last : EndsWith wanted (own w'.pass.view).published
  pub looks : SawOne wanted core seen (own w.pass.view).looks (own w'.pass.view).looks

-- it had no event left below the limit, and made no look
pub record IsOver (w w' : WorkerFace) : Type 0 where
  pub ended : HasEnded w'.limit w'.core w'.pass.view
  pub made : (own w'.pass.view).made ≡ (own w.pass.view).made
  pub looks : (own w'.pass.view).looks ≡ (own w.pass.view).looks

-- what a turn did
abbrev pub HasTurned : Turn → WorkerFace → WorkerFace → Type 0
HasTurned turn w w' = elim turn [
  | Moved ↦ HasMoved w w'
  | Blocked core seen wanted ↦ IsBlocked core seen wanted w w'
  | Ended ↦ IsOver w w'
]

-- the same worker later
pub record IsLater (w w' : WorkerFace) : Type 0 where
  pub goes_on : GoesOnAs w.limit w.core w.pass.view w'.core w'.pass.view
  pub limit : w'.limit ≡ w.limit

-- the same workers later, each in its place
pub record AreLater (workers workers' : List WorkerFace) : Type 0 where
  pub count : length workers' ≡ length workers
  pub later : (k : ℕ) (d : WorkerFace) → k < length workers
      → IsLater (slice_index_or workers k d) (slice_index_or workers' k d)

-- the worker's pass is of the board
abbrev pub IsOn : BoardFace → WorkerFace → Type 0
IsOn board w = IsPassOf board w.pass

-- the worker's core is through at the limit, with all of its list made and a stamp past it published
abbrev pub IsDone : WorkerFace → Type 0
IsDone w = HasEnded w.limit w.core w.pass.view

-- the end of each of its pieces that lies before its clock was published
abbrev pub HasPieces : WorkerFace → Type 0
HasPieces w = ShowsPieces w.pass.view.cores (own w.pass.view).published
