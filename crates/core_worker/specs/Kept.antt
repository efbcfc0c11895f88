-- To be believed. What a worker keeps between its steps.
use Rattle.std.specs.Prelude.{◌≡◌, ℕ, ◌*◌, ◌%◌, ◌<◌, ◌≤◌, Bool, List, None, length, IfSome, IsTrue}
use Rattle.std.specs.List.{AllByRecursion as Each, Contains}
use Rattle.slot_arbiter.specs.declared.place.TheConstants.{MOST_CYCLES}
use Rattle.slot_arbiter.specs.declared.place.Place.{Place}
use Rattle.slot_arbiter.specs.declared.event.Event.{Event}
use Rattle.clock_board.specs.declared.known.View.{View}
use Rattle.clock_board.specs.Record.{clock_of}
use Rattle.clock_board.specs.View.{own, todo, IsGiven}
use Rattle.patmos_core.specs.declared.cpu.Core.{Core as Cpu}
use Rattle.patmos_model.specs.State.{Core}
use Rattle.patmos_core.specs.Position.{waiting_of, limit_of, place_of, IsThrough, EventFits}
use Rattle.core_worker.specs.Runs.{listed, RunsAs}
use Rattle.core_worker.specs.Pieces.{piece_end, stamp_from, EndsWith}

-- the event is one of the core at the place below the limit, and its stamp is published
pub record IsShown (place : Place) (limit : ℕ) (published : List ℕ) (e : Event) : Type 0 where
  pub fits : EventFits place limit e
  pub sized : length e.ops ≡ 8
  pub shown : EndsWith e.stamp published

-- the core is through at the limit, has made all of its list, and has published a stamp past it
pub record HasEnded (limit : ℕ) (k : Cpu) (v : View) : Type 0 where
  pub made : (own v).made ≡ listed v
  pub past : stamp_from v.cores limit ≤ clock_of (own v).published
  pub through : IsThrough k
  pub at : limit_of k ≡ limit
  pub waiting : waiting_of k ≡ None

-- The core and the pass of a worker that has reached a cycle, the end of its last piece: the pass is the
-- core's; the clock is not past what is left, nor past the end of the piece that is going on; the end of
-- each piece until there was published; and there is a core for whose run apart both stand.
pub record IsKept (limit reached : ℕ) (ended : Bool) (k : Cpu) (v : View) : Type 0 where
  pub given : IsGiven v
  pub cores : (place_of k).cores ≡ v.cores
  pub core : (place_of k).core ≡ (own v).core
  pub most : limit ≤ MOST_CYCLES
  pub within : reached ≤ limit
  pub asked : limit_of k ≤ piece_end limit reached
  pub clock : clock_of (own v).published ≤ stamp_from v.cores (piece_end limit reached)
  pub left : Each (λ o. clock_of (own v).published ≤ o.stamp) (todo v)
  pub grid : reached < limit → reached % 1024 ≡ 0
  pub ends : (h : ℕ) → 0 < h → 1024 * h ≤ reached → Contains (own v).published (stamp_from v.cores (1024 * h))
  pub waits : IfSome (waiting_of k) (IsShown (place_of k) limit (own v).published)
  pub over : IsTrue ended → HasEnded limit k v
  pub run : (x : Core) × RunsAs x limit k v
