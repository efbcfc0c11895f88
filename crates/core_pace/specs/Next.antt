-- To be believed. From one bundle to the next: what a core that is about to do a bundle makes of it, of the words
-- that it moves, and of a flow that then takes effect.
use Rattle.std.specs.Prelude.{◌≡◌, ℕ, zero, suc, ◌-◌, ◌<◌, ◌≤◌, Bool, true, false, ◌==◌, List, ◌++◌, Option, None, Some}
use Rattle.slot_arbiter.specs.Stamp.{stamp}
use Rattle.shared_order.specs.Program.{Prog, fed, and_then}
use Rattle.patmos_model.specs.declared.flow.Flow.{Flow}
use Rattle.patmos_model.specs.declared.transfer.Then.{Then}
use Rattle.patmos_model.specs.declared.transfer.Then.TheVariants as then_on
use Rattle.patmos_model.specs.declared.state.Status.TheVariants.{Running, Trapped}
use Rattle.patmos_model.specs.declared.trap.Trap.{Trap}
use Rattle.patmos_model.specs.State.{Core, is_running, is_free, has_ended}
use Rattle.patmos_model.specs.Cells.{Acted}
use Rattle.patmos_model.specs.Bundle.{bundle}
use Rattle.patmos_model.specs.Bursts.{slots_of}
use Rattle.patmos_model.specs.Transaction.{transaction}
use Rattle.patmos_model.specs.Cycle.{settled}
use Rattle.patmos_model.specs.Apart.{by_task}
use Rattle.core_pace.specs.Spans.{IsSlotted, start_in}
use Rattle.core_pace.specs.Moment.{Moment, core_in, landed, done_by, interfaced, Passes}

-- a flow without a delay slot left is due
abbrev pub is_due_flow : Option Flow → Bool
is_due_flow flow = elim flow [ None ↦ false | Some f ↦ f.slots == 0 ]

-- the address of the line that is on its way into the data cache, where one is
abbrev pub line_in : Then → Option ℕ
line_in moved_on = elim moved_on [
  | then_on.Nothing ↦ None
  | then_on.Load rd width address ↦ None
  | then_on.Line rd width address ↦ Some address
  | then_on.Store cached width address value ↦ None
]

-- The core is about to do a bundle: it runs, is free in this cycle and has nothing to move, and no flow is due.
pub record IsAboutTo (m : Moment) : Type 0 where
  pub running : is_running (core_in m).plain ≡ true
  pub free : is_free m.cycle (core_in m).plain ≡ true
  pub settled : is_due_flow (core_in m).plain.flow ≡ false
  pub no_line : line_in (core_in m).plain.transfer.then ≡ None

-- a flow that is due has taken effect
abbrev pub landing : Moment → Moment
landing m = record m { told = record m.told { run = record m.told.run { core = landed m.cycle (core_in m) } } }

-- What the core still has to move, it moves from this cycle on; with nothing to move it goes on in this cycle or later.
pub record IsDue (m : Moment) : Type 0 where
  pub slots : IsSlotted (core_in m).plain.site
  pub near : m.cycle ≤ (core_in m).plain.free
  pub moving : 0 < (core_in m).plain.transfer.words
      → ((core_in m).plain.status ≡ Running) × ((core_in m).plain.free ≡ m.cycle)

-- What a core comes to after a bundle: it is about to do the next one; its task has
-- ended; or it was stopped; each in this cycle.
pub data ComesTo (m : Moment) : Type 0 where
  about_to : IsAboutTo m → ComesTo m
  ended : (core_in m).plain.status ≡ Running → has_ended (core_in m).plain ≡ true → (core_in m).plain.free ≡ m.cycle
      → ComesTo m
  trapped : (fault : Trap) → (core_in m).plain.status ≡ Trapped fault m.cycle → ComesTo m

module _ (n core : ℕ) where
  -- a moment of the run in which the core is about to do a bundle
  pub record IsAtBundle (x : Core) (values : List ℕ) (m : Moment) : Type 0 where
    pub slots : IsSlotted (core_in m).plain.site
    pub about : IsAboutTo m
    pub passes : Passes n core x values m

  -- the task acts by a program
  abbrev pub acting : Prog Acted → Moment → Moment
  acting p m = record m {
    told = by_task (fed (stamp n core m.cycle 1) (and_then p settled) m.told.run.left) m.told;
  }

  -- the bundle is done
  abbrev pub bundled : Moment → Moment
  bundled m = record (acting (bundle m.cycle (core_in m)) m) { bundles = m.bundles ++ done_by m.cycle (core_in m) }

  -- words are moved in the slot that starts in this cycle
  abbrev pub transacted : Moment → Moment
  transacted m = acting (transaction m.cycle (core_in m)) m

  -- the next cycle, if the task itself does nothing before it
  abbrev pub next_cycle : Moment → Moment
  next_cycle m = interfaced n core (record m { cycle = suc m.cycle })

  -- so many cycles further, and up to a cycle, in which the task itself does nothing
  abbrev pub waited : ℕ → Moment → Moment
  waited zero m = m
  waited (suc cycles) m = next_cycle (waited cycles m)

  abbrev pub until : ℕ → Moment → Moment
  until cycle m = waited (cycle - m.cycle) m

  -- the next transaction is made in the next slot, and that slot ends
  abbrev pub moved_once : Moment → Moment
  moved_once m = waited (core_in m).plain.site.slot (transacted (until (start_in (core_in m).plain.site m.cycle) m))

  -- so many transactions, one after another
  abbrev pub moved : ℕ → Moment → Moment
  moved zero m = m
  moved (suc slots) m = moved slots (moved_once m)

  -- the core goes on
  abbrev pub freed : Moment → Moment
  freed m = until (core_in m).plain.free m

  -- all that is to be moved is moved, and the core goes on
  abbrev pub all_moved : Moment → Moment
  all_moved m = freed (moved (slots_of (core_in m).plain.transfer.words) m)

  -- the next moment after a bundle: its words are moved, a flow that is then due takes effect, and what it fetches is
  -- moved
  abbrev pub next : Moment → Moment
  next m = all_moved (landing (all_moved (bundled m)))
