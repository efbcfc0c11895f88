-- To be believed. A core is where a walk is; what its loads gave; and its events, told of the walk.
use Rattle.std.specs.Prelude.{◌≡◌, ℕ, zero, suc, true, false, List, [], ◌∷◌, ◌++◌, Option, None, Some, ◌==◌, if◌then◌else◌}
use Rattle.patmos_code.specs.Images.{Parts}
use Rattle.patmos_sem.specs.Bundles.{effect_of}
use Rattle.patmos_sem.specs.Registers.{Registers}
use Rattle.patmos_sem.specs.declared.effects.Effect.{Effect}
use Rattle.patmos_sem.specs.declared.effects.Effect.TheVariants as effect
use Rattle.patmos_sem.specs.declared.pending.Pending.{Pending}
use Rattle.patmos_sem.specs.declared.pending.Pending.TheVariants as pending
use Rattle.patmos_model.specs.declared.fetched.Fetched.{Fetched}
use Rattle.patmos_model.specs.declared.fetched.Fetched.TheVariants.{Outside, NoBundle, Found}
use Rattle.patmos_model.specs.declared.flow.Goal.{Goal}
use Rattle.patmos_model.specs.declared.flow.Goal.TheVariants as goal
use Rattle.patmos_model.specs.Site.{method_at}
use Rattle.patmos_model.specs.State.{Plain, Core, has_ended}
use Rattle.patmos_model.specs.declared.state.Status.TheVariants.{Running}
use Rattle.core_pace.specs.Moment.{Moment, core_in, fetched_in}
use Rattle.core_pace.specs.Next.{IsAtBundle, next}
use Rattle.core_pace.specs.Pace.{Event, came, event_of}
use Rattle.core_pace.specs.Run.{onward, events_onward}
use Rattle.sp_shape.specs.Run.{Run, Sources, late, begun}
use Rattle.sp_shape.specs.Trail.{Step, does, begins}
use Rattle.tc_link.specs.Walk.{Walk, IsAs, flowed}
use Rattle.code_core.specs.Held.{HoldsStack, HoldsPorts}

-- loads from the stack give what was stored last there, and all others the next of a list
abbrev pub by_stack : Sources
by_stack = record { stack = true; others = false }

-- a core has a walk's registers, with what is pending, is at its place, with its flow, and holds its stack
pub record Goes (w : Walk) (x : Plain) : Type 0 where
  pub is_as : IsAs w x
  pub stack : HoldsStack w.run x.stack x.private
  pub ports : HoldsPorts w.run.memory x.interface

-- ---- what loads gave

abbrev pub pending_value : Pending → ℕ
pending_value (pending.Value rd value) = value
pending_value _ = 0

-- what a bundle asks for where a core is
abbrev pub asked_in : Fetched → Registers → Effect
asked_in Outside regs = effect.Nothing
asked_in NoBundle regs = effect.Nothing
asked_in (Found b words) regs = effect_of b regs

abbrev pub asked_at : Plain → Effect
asked_at x = asked_in (fetched_in x) x.regs

-- after a load its value is pending
abbrev pub given_by : Effect → Registers → List ℕ
given_by (effect.Load space width rd address) regs = pending_value regs.pending ∷ []
given_by _ regs = []

module _ (n core : ℕ) where
  abbrev pub given : Moment → List ℕ
  given m = given_by (asked_at (core_in m).plain) (core_in (next n core m)).plain.regs

  -- what the loads of so many bundles gave, from a moment on
  abbrev pub loads_from : ℕ → Moment → List ℕ
  loads_from zero m = []
  loads_from (suc count) m = given m ++ loads_from count (onward n core m)

  -- so many bundles further
  abbrev pub onwards : ℕ → Moment → Moment
  onwards zero m = m
  onwards (suc count) m = onwards count (onward n core m)

  -- the events of so many bundles, from a moment on
  abbrev pub events_from : ℕ → Moment → List Event
  events_from zero m = []
  events_from (suc count) m = events_onward n core m ++ events_from count (onward n core m)

  -- The core is at the next bundle of a walk, a flow that was due having taken effect.
  pub record Stands (x : Core) (values : List ℕ) (w : Walk) (m : Moment) : Type 0 where
    pub at : IsAtBundle n core x values m
    pub site_is : (core_in m).plain.site ≡ x.plain.site
    pub goes : Goes (flowed w) (core_in m).plain

  -- The task has ended where the walk is.
  pub record Ended (w : Walk) (m : Moment) : Type 0 where
    pub status : (core_in m).plain.status ≡ Running
    pub ended : has_ended (core_in m).plain ≡ true
    pub goes : Goes w (core_in m).plain

-- ---- events

-- of a flow that takes effect; with a return to base 0 the task ends
abbrev pub goal_events : Parts → Option Goal → List Event
goal_events image None = []
goal_events image (Some (goal.Within offset)) = []
goal_events image (Some (goal.Call target)) = came (method_at image target) ∷ []
goal_events image (Some (goal.Fill target)) = came (method_at image target) ∷ []
goal_events image (Some (goal.Return base offset)) = if base == 0 then [] else came (method_at image base) ∷ []

-- of a trail that is read late from a run on, where these goals are due after its bundles
abbrev pub run_events : Parts → Sources → List Step → List (Option Goal) → Run → List Event
run_events image from [] ds m = []
run_events image from (does b ∷ steps) [] m = []
run_events image from (does b ∷ steps) (d ∷ ds) m =
    (event_of (effect_of b m.regs) ∷ goal_events image d) ++ run_events image from steps ds (late from b m)
run_events image from (begins ∷ steps) ds m = run_events image from steps ds (begun m)
