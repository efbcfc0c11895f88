-- To be believed. The only core of a platform, cycle by cycle.
use Rattle.std.specs.Prelude.{◌≡◌, ◌≢◌, ℕ, ◌+◌, Bool, true, false, ◌∷◌, ◌⊎◌, Some, slice_index}
use Rattle.patmos_model.specs.State.{Plain, Core, History, is_running, is_free}
use Rattle.patmos_model.specs.Transaction.{is_due}
use Rattle.patmos_step.specs.declared.plan.Plan.{Plan}
use Rattle.patmos_step.specs.declared.plan.Plan.TheVariants.{Nothing, Waits, Does}
use Rattle.patmos_model.specs.declared.state.Status.{Status}
use Rattle.patmos_model.specs.declared.state.Status.TheVariants.{Idle, Running, Trapped}
use Rattle.patmos_step.specs.Shown.{Shows, core_of}
use Rattle.core_pace.specs.Moment.{Done, landed, passes}
use Rattle.pipe_five.specs.declared.lone.Lone.{Lone}
use Rattle.pipe_five.specs.declared.latches.Latches.{Latches}
use Rattle.pipe_five.specs.Steps.{core_before, words_before, done_below, place_of, found_by}
use Rattle.pipe_five.specs.Stages.{is_start}
use Rattle.pipe_five.specs.Latches.{shifted}

-- The core is such a state y of a core that began as x; its board has the words of the machine, and a function starts
-- where the core's does.
pub record IsIn (l : Lone) (x y : Core) : Type 0 where
  pub seen : History
  pub shows : Shows l.body seen
  pub core : y ≡ core_of l.body seen
  pub words : (word : ℕ) → words_before x l.cycle word ≡ slice_index l.words.items word
  pub placed : is_start l.body.image l.body.base ≡ true

-- before its cycle
abbrev pub RunsAs : Lone → Core → Type 0
RunsAs l x = IsIn l x (core_before x l.cycle)

-- within its cycle, once a flow that was due has taken effect
abbrev pub LandedAs : Lone → Core → Type 0
LandedAs l x = IsIn l x (landed l.cycle (core_before x l.cycle))

-- it does not run; or it is neither free nor can move words
abbrev pub Sleeps : ℕ → Plain → Type 0
Sleeps cycle x = (is_running x ≡ false) ⊎ ((is_free cycle x ≡ false) × (is_due cycle x ≡ false))

-- the one bundle that is done from one cycle on and below another is done in the last of these cycles, and comes into
-- its stage with the registers that it found
pub record IsNextBundle (x : Core) (from to : ℕ) (before after : Latches) : Type 0 where
  pub bundle : Done
  pub only : done_below x to ≡ bundle ∷ done_below x from
  pub at : bundle.cycle + 1 ≡ to
  pub held : after ≡ shifted (Some (place_of bundle)) (found_by x bundle) before

-- such a bundle is told; or there is none, and the stages hold what they held
abbrev pub TellsBundle : Core → ℕ → ℕ → Bool → Latches → Latches → Type 0
TellsBundle x from to told before after = elim told [
  | true ↦ IsNextBundle x from to before after
  | false ↦ (done_below x to ≡ done_below x from) × (after ≡ before)
]

-- a core with this plan goes on exactly where the bundle that it does passes its checks
abbrev pub LeavesStatus : Plan → Plain → Plain → Type 0
LeavesStatus plan before after = elim plan [
  | Nothing ↦ Unit {0}
  | Waits ↦ Unit {0}
  | Does fetched ↦ (passes fetched before ≡ true → after.status ≡ Running)
      × (passes fetched before ≡ false → after.status ≢ Running)
]

-- the plan was to do a bundle, and the core was not stopped
abbrev pub was_done : Plan → Status → Bool
was_done plan status = elim plan [
  | Nothing ↦ false
  | Waits ↦ false
  | Does fetched ↦ elim status [ Idle ↦ false | Running ↦ true | Trapped trap at ↦ false ]
]
