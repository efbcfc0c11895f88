-- To be believed. What a core that follows its code comes to.
use Rattle.std.specs.Prelude.{◌≡◌, ℕ, ◌∷◌, [], List, false}
use Rattle.patmos_code.specs.Images.{Parts}
use Rattle.patmos_instr.specs.Bundles.{PlainBundle}
use Rattle.patmos_model.specs.Apart.{site_of}
use Rattle.patmos_model.specs.Begin.{begun}
use Rattle.patmos_model.specs.Bundle.{fetched_at}
use Rattle.patmos_model.specs.declared.fetched.Fetched.TheVariants.{Found}
use Rattle.patmos_model.specs.State.{is_running}
use Rattle.patmos_model.specs.declared.state.Status.TheVariants.{Running}
use Rattle.core_pace.specs.Moment.{Done, Moment, core_in}
use Rattle.core_pace.specs.Run.{first_event, after_bundles, past}
use Rattle.sp_shape.specs.Parts.{PlainShape}
use Rattle.sp_shape.specs.Run.{run_late}
use Rattle.sp_shape.specs.Trail.{Step, does, begins, trail}
use Rattle.slot_arbiter.specs.declared.place.Place.{Place}
use Rattle.tc_link.specs.Backs.{back}
use Rattle.tc_link.specs.Dues.{dues_of}
use Rattle.tc_link.specs.Placed.{linked}
use Rattle.tc_link.specs.Walk.{erased}
use Rattle.code_core.specs.Fixed.{begun_run, fixed_events}
use Rattle.code_core.specs.Goes.{by_stack}
use Rattle.code_core.specs.Sound.{bundles_in}

-- the bundle of a moment in which a core is about to do one
abbrev pub done_at : Moment → Done
done_at m = record { base = (core_in m).plain.base; offset = (core_in m).plain.offset; cycle = m.cycle }

-- the bundle that stands where one was done is that of the code, but for the target of a branch or a call
pub record IsDoneAs (image : Parts) (b : PlainBundle) (d : Done) : Type 0 where
  pub bundle : PlainBundle
  pub words : ℕ
  pub found : fetched_at image d.base d.offset ≡ Found bundle words
  pub same : erased bundle ≡ erased b

-- the bundles of the trail were done, one after another and no others
abbrev pub AreDone : Parts → List Step → List Done → Type 0
AreDone image [] [] = Unit {0}
AreDone image [] (d ∷ ds) = ⊥
AreDone image (does b ∷ steps) [] = ⊥
AreDone image (does b ∷ steps) (d ∷ ds) = IsDoneAs image b d × AreDone image steps ds
AreDone image (begins ∷ steps) ds = AreDone image steps ds

-- the moment after the last bundle of the trail
abbrev pub last_of : Place → PlainShape → List ℕ → List ℕ → Moment
last_of place s input values =
    after_bundles place.cores place.core (begun (site_of place (linked s)) input) values (bundles_in (trail s))

-- There the task has done its trail and has ended, and no check stopped it; its events are those that its code fixes;
-- and its registers are those of the code, read late, that had the same values from its loads.
pub record IsFollowed (place : Place) (s : PlainShape) (addresses input values : List ℕ) : Type 0 where
  pub loads : List ℕ
  pub status : (core_in (last_of place s input values)).plain.status ≡ Running
  pub still : is_running (core_in (last_of place s input values)).plain ≡ false
  pub bundles : AreDone (linked s) (trail s) (last_of place s input values).bundles
  pub events : past place.cores place.core (begun (site_of place (linked s)) input) values (bundles_in (trail s))
      ≡ first_event (site_of place (linked s)) ∷ fixed_events (linked s) (trail s) (dues_of s (back 0 0)) addresses
  pub regs : (core_in (last_of place s input values)).plain.regs
      ≡ (run_late by_stack (trail s) (begun_run s loads)).regs
