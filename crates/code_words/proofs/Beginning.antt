-- From a task's begin on: what holds before its first bundle is carried along all of its bundles.
use Rattle.std.proofs.Common.{◌≡◌, ℕ, List, Option, Some, refl, sym, subst}
use Rattle.local_store.specs.declared.map.Cell.{Cell}
use Rattle.patmos_sem.specs.declared.effects.Effect.{Effect}
use Rattle.patmos_model.specs.Begin.{begun}
use Rattle.patmos_model.specs.Site.{Site}
use Rattle.patmos_model.specs.declared.flow.Goal.{Goal}
use Rattle.patmos_model.specs.declared.flow.Goal.TheVariants as goal
use Rattle.core_pace.specs.Moment.{Moment}
use Rattle.core_pace.specs.Run.{after_bundles}
use Rattle.core_pace.specs.Spans.{IsSlotted}
use Rattle.sp_shape.specs.Memory.{Memory}
use Rattle.sp_shape.specs.Run.{Run, Back, at_begin}
use Rattle.sp_shape.specs.Trail.{Step}
use Rattle.tc_link.specs.Walk.{Walk, Does, due}
use Rattle.code_core.specs.Goes.{by_stack, loads_from}
use Rattle.code_core.specs.Held.{HoldsPorts}
use Rattle.code_core.specs.Sound.{AreSound, bundles_in}
use Rattle.code_core.proofs.Beginning.{first, walk, stands_first, after_is}
use Rattle.code_core.proofs.Landing.{StartsAfter}
use Rattle.code_words.specs.Own.{AllPass}
use Rattle.code_words.proofs.Along.{Carries, Carried, along}
use Rattle.code_words.proofs.Saying.{OfLoads}

module _ (n core : ℕ) (site : Site) (input values : List ℕ) where
  module _ (Passes : Effect → Type 0) (Says : Option Cell → Memory → ℕ → Type 0) (Beside : Run → Moment → Type 0)
      (Ends : Moment → Type 0) where
    -- after the last bundle of the task, whose loads gave these
    pub record CarriedTo (steps : List Step) (m : Run) (e : Walk) : Type 0 where
      pub beside : Beside e.run (after_bundles n core (begun site input) values (bundles_in steps))
      pub loads : OfLoads Says by_stack steps m

    pub carried_to : Carries n core (begun site input) values Passes Says Beside Ends → (steps : List Step)
        (ds : List (Option Goal)) (memory : Memory) (backs : List Back) (e : Walk) (offset : ℕ)
        → HoldsPorts memory (begun site input).plain.interface → IsSlotted site → StartsAfter site.image
        → Does site.image by_stack steps ds (walk n core site input values memory (loads_from n core (bundles_in steps)
        (first n core site input values)) backs) e
        → AreSound site by_stack steps (at_begin memory (loads_from n core (bundles_in steps)
        (first n core site input values)) backs)
        → AllPass Passes by_stack steps (at_begin memory (loads_from n core (bundles_in steps)
        (first n core site input values)) backs)
        → due e.flow ≡ Some (goal.Return 0 offset)
        → Beside (at_begin memory (loads_from n core (bundles_in steps) (first n core site input values)) backs)
        (first n core site input values)
        → Ends (after_bundles n core (begun site input) values (bundles_in steps))
        → CarriedTo steps (at_begin memory (loads_from n core (bundles_in steps) (first n core site input values))
        backs) e
    carried_to carries steps ds memory backs e offset ports slots starts h sound pass last own so =
        let f : Moment = first n core site input values in
        let loads : List ℕ = loads_from n core (bundles_in steps) f in
        let w : Walk = walk n core site input values memory loads backs in
        let c : Carried n core (begun site input) values Passes Says Beside Ends steps w e f =
        along n core (begun site input) values Passes Says Beside Ends carries starts steps ds w e f offset
        (stands_first n core site input values memory loads backs ports slots) tt h sound pass own refl last
        (subst Ends (after_is n core site input values (bundles_in steps)) so) in
        record {
          loads = c.loads;
          beside = subst (Beside e.run)
              (sym (after_is n core site input values (bundles_in steps))) c.beside;
        }
