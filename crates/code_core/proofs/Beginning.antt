-- A task's core begins where its walk does.
use Rattle.std.proofs.Common.{◌≡◌, ℕ, zero, suc, ◌-◌, false, List, [], ◌∷◌, ◌++◌, Option, Some, refl, sym, ap, ◌∙◌, subst, arith, true≢false, append_assoc, append-nil}
use Rattle.patmos_model.specs.Begin.{begun, entry}
use Rattle.patmos_model.specs.Site.{Site, method_at}
use Rattle.patmos_model.specs.State.{Core, has_ended}
use Rattle.patmos_model.specs.declared.flow.Goal.{Goal}
use Rattle.patmos_model.specs.declared.flow.Goal.TheVariants as goal
use Rattle.patmos_model.specs.declared.state.Status.TheVariants.{Running, Trapped}
use Rattle.core_pace.specs.Moment.{Moment, core_in, interfaced, before}
use Rattle.core_pace.specs.Next.{IsAboutTo, ComesTo, about_to, ended, trapped, is_due_flow, freed}
use Rattle.core_pace.specs.Run.{first_event, first_moment, onward, after_bundles, events_onward, past}
use Rattle.core_pace.specs.Spans.{IsSlotted}
use Rattle.core_pace.proofs.Bundlewise.{IsPassed, all_passed}
use Rattle.core_pace.proofs.Listed.{all_moved_bundles, waited_bundles}
use Rattle.core_pace.proofs.Waits.{interface_apart, waited_same}
use Rattle.sp_shape.specs.Memory.{Memory}
use Rattle.sp_shape.specs.Run.{Run, Back, at_begin}
use Rattle.sp_shape.specs.Trail.{Step}
use Rattle.tc_link.specs.Walk.{Walk, Does, due, walk_from}
use Rattle.code_core.specs.Followed.{AreDone}
use Rattle.code_core.specs.Goes.{by_stack, Goes, loads_from, onwards, events_from, Stands, Ended, run_events}
use Rattle.code_core.specs.Sound.{AreSound, bundles_in}
use Rattle.code_core.proofs.Trailed.{Comes, along}
use Rattle.code_core.proofs.Landing.{Rests, StartsAfter, waits_on, fetch_rests}
use Rattle.code_core.specs.Held.{HoldsPorts}
use Rattle.code_core.proofs.Ports.{still_waited, still_interfaced}
use Rattle.core_pace.proofs.Listed.{waited_own}
use Rattle.shared_order.specs.declared.operation.Operation.{Operation}
use Rattle.code_core.proofs.Settled.{OfBoth, settled_by, all_settles_by, of_task}
use Rattle.code_core.proofs.BundleDone.{lies_of_task}

module _ (n core : ℕ) (site : Site) (input values : List ℕ) where
  abbrev pub first : Moment
  first = first_moment n core (begun site input) values

  abbrev pub walk : Memory → List ℕ → List Back → Walk
  walk memory loads backs = walk_from (entry site.image) (at_begin memory loads backs)

  goes_first : (memory : Memory) (loads : List ℕ) (backs : List Back)
      → HoldsPorts memory (begun site input).plain.interface → Goes (walk memory loads backs) (begun site input).plain
  goes_first memory loads backs ports = record {
    is_as = record { regs = refl; base = refl; offset = refl; flow = refl };
    stack = record {
      is_stack = record { low = omega arith; high = omega arith; between = refl; few = omega arith };
      st = refl;
      ss = refl;
      held = λ i below. absurd (omega (arith, below));
      spilled = λ a past below. absurd (omega (arith, past, below));
    };
    ports = ports;
  }

  -- what neither the interface nor a transfer changes is so before the first bundle, if it is at first
  pub holds_first : (P : Core → List Operation → Type 0) → OfBoth P → P (begun site input) []
      → P (core_in (first)) (first).told.own
  holds_first P o h =
      let z : Moment = before n core (begun site input) values 0 in
      let m0 : Moment = interfaced n core z in
      let m1 : Moment = freed n core m0 in
      let wait : ℕ = (core_in m0).plain.free - m0.cycle in
      let h0 : P (core_in m0) [] =
      o.same (core_in z) (core_in m0) [] (still_interfaced n core z (interface_apart n core z)) h in
      let h1 : P (core_in m1) [] = o.same (core_in m0) (core_in m1) [] (still_waited n core wait m0) h0 in
      let transfer : (core_in m1).plain.transfer ≡ (begun site input).plain.transfer =
      ap (λ (c : Core). c.plain.transfer) (waited_same n core wait m0)
      ∙ ap (λ (c : Core). c.plain.transfer) (interface_apart n core z) in
      all_settles_by n core P o m1 (settled_by (subst (P (core_in m1)) (sym (waited_own n core wait m0)) h1)
      (subst Rests (sym transfer) (fetch_rests [] (method_at site.image (entry site.image)))))

  begins_there : (memory : Memory) (loads : List ℕ) (backs : List Back)
      → HoldsPorts memory (begun site input).plain.interface → Goes (walk memory loads backs) (core_in first).plain
      × (((core_in first).plain.site ≡ site) × ((core_in first).plain.status ≡ Running))
  begins_there memory loads backs ports =
      let w : Walk = walk memory loads backs in
      let P : Core → Type 0 = λ (c : Core). Goes w c.plain × ((c.plain.site ≡ site) × (c.plain.status ≡ Running)) in
      holds_first (λ c ops. P c) (of_task P (lies_of_task n core (begun site input) values w))
      (goes_first memory loads backs ports, (refl, refl))

  pub stands_first : (memory : Memory) (loads : List ℕ) (backs : List Back)
      → HoldsPorts memory (begun site input).plain.interface → IsSlotted site
      → Stands n core (begun site input) values (walk memory loads backs) first
  stands_first memory loads backs ports slots = record {
    at = record {
      slots = subst IsSlotted (sym passed_first.site_is) slots;
      about = by passed_first.comes;
      passes = passed_first.passes;
    };
    site_is = there.1.0;
    goes = there.0;
  }
    where
      passed_first : IsPassed n core site input values (first_event site ∷ []) first
      passed_first = all_passed n core site input values 0 slots

      there : Goes (walk memory loads backs) (core_in first).plain × (((core_in first).plain.site ≡ site)
          × ((core_in first).plain.status ≡ Running))
      there = begins_there memory loads backs ports

      not_ended : has_ended (core_in first).plain ≡ false
      not_ended = waits_on (core_in first).plain (ap is_due_flow (sym there.0.is_as.flow))

      by : ComesTo first → IsAboutTo first
      by (about_to h) = h
      by (ended status h free) = absurd (true≢false (sym h ∙ not_ended))
      by (trapped fault h) = absurd (let bad : Trapped fault first.cycle ≡ Running = sym h ∙ there.1.1 in cc)

  -- no bundle was done before the first moment
  none_done : first.bundles ≡ []
  none_done =
      let m0 : Moment = interfaced n core (before n core (begun site input) values 0) in
      all_moved_bundles n core (freed n core m0) ∙ waited_bundles n core ((core_in m0).plain.free - m0.cycle) m0

  -- ---- the run by bundles, told from its first moment

  onwards_then : (count : ℕ) (m : Moment) → onwards n core count (onward n core m)
      ≡ onward n core (onwards n core count m)
  onwards_then zero m = refl
  onwards_then (suc count) m = onwards_then count (onward n core m)

  pub after_is : (count : ℕ) → after_bundles n core (begun site input) values count ≡ onwards n core count first
  after_is zero = refl
  after_is (suc count) = ap (onward n core) (after_is count) ∙ sym (onwards_then count first)

  events_then : (count : ℕ) (m : Moment) → events_from n core (suc count) m ≡ events_from n core count m
      ++ events_onward n core (onwards n core count m)
  events_then zero m = append-nil (events_onward n core m)
  events_then (suc count) m = ap (λ l. events_onward n core m ++ l) (events_then count (onward n core m))
      ∙ sym (append_assoc (events_onward n core m) (events_from n core count (onward n core m))
      (events_onward n core (onwards n core count (onward n core m))))

  pub past_is : (count : ℕ) → past n core (begun site input) values count ≡ first_event site
      ∷ events_from n core count first
  past_is zero = refl
  past_is (suc count) =
      (λ i. past_is count i ++ events_onward n core (after_is count i))
      ∙ ap (λ l. first_event site ∷ l) (sym (events_then count first))

  -- ---- all of it

  -- after the bundles of a trail, the values of whose loads are those that the core's gave, the task has ended where
  -- the walk has, and these are its events
  pub record RunsAs (steps : List Step) (ds : List (Option Goal)) (m : Run) (e : Walk) : Type 0 where
    pub ended : Ended n core e (after_bundles n core (begun site input) values (bundles_in steps))
    pub events : past n core (begun site input) values (bundles_in steps) ≡ first_event site
        ∷ run_events site.image by_stack steps ds m
    pub done : AreDone site.image steps (after_bundles n core (begun site input) values (bundles_in steps)).bundles

  pub runs_as : (steps : List Step) (ds : List (Option Goal)) (memory : Memory) (backs : List Back) (e : Walk)
      (offset : ℕ) → HoldsPorts memory (begun site input).plain.interface → IsSlotted site → StartsAfter site.image
      → Does site.image by_stack steps ds (walk memory (loads_from n core (bundles_in steps) first) backs) e
      → AreSound site by_stack steps (at_begin memory (loads_from n core (bundles_in steps) first) backs)
      → due e.flow ≡ Some (goal.Return 0 offset)
      → RunsAs steps ds (at_begin memory (loads_from n core (bundles_in steps) first) backs) e
  runs_as steps ds memory backs e offset ports slots starts h sound last =
      let loads : List ℕ = loads_from n core (bundles_in steps) first in
      let w : Walk = walk memory loads backs in
      let c : Comes n core (begun site input) values starts steps ds w e first =
      along n core (begun site input) values starts steps ds w e first offset
      (stands_first memory loads backs ports slots) tt h sound refl last in
      record {
        ended = subst (Ended n core e) (sym (after_is (bundles_in steps))) c.ended;
        events = past_is (bundles_in steps) ∙ ap (λ l. first_event site ∷ l) c.events;
        done = subst (AreDone site.image steps) (sym (ap (λ (z : Moment). z.bundles) (after_is (bundles_in steps))
            ∙ c.bundles_are ∙ ap (λ l. l ++ c.bundles) none_done)) c.done;
      }
