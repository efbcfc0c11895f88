-- The transactions and the end of a task, at every limit from its bound on.
use Rattle.std.proofs.Common.{◌≡◌, ℕ, ◌+◌, ◌-◌, ◌<◌, ◌≤◌, List, [], ◌∷◌, inl, inr, refl, sym, ap, ◌∙◌, subst, arith}
use Rattle.std.proofs.lemmas.Bool.{cases_lt}
use Rattle.slot_arbiter.specs.declared.place.Place.{Place}
use Rattle.shared_order.specs.Apart.{Alone, apart}
use Rattle.patmos_model.specs.Apart.{site_of, apart_at}
use Rattle.patmos_model.specs.Begin.{begun}
use Rattle.patmos_model.specs.Cycle.{turn}
use Rattle.patmos_model.specs.Site.{Site}
use Rattle.patmos_model.specs.State.{Core}
use Rattle.core_pace.specs.Bound.{most_in_slot}
use Rattle.core_pace.specs.Growth.{below, IsSameTask}
use Rattle.core_pace.specs.Moment.{Moment, core_in}
use Rattle.core_pace.specs.Pace.{Pace, pace_of, clock}
use Rattle.core_pace.specs.Run.{first_event, starting, after_bundles}
use Rattle.core_pace.specs.Spans.{IsSlotted}
use Rattle.core_pace.specs.Times.{times}
use Rattle.core_pace.proofs.Bundlewise.{all_passed, cut_ended, cut_ended_there}
use Rattle.core_pace.proofs.Growing.{accesses_cut, run_before}
use Rattle.sp_shape.specs.Parts.{PlainShape}
use Rattle.sp_shape.specs.Trail.{trail}
use Rattle.cycle_bound.specs.Bound.{shape_bound}
use Rattle.tc_link.specs.Backs.{back}
use Rattle.tc_link.specs.Dues.{dues_of}
use Rattle.tc_link.specs.Placed.{linked}
use Rattle.code_core.specs.Followed.{IsFollowed}
use Rattle.code_core.specs.Fixed.{fixed_events, IsLinkable, Behaves}
use Rattle.code_times.specs.Times.{times_at}
use Rattle.code_core.specs.Words.{AreGiven}
use Rattle.code_core.specs.Sound.{bundles_in}
use Rattle.code_core.proofs.Shapes.{ends, same_past}
use Rattle.core_pace.proofs.Hanging.{same_cycle}
use Rattle.code_times.proofs.Ending.{ends_within}

module _ (place : Place) (s : PlainShape) (addresses : List ℕ) (link : IsLinkable s)
    (behaves : Behaves s place addresses) (slots : IsSlotted (site_of place (linked s)))
    (among : place.core < place.cores) where
  -- from its end on the task stands as it ended
  pub stands_from : (input values : List ℕ) → AreGiven input values → (limit : ℕ)
      → (after_bundles place.cores place.core (begun (site_of place (linked s)) input) values
      (bundles_in (trail s))).cycle ≤ limit
      → IsSameTask (core_in (after_bundles place.cores place.core (begun (site_of place (linked s)) input) values
      (bundles_in (trail s)))) (apart_at place (linked s) input values limit).core
  stands_from input values given limit enough =
      let site : Site = site_of place (linked s) in
      let count : ℕ = bundles_in (trail s) in
      let m : Moment = after_bundles place.cores place.core (begun site input) values count in
      let e : IsFollowed place s addresses input values =
      ends place s addresses link behaves slots among input values given in
      elim (cases_lt m.cycle limit) [
        | inl late ↦ cut_ended place.cores place.core site input values count limit slots e.still late
        | inr there ↦
            let at : m.cycle ≡ limit = omega (arith, enough, there) in
            subst (λ t. IsSameTask (core_in m) (apart turn place.cores place.core (begun site input) values t).core) at
            (cut_ended_there place.cores place.core site input values count slots e.status e.still)
      ]

  -- so at each limit from the bound on
  pub stands_so : (input values : List ℕ) → AreGiven input values → (limit : ℕ)
      → place.start + shape_bound (most_in_slot (site_of place (linked s))) s ≤ limit
      → IsSameTask (core_in (after_bundles place.cores place.core (begun (site_of place (linked s)) input) values
      (bundles_in (trail s)))) (apart_at place (linked s) input values limit).core
  stands_so input values given limit enough = stands_from input values given limit
      (omega (arith, enough, ends_within place s addresses link behaves slots among input values given))

  -- it ends in the same cycle, which lies within the bound
  pub ended_cycle : (input values : List ℕ) → AreGiven input values
      → (after_bundles place.cores place.core (begun (site_of place (linked s)) input) values
      (bundles_in (trail s))).cycle
      ≡ (times place (linked s) (place.start + shape_bound (most_in_slot (site_of place (linked s))) s)).end
  ended_cycle input values given =
      let site : Site = site_of place (linked s) in
      let count : ℕ = bundles_in (trail s) in
      same_cycle place.cores place.core site input values [] [] count slots
      (same_past place s addresses link behaves slots among input values [] [] given (tt, tt))
      ∙ sym (all_passed place.cores place.core site [] [] count slots).free
      ∙ sym (ap (λ (c : Core). c.plain.free) (stands_so [] [] (tt, tt) (place.start + shape_bound (most_in_slot site) s)
      (omega arith)))

  paces_so : (input values : List ℕ) → AreGiven input values → (limit : ℕ)
      → place.start + shape_bound (most_in_slot (site_of place (linked s))) s ≤ limit
      → pace_of (apart_at place (linked s) input values limit).core
      ≡ clock (site_of place (linked s)) (first_event (site_of place (linked s)) ∷ fixed_events (linked s) (trail s)
      (dues_of s (back 0 0)) addresses) (starting (site_of place (linked s)))
  paces_so input values given limit enough =
      ap pace_of (stands_so input values given limit enough)
      ∙ (all_passed place.cores place.core (site_of place (linked s)) input values (bundles_in (trail s)) slots).pace
      ∙ ap (λ es. clock (site_of place (linked s)) es (starting (site_of place (linked s)))) (ends place s addresses
      link behaves slots among input values given).events

  pub exact_accesses : (input values : List ℕ) → AreGiven input values → (cycles limit : ℕ)
      → place.start + shape_bound (most_in_slot (site_of place (linked s))) s ≤ limit → cycles ≤ limit
      → (apart_at place (linked s) input values cycles).core.seen.accesses
      ≡ below cycles (times place (linked s) limit).accesses
  exact_accesses input values given cycles limit enough within =
      let x : Core = begun (site_of place (linked s)) input in
      let far : cycles + (limit - cycles) ≡ limit = omega (arith, within) in
      sym (accesses_cut place.cores place.core x values refl cycles (limit - cycles)
      ∙ ap (λ (a : Alone Core). a.core.seen.accesses) (run_before place.cores place.core x values cycles))
      ∙ ap (λ (a : Alone Core). below cycles a.core.seen.accesses) (run_before place.cores place.core x values
      (cycles + (limit - cycles)))
      ∙ ap (λ t. below cycles (apart turn place.cores place.core x values t).core.seen.accesses) far
      ∙ ap (λ (p : Pace). below cycles p.accesses) (paces_so input values given limit enough
      ∙ sym (paces_so [] [] (tt, tt) limit enough))

  -- the times after the bound's cycles are those after more
  times_so : (limit : ℕ) → place.start + shape_bound (most_in_slot (site_of place (linked s))) s ≤ limit
      → pace_of (apart_at place (linked s) [] [] limit).core ≡ pace_of (apart_at place (linked s) [] []
      (place.start + shape_bound (most_in_slot (site_of place (linked s))) s)).core
  times_so limit enough = paces_so [] [] (tt, tt) limit enough
      ∙ sym (paces_so [] [] (tt, tt) (place.start + shape_bound (most_in_slot (site_of place (linked s))) s)
      (omega arith))

  -- so at each number of cycles
  pub accesses_at : (input values : List ℕ) → AreGiven input values → (cycles : ℕ)
      → (apart_at place (linked s) input values cycles).core.seen.accesses
      ≡ below cycles (times place (linked s)
      (place.start + shape_bound (most_in_slot (site_of place (linked s))) s)).accesses
  accesses_at input values given cycles =
      elim (cases_lt cycles (place.start + shape_bound (most_in_slot (site_of place (linked s))) s)) [
        | inl early ↦ exact_accesses input values given cycles
            (place.start + shape_bound (most_in_slot (site_of place (linked s))) s) (omega arith) (omega (arith, early))
        | inr late ↦ exact_accesses input values given cycles cycles late (omega arith)
            ∙ ap (λ (p : Pace). below cycles p.accesses) (times_so cycles late)
      ]

  pub end_within : (times place (linked s) (place.start + shape_bound (most_in_slot (site_of place (linked s))) s)).end
      ≤ place.start + shape_bound (most_in_slot (site_of place (linked s))) s
  end_within =
      omega (arith, ended_cycle [] [] (tt, tt), ends_within place s addresses link behaves slots among [] [] (tt, tt))

  -- from the end on the task stands at its end
  pub end_from : (input values : List ℕ) → AreGiven input values → (limit : ℕ) → (times_at place s).end ≤ limit
      → (apart_at place (linked s) input values limit).core.plain.free ≡ (times_at place s).end
  end_from input values given limit enough =
      let site : Site = site_of place (linked s) in
      let end : (after_bundles place.cores place.core (begun site input) values (bundles_in (trail s))).cycle
      ≡ (times_at place s).end = ended_cycle input values given in
      ap (λ (c : Core). c.plain.free) (stands_from input values given limit (omega (arith, end, enough)))
      ∙ (all_passed place.cores place.core site input values (bundles_in (trail s)) slots).free ∙ end
