-- The run by bundles.
use Rattle.std.proofs.Common.{◌≡◌, ℕ, zero, suc, ◌+◌, ◌-◌, ◌<◌, ◌≤◌, not, Bool, true, false, List, [], ◌∷◌, ◌++◌, None, refl, sym, ap, ◌∙◌, subst, arith, inl, inr}
use Rattle.shared_order.specs.Apart.{Alone, apart}
use Rattle.patmos_model.specs.declared.state.Status.{Status}
use Rattle.patmos_model.specs.declared.state.Status.TheVariants.{Idle, Running, Trapped}
use Rattle.patmos_model.specs.Site.{Site}
use Rattle.patmos_model.specs.Begin.{begun}
use Rattle.patmos_model.specs.State.{Plain, Core, is_running, has_ended}
use Rattle.patmos_model.specs.Cycle.{with_interface, turn}
use Rattle.core_pace.specs.Spans.{IsSlotted}
use Rattle.core_pace.specs.Moment.{Moment, core_in, interfaced, before, Passes}
use Rattle.core_pace.specs.Next.{IsAboutTo, IsAtBundle, IsDue, ComesTo, about_to, ended, trapped, is_due_flow, freed, all_moved, next}
use Rattle.core_pace.specs.Pace.{Pace, Event, pace_of, asked_by, carried, clock, events_in}
use Rattle.core_pace.specs.Run.{done_below, starting, first_event, first_moment, onward, after_bundles, events_onward, past}
use Rattle.core_pace.specs.Growth.{below, IsSameTask}
use Rattle.core_pace.proofs.OwnActs.{flowless_runs, running_status}
use Rattle.core_pace.proofs.Growing.{run_before, accesses_at, bundles_at, ends_at}
use Rattle.core_pace.proofs.Waits.{Enters, interface_apart, until_cycle, waits_free}
use Rattle.core_pace.proofs.Moves.{Becomes, IsAllMoved, moves_all, waited_becomes, carried_line}
use Rattle.core_pace.proofs.Onward.{GoesOnward, goes_onward, clock-append, comes_to, moved_halted}

-- a core that comes to something and runs is about to do a bundle
pub running_about : (m : Moment) → ComesTo m → is_running (core_in m).plain ≡ true → IsAboutTo m
running_about m (about_to about) runs = about
running_about m (ended status over free) runs =
    let y : Plain = (core_in m).plain in
    let still : is_running y ≡ false =
    ap (λ (s : Status). elim s as (λ _. Bool) [ Idle ↦ false | Running ↦ not (has_ended y) | Trapped t at ↦ false ])
    status ∙ ap not over in
    absurd (let bad : true ≡ false = sym runs ∙ still in cc)
running_about m (trapped fault status) runs =
    let y : Plain = (core_in m).plain in
    let still : is_running y ≡ false =
    ap (λ (s : Status). elim s as (λ _. Bool) [ Idle ↦ false | Running ↦ not (has_ended y) | Trapped t at ↦ false ])
    status in
    absurd (let bad : true ≡ false = sym runs ∙ still in cc)

module _ (n core : ℕ) (site : Site) (input values : List ℕ) where
  -- what holds of the moment after each number of bundles
  pub record IsPassed (events : List Event) (m : Moment) : Type 0 where
    pub passes : Passes n core (begun site input) values m
    pub comes : ComesTo m
    pub free : (core_in m).plain.free ≡ m.cycle
    pub ended_before : (core_in m).plain.status ≡ Running → is_running (core_in m).plain ≡ false
        → Enters n core (begun site input) values m
    pub site_is : (core_in m).plain.site ≡ site
    pub pace : pace_of (core_in m) ≡ clock site events (starting site)

  first_passed : IsSlotted site → IsPassed (first_event site ∷ []) (first_moment n core (begun site input) values)
  first_passed slots =
      let x : Core = begun site input in
      let m0 : Moment = interfaced n core (before n core x values 0) in
      let m1 : Moment = freed n core m0 in
      let same0 : core_in m0 ≡ _ = interface_apart n core (before n core x values 0) in
      let wait : Becomes m0 (pace_of (core_in m0)) m1 = waited_becomes n core ((core_in m0).plain.free - m0.cycle) m0 in
      let site1 : (core_in m1).plain.site ≡ site = wait.site_is ∙ ap (λ (c : Core). c.plain.site) same0 in
      let status1 : (core_in m1).plain.status ≡ Running = wait.status_is ∙ ap (λ (c : Core). c.plain.status) same0 in
      let flow1 : (core_in m1).plain.flow ≡ None = wait.flow_is ∙ ap (λ (c : Core). c.plain.flow) same0 in
      let pace0 : pace_of (core_in m0) ≡ pace_of x = ap pace_of same0 in
      let pace1 : pace_of (core_in m1) ≡ pace_of x = wait.pace ∙ pace0 in
      let free0 : (core_in m0).plain.free ≡ site.start = ap (λ (p : Pace). p.free) pace0 in
      let free1 : (core_in m1).plain.free ≡ site.start = ap (λ (p : Pace). p.free) pace1 in
      let cycle1 : m1.cycle ≡ (core_in m0).plain.free = until_cycle n core (core_in m0).plain.free m0 (omega arith) in
      let due : IsDue m1 = record {
        slots = subst IsSlotted (sym site1) slots;
        near = omega (arith, cycle1, free0, free1);
        moving = λ some. (status1, free1 ∙ sym (cycle1 ∙ free0));
      } in
      let all : IsAllMoved n core x values m1 = moves_all n core x values m1 due (waits_free n core x values m0 refl) in
      let m2 : Moment = all_moved n core m1 in
      let pace2 : pace_of (core_in m2) ≡ clock site (first_event site ∷ []) (starting site) =
      all.left.pace ∙ (λ i. carried (site1 i) (pace1 i)) in
      record {
        passes = all.passes;
        comes = comes_to n core m2 (sym all.cycle) all.words (ap (λ (p : Pace). p.line) pace2
            ∙ carried_line site (asked_by (first_event site) (starting site)) (inr refl))
            (moved_halted n core x values m1 all (inl status1))
            (λ runs. ap is_due_flow (all.left.flow_is ∙ flow1));
        free = sym all.cycle;
        ended_before = λ runs still.
            absurd (let bad : true ≡ false = sym (flowless_runs (core_in m2).plain runs (all.left.flow_is ∙ flow1))
            ∙ still in cc);
        site_is = all.left.site_is ∙ site1;
        pace = pace2;
      }

  onward_passed : (events : List Event) (m : Moment) → IsSlotted site → IsPassed events m
      → IsPassed (events ++ events_onward n core m) (onward n core m)
  onward_passed events m slots h = by (is_running (core_in m).plain) refl
    where
      by : (b : Bool) → is_running (core_in m).plain ≡ b
          → IsPassed (events ++ elim b as (λ _. List Event) [ true ↦ events_in n core m | false ↦ [] ])
          (elim b as (λ _. Moment) [ true ↦ next n core m | false ↦ m ])
      by true runs =
          let at : IsAtBundle n core (begun site input) values m =
          record {
            slots = subst IsSlotted (sym h.site_is) slots;
            about = running_about m h.comes runs;
            passes = h.passes;
          } in
          let on : GoesOnward n core (begun site input) values m = goes_onward n core (begun site input) values m at in
          record {
            passes = on.passes;
            comes = on.comes;
            free = on.free;
            ended_before = on.ended_before;
            site_is = on.site_is ∙ h.site_is;
            pace = on.pace ∙ (λ i. clock (h.site_is i) (events_in n core m) (h.pace i))
                ∙ sym (clock-append site events (events_in n core m) (starting site));
          }
      by false still = record {
        passes = h.passes;
        comes = h.comes;
        free = h.free;
        ended_before = h.ended_before;
        site_is = h.site_is;
        pace = h.pace ∙ sym (clock-append site events [] (starting site));
      }

  pub all_passed : (count : ℕ) → IsSlotted site → IsPassed (past n core (begun site input) values count) (after_bundles
      n core (begun site input) values count)
  all_passed zero slots = first_passed slots
  all_passed (suc count) slots =
      onward_passed (past n core (begun site input) values count) (after_bundles n core (begun site input) values count)
      slots (all_passed count slots)

  -- a moment in which the core still runs comes later than the one before
  onward_later : (events : List Event) (m : Moment) → IsSlotted site → IsPassed events m
      → is_running (core_in (onward n core m)).plain ≡ true
      → (is_running (core_in m).plain ≡ true) × (m.cycle < (onward n core m).cycle)
  onward_later events m slots h runs = by (is_running (core_in m).plain) refl runs
    where
      by : (b : Bool) → is_running (core_in m).plain ≡ b
          → is_running (core_in (elim b as (λ _. Moment) [ true ↦ next n core m | false ↦ m ])).plain ≡ true
          → (is_running (core_in m).plain ≡ true)
          × (m.cycle < (elim b as (λ _. Moment) [ true ↦ next n core m | false ↦ m ]).cycle)
      by true is on =
          let at : IsAtBundle n core (begun site input) values m =
          record {
            slots = subst IsSlotted (sym h.site_is) slots;
            about = running_about m h.comes is;
            passes = h.passes;
          } in (
            is,
            (goes_onward n core (begun site input) values m at).later
                (running_status (core_in (next n core m)).plain on),
          )
      by false is on = absurd (let bad : true ≡ false = sym on ∙ is in cc)

  pub runs_later : (count : ℕ) → IsSlotted site
      → is_running (core_in (after_bundles n core (begun site input) values (suc count))).plain ≡ true
      → (after_bundles n core (begun site input) values count).cycle < (after_bundles n core (begun site input) values
      (suc count)).cycle
  runs_later count slots runs =
      (onward_later (past n core (begun site input) values count) (after_bundles n core (begun site input) values count)
      slots (all_passed count slots) runs).1

  -- ---- the run cut at a cycle

  pub cut_accesses : (count cycles : ℕ) → IsSlotted site
      → cycles ≤ (after_bundles n core (begun site input) values count).cycle
      → (apart turn n core (begun site input) values cycles).core.seen.accesses
      ≡ below cycles (core_in (after_bundles n core (begun site input) values count)).seen.accesses
  cut_accesses count cycles slots early =
      sym (accesses_at n core (begun site input) values refl (after_bundles n core (begun site input) values count)
      cycles early (all_passed count slots).passes
      ∙ ap (λ (a : Alone Core). a.core.seen.accesses) (run_before n core (begun site input) values cycles))

  pub cut_bundles : (count cycles : ℕ) → IsSlotted site
      → cycles ≤ (after_bundles n core (begun site input) values count).cycle
      → (before n core (begun site input) values cycles).bundles
      ≡ done_below cycles (after_bundles n core (begun site input) values count).bundles
  cut_bundles count cycles slots early =
      sym (bundles_at n core (begun site input) values (after_bundles n core (begun site input) values count) cycles
      early (all_passed count slots).passes)

  pub cut_ended : (count cycles : ℕ) → IsSlotted site
      → is_running (core_in (after_bundles n core (begun site input) values count)).plain ≡ false
      → (after_bundles n core (begun site input) values count).cycle < cycles
      → IsSameTask (core_in (after_bundles n core (begun site input) values count)) (apart turn n core
      (begun site input) values cycles).core
  cut_ended count cycles slots still late =
      let m : Moment = after_bundles n core (begun site input) values count in
      let far : suc m.cycle + (cycles - suc m.cycle) ≡ cycles = omega (arith, late) in
      let there : core_in (before n core (begun site input) values cycles)
      ≡ (apart turn n core (begun site input) values cycles).core =
      ap (λ (a : Alone Core). a.core) (run_before n core (begun site input) values cycles) in
      subst (IsSameTask (core_in m)) there
      (subst (λ u. IsSameTask (core_in m) (core_in (before n core (begun site input) values u))) far
      (ends_at n core (begun site input) values m (cycles - suc m.cycle) still (all_passed count slots).passes))

  -- the cycle of a moment is the clock's
  pub clock_cycle : (count : ℕ) → IsSlotted site → (after_bundles n core (begun site input) values count).cycle
      ≡ (clock site (past n core (begun site input) values count) (starting site)).free
  clock_cycle count slots =
      let h = all_passed count slots in
      sym h.free ∙ ap (λ (p : Pace). p.free) h.pace

  -- a task that has ended has done so before the cycle of that moment begins
  pub cut_ended_there : (count : ℕ) → IsSlotted site
      → (core_in (after_bundles n core (begun site input) values count)).plain.status ≡ Running
      → is_running (core_in (after_bundles n core (begun site input) values count)).plain ≡ false
      → IsSameTask (core_in (after_bundles n core (begun site input) values count)) (apart turn n core
      (begun site input) values (after_bundles n core (begun site input) values count).cycle).core
  cut_ended_there count slots runs still =
      let m : Moment = after_bundles n core (begun site input) values count in
      let z : Moment = before n core (begun site input) values m.cycle in
      let enters_it : interfaced n core z ≡ m = (all_passed count slots).ended_before runs still in
      let there : core_in z ≡ (apart turn n core (begun site input) values m.cycle).core =
      ap (λ (a : Alone Core). a.core) (run_before n core (begun site input) values m.cycle) in
      let back : IsSameTask (core_in (interfaced n core z)) (core_in z) =
      sym (ap (λ (c : Core). with_interface c (core_in z).plain.interface) (interface_apart n core z)) in
      subst (IsSameTask (core_in m)) there (subst (λ (y : Moment). IsSameTask (core_in y) (core_in z)) enters_it back)
