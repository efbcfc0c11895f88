-- Times depend on events alone.
use Rattle.std.proofs.Common.{◌≡◌, ℕ, ◌+◌, ◌-◌, ◌<◌, ◌≤◌, List, false, refl, sym, ap, ◌∙◌, arith}
use Rattle.shared_order.specs.Apart.{Alone, apart}
use Rattle.patmos_model.specs.Site.{Site}
use Rattle.patmos_model.specs.Begin.{begun}
use Rattle.patmos_model.specs.State.{Core, is_running}
use Rattle.patmos_model.specs.Cycle.{turn}
use Rattle.core_pace.specs.Spans.{IsSlotted}
use Rattle.core_pace.specs.Moment.{core_in}
use Rattle.core_pace.specs.Pace.{Pace, pace_of, clock}
use Rattle.core_pace.specs.Growth.{below}
use Rattle.core_pace.specs.Run.{starting, after_bundles, past}
use Rattle.core_pace.proofs.Bundlewise.{all_passed, clock_cycle, cut_accesses, cut_ended}
use Rattle.core_pace.proofs.Growing.{accesses_cut, run_before}

pub same_cycle : (n core : ℕ) (site : Site) (input values input' values' : List ℕ) (count : ℕ) → IsSlotted site
    → past n core (begun site input) values count ≡ past n core (begun site input') values' count
    → (after_bundles n core (begun site input) values count).cycle
    ≡ (after_bundles n core (begun site input') values' count).cycle
same_cycle n core site input values input' values' count slots same =
    clock_cycle n core site input values count slots
    ∙ ap (λ es. (clock site es (starting site)).free) same
    ∙ sym (clock_cycle n core site input' values' count slots)

pub same_accesses : (n core : ℕ) (site : Site) (input values input' values' : List ℕ) (count cycles : ℕ)
    → IsSlotted site
    → past n core (begun site input) values count ≡ past n core (begun site input') values' count
    → cycles ≤ (after_bundles n core (begun site input) values count).cycle
    → (apart turn n core (begun site input) values cycles).core.seen.accesses
    ≡ (apart turn n core (begun site input') values' cycles).core.seen.accesses
same_accesses n core site input values input' values' count cycles slots same early =
    let there : cycles ≤ (after_bundles n core (begun site input') values' count).cycle =
    omega (arith, early, same_cycle n core site input values input' values' count slots same) in
    let paces : pace_of (core_in (after_bundles n core (begun site input) values count))
    ≡ pace_of (core_in (after_bundles n core (begun site input') values' count)) =
    (all_passed n core site input values count slots).pace
    ∙ ap (λ es. clock site es (starting site)) same
    ∙ sym (all_passed n core site input' values' count slots).pace in
    cut_accesses n core site input values count cycles slots early
    ∙ ap (λ (p : Pace). below cycles p.accesses) paces
    ∙ sym (cut_accesses n core site input' values' count cycles slots there)

-- ---- tasks that have ended

-- the pace of the run after a moment in which the core does not run
pace_ended : (n core : ℕ) (site : Site) (input values : List ℕ) (count cycles : ℕ) → IsSlotted site
    → is_running (core_in (after_bundles n core (begun site input) values count)).plain ≡ false
    → (after_bundles n core (begun site input) values count).cycle < cycles
    → pace_of (apart turn n core (begun site input) values cycles).core
    ≡ clock site (past n core (begun site input) values count) (starting site)
pace_ended n core site input values count cycles slots still late =
    ap pace_of (cut_ended n core site input values count cycles slots still late)
    ∙ (all_passed n core site input values count slots).pace

module _ (n core : ℕ) (site : Site) (input values input' values' : List ℕ) (count : ℕ) where
  paces_ended : (cycles cycles' : ℕ) → IsSlotted site → past n core (begun site input) values count
      ≡ past n core (begun site input') values' count
      → is_running (core_in (after_bundles n core (begun site input) values count)).plain ≡ false
      → is_running (core_in (after_bundles n core (begun site input') values' count)).plain ≡ false
      → (after_bundles n core (begun site input) values count).cycle < cycles
      → (after_bundles n core (begun site input') values' count).cycle < cycles'
      → pace_of (apart turn n core (begun site input) values cycles).core
      ≡ pace_of (apart turn n core (begun site input') values' cycles').core
  paces_ended cycles cycles' slots same still still' late late' =
      pace_ended n core site input values count cycles slots still late
      ∙ ap (λ es. clock site es (starting site)) same
      ∙ sym (pace_ended n core site input' values' count cycles' slots still' late')

  pub ended_free : (limit : ℕ) → IsSlotted site → past n core (begun site input) values count
      ≡ past n core (begun site input') values' count
      → is_running (core_in (after_bundles n core (begun site input) values count)).plain ≡ false
      → is_running (core_in (after_bundles n core (begun site input') values' count)).plain ≡ false
      → (after_bundles n core (begun site input') values' count).cycle < limit
      → (apart turn n core (begun site input) values limit).core.plain.free
      ≡ (apart turn n core (begun site input') values' limit).core.plain.free
  ended_free limit slots same still still' late' =
      let late : (after_bundles n core (begun site input) values count).cycle < limit =
      omega (arith, late', same_cycle n core site input values input' values' count slots same) in
      ap (λ (p : Pace). p.free) (paces_ended limit limit slots same still still' late late')

  pub ended_accesses : (cycles limit : ℕ) → IsSlotted site → past n core (begun site input) values count
      ≡ past n core (begun site input') values' count
      → is_running (core_in (after_bundles n core (begun site input) values count)).plain ≡ false
      → is_running (core_in (after_bundles n core (begun site input') values' count)).plain ≡ false
      → (after_bundles n core (begun site input') values' count).cycle < limit → cycles ≤ limit
      → (apart turn n core (begun site input) values cycles).core.seen.accesses
      ≡ below cycles (apart turn n core (begun site input') values' limit).core.seen.accesses
  ended_accesses cycles limit slots same still still' late' within =
      let late : (after_bundles n core (begun site input) values count).cycle < limit =
      omega (arith, late', same_cycle n core site input values input' values' count slots same) in
      let far : cycles + (limit - cycles) ≡ limit = omega (arith, within) in
      sym (accesses_cut n core (begun site input) values refl cycles (limit - cycles)
      ∙ ap (λ (a : Alone Core). a.core.seen.accesses) (run_before n core (begun site input) values cycles))
      ∙ ap (λ (a : Alone Core). below cycles a.core.seen.accesses) (run_before n core (begun site input) values
      (cycles + (limit - cycles)))
      ∙ ap (λ u. below cycles (apart turn n core (begun site input) values u).core.seen.accesses) far
      ∙ ap (λ (p : Pace). below cycles p.accesses) (paces_ended limit limit slots same still still' late late')
