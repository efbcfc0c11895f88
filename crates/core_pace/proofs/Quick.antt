-- From a bundle that moves nothing to the next moment.
use Rattle.std.proofs.Common.{◌≡◌, ℕ, suc, ◌-◌, Bool, true, false, refl, ap, ◌∙◌, arith}
use Rattle.patmos_model.specs.Bursts.{slots_of}
use Rattle.patmos_model.specs.State.{Core, is_running}
use Rattle.core_pace.specs.Moment.{Moment, core_in, landed}
use Rattle.core_pace.specs.Next.{is_due_flow, bundled, landing, waited, next_cycle, moved, freed, all_moved, next}
use Rattle.core_pace.proofs.OwnActs.{landed_running, landed_stopped, flow_stays}
use Rattle.core_pace.proofs.Waits.{waited_same}

-- a flow that is not due leaves the core as it is
landed_same : (c : Core) (u : ℕ) → is_due_flow c.plain.flow ≡ false → landed u c ≡ c
landed_same c u not_due = by (is_running c.plain) refl
  where
    by : (b : Bool) → is_running c.plain ≡ b → landed u c ≡ c
    by true runs = landed_running c u runs ∙ flow_stays c u not_due
    by false still = landed_stopped c u still

module _ (n core : ℕ) where
  -- with nothing to move, a core only waits for the cycle from which on it goes on
  pub nothing_moved : (m : Moment) → (core_in m).plain.transfer.words ≡ 0 → all_moved n core m ≡ freed n core m
  nothing_moved m none =
      let no_slots : slots_of (core_in m).plain.transfer.words ≡ 0 = omega (arith, none) in
      ap (λ k. freed n core (moved n core k m)) no_slots

  freed_later : (m : Moment) → (core_in m).plain.free ≡ suc m.cycle → freed n core m ≡ next_cycle n core m
  freed_later m free =
      let one : (core_in m).plain.free - m.cycle ≡ 1 = omega (arith, free) in ap (λ d. waited n core d m) one

  pub freed_now : (m : Moment) → (core_in m).plain.free ≡ m.cycle → freed n core m ≡ m
  freed_now m free =
      let none : (core_in m).plain.free - m.cycle ≡ 0 = omega (arith, free) in ap (λ d. waited n core d m) none

  pub quick_next : (m : Moment) → (core_in (bundled n core m)).plain.transfer.words ≡ 0
      → (core_in (bundled n core m)).plain.free ≡ suc m.cycle
      → is_due_flow (core_in (bundled n core m)).plain.flow ≡ false → next n core m
      ≡ next_cycle n core (bundled n core m)
  quick_next m none free not_due =
      let b : Moment = bundled n core m in
      let after : Moment = next_cycle n core b in
      let same = waited_same n core 1 b in
      let words : (core_in after).plain.transfer.words ≡ 0 = ap (λ (c : Core). c.plain.transfer.words) same ∙ none in
      let here : (core_in after).plain.free ≡ after.cycle = ap (λ (c : Core). c.plain.free) same ∙ free in
      let still : is_due_flow (core_in after).plain.flow ≡ false =
      ap (λ (c : Core). is_due_flow c.plain.flow) same ∙ not_due in
      let stays : landing after ≡ after =
      ap (λ c. record after { told = record after.told { run = record after.told.run { core = c } } })
      (landed_same (core_in after) after.cycle still) in
      ap (λ z. all_moved n core (landing z)) (nothing_moved b none ∙ freed_later b free)
      ∙ ap (all_moved n core) stays
      ∙ nothing_moved after words
      ∙ freed_now after here
