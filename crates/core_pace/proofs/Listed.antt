-- Which bundle is listed as done from a moment to the next.
use Rattle.std.proofs.Common.{◌≡◌, ℕ, zero, suc, ◌-◌, ◌&&◌, true, false, List, [], ◌∷◌, ◌++◌, Option, None, Some, is_none, refl, ap, ◌∙◌}
use Rattle.patmos_sem.specs.declared.effects.Effect.{Effect}
use Rattle.patmos_sem.specs.Bundles.{effect_of}
use Rattle.patmos_model.specs.declared.fetched.Fetched.{Fetched}
use Rattle.patmos_model.specs.declared.fetched.Fetched.TheVariants.{Outside, NoBundle, Found}
use Rattle.patmos_model.specs.declared.trap.Trap.{Trap}
use Rattle.patmos_model.specs.State.{Plain, is_free}
use Rattle.patmos_model.specs.Checks.{fault_of}
use Rattle.patmos_model.specs.Bursts.{slots_of}
use Rattle.core_pace.specs.Spans.{start_in}
use Rattle.core_pace.specs.Moment.{Done, Moment, core_in, fetched_in, passes}
use Rattle.core_pace.specs.Next.{IsAboutTo, bundled, landing, transacted, waited, until, moved_once, moved, all_moved, next}
use Rattle.core_pace.specs.Pace.{Event, event_of, bundle_event}
use Rattle.core_pace.specs.Run.{done_with}

module _ (n core : ℕ) where
  -- waiting and moving words do no bundle
  pub waited_bundles : (d : ℕ) (m : Moment) → (waited n core d m).bundles ≡ m.bundles
  waited_bundles zero m = refl
  waited_bundles (suc d) m = waited_bundles d m

  pub waited_own : (d : ℕ) (m : Moment) → (waited n core d m).told.own ≡ m.told.own
  waited_own zero m = refl
  waited_own (suc d) m = waited_own d m

  -- what waiting keeps, and a transaction, the words of a transfer keep
  pub all_moved_keeps : (P : Moment → Type 0) → ((d : ℕ) (m : Moment) → P m → P (waited n core d m))
      → ((m : Moment) → P m → P (transacted n core m)) → (m : Moment) → P m → P (all_moved n core m)
  all_moved_keeps P waits moves m h =
      let z : Moment = moved n core (slots_of (core_in m).plain.transfer.words) m in
      waits ((core_in z).plain.free - z.cycle) z (by (slots_of (core_in m).plain.transfer.words) m h)
    where
      by : (count : ℕ) (m : Moment) → P m → P (moved n core count m)
      by zero m h = h
      by (suc count) m h =
          let start : ℕ = start_in (core_in m).plain.site m.cycle in
          let u : Moment = until n core start m in
          by count (moved_once n core m) (waits (core_in m).plain.site.slot (transacted n core u)
          (moves u (waits (start - m.cycle) m h)))

  pub all_moved_bundles : (m : Moment) → (all_moved n core m).bundles ≡ m.bundles
  all_moved_bundles m = all_moved_keeps (λ z. z.bundles ≡ m.bundles) (λ d z h. waited_bundles d z ∙ h) (λ z h. h) m refl

  -- a bundle that passes has an event, and one that does not has none
  done_so : (m : Moment) (fetched : Fetched) → (elim (passes fetched (core_in m).plain) as (λ _. List Done) [
    | true ↦ record { base = (core_in m).plain.base; offset = (core_in m).plain.offset; cycle = m.cycle } ∷ []
    | false ↦ []
  ]) ≡ done_with (bundle_event fetched (core_in m).plain) m
  done_so m Outside = refl
  done_so m NoBundle = refl
  done_so m (Found b words) = by (fault_of (core_in m).plain (effect_of b (core_in m).plain.regs))
    where
      asked : Effect
      asked = effect_of b (core_in m).plain.regs

      by : (fault : Option Trap) → (elim (is_none fault) as (λ _. List Done) [
        | true ↦ record { base = (core_in m).plain.base; offset = (core_in m).plain.offset; cycle = m.cycle } ∷ []
        | false ↦ []
      ]) ≡ done_with (elim fault as (λ _. List Event) [ None ↦ event_of asked ∷ [] | Some f ↦ [] ]) m
      by None = refl
      by (Some f) = refl

  pub next_bundles : (m : Moment) → IsAboutTo m → (next n core m).bundles ≡ m.bundles
      ++ done_with (bundle_event (fetched_in (core_in m).plain) (core_in m).plain) m
  next_bundles m about =
      let x : Plain = (core_in m).plain in
      let one : List Done = record { base = x.base; offset = x.offset; cycle = m.cycle } ∷ [] in
      all_moved_bundles (landing (all_moved n core (bundled n core m)))
      ∙ all_moved_bundles (bundled n core m)
      ∙ ap (λ b. m.bundles ++ elim (b && (is_free m.cycle x && passes (fetched_in x) x)) as (λ _. List Done) [
        | true ↦
            one
        | false ↦ []
      ]) about.running
      ∙ ap (λ b. m.bundles ++ elim (b && passes (fetched_in x) x) as (λ _. List Done) [
        | true ↦ one
        | false ↦
            []
      ]) about.free
      ∙ ap (λ l. m.bundles ++ l) (done_so m (fetched_in x))
