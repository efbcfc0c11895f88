-- The outcome of a task that has ended.
use Rattle.std.proofs.Common.{◌≡◌, ℕ, ◌-◌, ◌≤◌, ◌&&◌, not, nat_le, Bool, true, false, List, slice_index, refl, sym, ap, ◌∙◌, subst, arith, inl, inr}
use Rattle.std.proofs.lemmas.Bool.{cases_lt, le-leb, and_from}
use Rattle.shared_order.specs.Apart.{apart}
use Rattle.patmos_model.specs.declared.state.Status.{Status}
use Rattle.patmos_model.specs.declared.state.Status.TheVariants as status
use Rattle.patmos_model.specs.declared.state.CoreState.{CoreState}
use Rattle.patmos_model.specs.declared.state.CoreState.TheVariants.{Idle, Running, Done, Trapped}
use Rattle.patmos_model.specs.Site.{Site}
use Rattle.patmos_model.specs.Begin.{begun}
use Rattle.patmos_model.specs.State.{Plain, Core, is_running, has_ended}
use Rattle.patmos_model.specs.Cycle.{turn}
use Rattle.patmos_model.specs.Outcome.{state_at}
use Rattle.core_pace.specs.Spans.{IsSlotted}
use Rattle.core_pace.specs.Moment.{Moment, core_in}
use Rattle.core_pace.specs.Growth.{IsSameTask}
use Rattle.core_pace.specs.Run.{after_bundles}
use Rattle.core_pace.proofs.Bundlewise.{all_passed, cut_ended, cut_ended_there}

-- a core with a task that does not run has ended it
over : (x : Plain) → x.status ≡ status.Running → is_running x ≡ false → has_ended x ≡ true
over x runs still = by (has_ended x)
    (sym (ap (λ (s : Status). elim s as (λ _. Bool) [
      | status.Idle ↦ false
      | status.Running ↦ not
          (has_ended x)
      | status.Trapped t at ↦ false
    ]) runs) ∙ still)
  where
    by : (b : Bool) → not b ≡ false → b ≡ true
    by true e = refl
    by false e = cc

-- and at its end or later it is done
done_at : (limit : ℕ) (x : Plain) → x.status ≡ status.Running → has_ended x ≡ true → x.free ≤ limit
    → state_at limit x ≡ Done (slice_index x.regs.general 1) (slice_index x.regs.general 2) (x.free - x.site.start)
done_at limit x runs ended within =
    ap (λ (s : Status). elim s as (λ _. CoreState) [
      | status.Idle ↦ Idle
      | status.Running ↦ elim (has_ended x && nat_le x.free limit) as (λ _. CoreState) [
        | true ↦ Done (slice_index x.regs.general 1) (slice_index x.regs.general 2) (x.free - x.site.start)
        | false ↦ Running
      ]
      | status.Trapped trap at ↦ Trapped trap at
    ]) runs
    ∙ ap (λ b. elim b as (λ _. CoreState) [
      | true ↦ Done (slice_index x.regs.general 1) (slice_index x.regs.general 2) (x.free - x.site.start)
      | false ↦ Running
    ]) (and_from (has_ended x) (nat_le x.free limit) ended (le-leb x.free limit within))

pub ended_is_done : (n core : ℕ) (site : Site) (input values : List ℕ) (count limit : ℕ) → IsSlotted site
    → (core_in (after_bundles n core (begun site input) values count)).plain.status ≡ status.Running
    → is_running (core_in (after_bundles n core (begun site input) values count)).plain ≡ false
    → (after_bundles n core (begun site input) values count).cycle ≤ limit
    → state_at limit (apart turn n core (begun site input) values limit).core.plain
    ≡ Done (slice_index (core_in (after_bundles n core (begun site input) values count)).plain.regs.general 1)
    (slice_index (core_in (after_bundles n core (begun site input) values count)).plain.regs.general 2)
    ((after_bundles n core (begun site input) values count).cycle - site.start)
ended_is_done n core site input values count limit slots runs still within =
    let m : Moment = after_bundles n core (begun site input) values count in
    let x : Plain = (core_in m).plain in
    let h = all_passed n core site input values count slots in
    let same : IsSameTask (core_in m) (apart turn n core (begun site input) values limit).core =
    elim (cases_lt m.cycle limit) [
      | inl late ↦ cut_ended n core site input values count limit slots still late
      | inr there ↦
          let at : m.cycle ≡ limit = omega (arith, within, there) in
          subst (λ u. IsSameTask (core_in m) (apart turn n core (begun site input) values u).core) at
          (cut_ended_there n core site input values count slots runs still)
    ] in
    ap (λ (c : Core). state_at limit c.plain) same
    ∙ done_at limit x runs (over x runs still) (omega (arith, h.free, within))
    ∙ (λ i. Done (slice_index x.regs.general 1) (slice_index x.regs.general 2) (h.free i - (h.site_is i).start))
