-- At no number of cycles is a task stopped.
use Rattle.std.proofs.Common.{◌≡◌, ℕ, ◌+◌, ◌<◌, ◌&&◌, nat_le, Bool, true, false, List, slice_index, ◌-◌, refl, sym, ap, ◌∙◌, arith}
use Rattle.slot_arbiter.specs.declared.place.Place.{Place}
use Rattle.shared_order.specs.Apart.{Alone}
use Rattle.patmos_model.specs.Apart.{site_of, apart_at}
use Rattle.patmos_model.specs.Begin.{begun}
use Rattle.patmos_model.specs.Outcome.{state_at}
use Rattle.patmos_model.specs.Site.{Site}
use Rattle.patmos_model.specs.State.{Plain, Core, is_running, has_ended}
use Rattle.patmos_model.specs.declared.state.CoreState.{CoreState}
use Rattle.patmos_model.specs.declared.state.CoreState.TheVariants as outcome
use Rattle.patmos_model.specs.declared.state.Status.{Status}
use Rattle.patmos_model.specs.declared.state.Status.TheVariants.{Idle, Running, Trapped}
use Rattle.patmos_model.specs.declared.trap.Trap.{Trap}
use Rattle.core_pace.specs.Bound.{most_in_slot}
use Rattle.core_pace.specs.Growth.{IsSameTask}
use Rattle.core_pace.specs.Moment.{Moment, core_in, before}
use Rattle.core_pace.specs.Run.{after_bundles}
use Rattle.core_pace.specs.Spans.{IsSlotted}
use Rattle.core_pace.proofs.Growing.{run_before, stays_still}
use Rattle.sp_shape.specs.Parts.{PlainShape}
use Rattle.sp_shape.specs.Trail.{trail}
use Rattle.cycle_bound.specs.Bound.{shape_bound}
use Rattle.tc_link.specs.Placed.{linked}
use Rattle.code_core.specs.Followed.{IsFollowed}
use Rattle.code_core.specs.Fixed.{IsLinkable, Behaves}
use Rattle.code_core.specs.Sound.{bundles_in}
use Rattle.code_core.specs.Words.{AreGiven}
use Rattle.code_core.proofs.Shapes.{ends}
use Rattle.code_times.proofs.Exact.{stands_so}

-- a core whose state is that it was stopped was stopped
stopped_status : (limit : ℕ) (x : Plain) (fault : Trap) (at : ℕ) → state_at limit x ≡ outcome.Trapped fault at
    → x.status ≡ Trapped fault at
stopped_status limit x fault at is = by x.status refl
  where
    ran : (b : Bool) → elim b as (λ _. CoreState) [
      | true ↦ outcome.Done (slice_index x.regs.general 1) (slice_index x.regs.general 2) (x.free - x.site.start)
      | false ↦ outcome.Running
    ] ≡ outcome.Trapped fault at → ⊥
    ran true e = cc
    ran false e = cc

    told : Status → CoreState
    told s = elim s [
      | Idle ↦ outcome.Idle
      | Running ↦ elim (has_ended x && nat_le x.free limit) [
        | true ↦ outcome.Done (slice_index x.regs.general 1) (slice_index x.regs.general 2) (x.free - x.site.start)
        | false ↦ outcome.Running
      ]
      | Trapped trap cycle ↦ outcome.Trapped trap cycle
    ]

    alike : (other : Trap) (then : ℕ) → outcome.Trapped other then ≡ outcome.Trapped fault at → Trapped other then
        ≡ Trapped fault at
    alike other then e = ap (λ (s : CoreState). elim s as (λ _. Status) [
      | outcome.Idle ↦ Idle
      | outcome.Running ↦
          Running
      | outcome.Done a b c ↦ Running
      | outcome.Trapped t c ↦ Trapped t c
    ]) e

    by : (s : Status) → x.status ≡ s → x.status ≡ Trapped fault at
    by Idle same = absurd (let bad : outcome.Idle ≡ outcome.Trapped fault at = sym (ap told same) ∙ is in cc)
    by Running same = absurd (ran (has_ended x && nat_le x.free limit) (sym (ap told same) ∙ is))
    by (Trapped other then) same = same ∙ alike other then (sym (ap told same) ∙ is)

not_running : (x : Plain) (fault : Trap) (at : ℕ) → x.status ≡ Trapped fault at → is_running x ≡ false
not_running x fault at is = ap (λ (s : Status). elim s as (λ _. Bool) [
  | Idle ↦ false
  | Running ↦ elim (has_ended x)
      [ true ↦ false | false ↦ true ]
  | Trapped t c ↦ false
]) is

module _ (place : Place) (s : PlainShape) (addresses : List ℕ) (link_s : IsLinkable s)
    (behaves_so : Behaves s place addresses) (slots : IsSlotted (site_of place (linked s)))
    (among : place.core < place.cores) where
  pub never_stopped : (input values : List ℕ) → AreGiven input values → (cycles : ℕ) (fault : Trap) (at : ℕ)
      → (apart_at place (linked s) input values cycles).core.plain.status ≡ Trapped fault at → ⊥
  never_stopped input values given cycles fault at is =
      let site : Site = site_of place (linked s) in
      let m : Moment = after_bundles place.cores place.core (begun site input) values (bundles_in (trail s)) in
      let far : ℕ = place.start + shape_bound (most_in_slot site) s in
      let e : IsFollowed place s addresses input values =
      ends place s addresses link_s behaves_so slots among input values given in
      let here : (before place.cores place.core (begun site input) values cycles).told.run
      ≡ apart_at place (linked s) input values cycles =
      run_before place.cores place.core (begun site input) values cycles in
      let there : (before place.cores place.core (begun site input) values (cycles + far)).told.run
      ≡ apart_at place (linked s) input values (cycles + far) =
      run_before place.cores place.core (begun site input) values (cycles + far) in
      let trapped : (core_in (before place.cores place.core (begun site input) values cycles)).plain.status
      ≡ Trapped fault at = ap (λ (a : Alone Core). a.core.plain.status) here ∙ is in
      let same : IsSameTask (core_in (before place.cores place.core (begun site input) values cycles))
      (core_in (before place.cores place.core (begun site input) values (cycles + far))) =
      stays_still place.cores place.core (begun site input) values cycles far
      (not_running (core_in (before place.cores place.core (begun site input) values cycles)).plain
      fault at trapped) in
      let last : IsSameTask (core_in m) (apart_at place (linked s) input values (cycles + far)).core =
      stands_so place s addresses link_s behaves_so slots among input values given (cycles + far) (omega arith) in
      let bad : Trapped fault at ≡ Running =
      sym trapped ∙ sym (ap (λ (c : Core). c.plain.status) same) ∙ ap (λ (a : Alone Core). a.core.plain.status) there
      ∙ ap (λ (c : Core). c.plain.status) last ∙ e.status in
      cc

  -- at no number of cycles is its state that a check stopped it
  pub never_trapped : (input values : List ℕ) → AreGiven input values → (cycles : ℕ) (fault : Trap) (at : ℕ)
      → state_at cycles (apart_at place (linked s) input values cycles).core.plain ≡ outcome.Trapped fault at → ⊥
  never_trapped input values given cycles fault at is =
      never_stopped input values given cycles fault at
      (stopped_status cycles (apart_at place (linked s) input values cycles).core.plain fault at is)
