-- A compiled task runs until its end.
use Rattle.std.proofs.Common.{◌≡◌, ℕ, ◌+◌, ◌-◌, ◌<◌, ◌≤◌, Bool, true, false, not, ◌&&◌, nat_le, List, slice_index, refl, sym, ap, ◌∙◌, subst, arith}
use Rattle.std.proofs.lemmas.Bool.{lt-leb}
use Rattle.slot_arbiter.specs.declared.place.Place.{Place}
use Rattle.shared_order.specs.Apart.{Alone, apart}
use Rattle.patmos_model.specs.Apart.{site_of, apart_at}
use Rattle.patmos_model.specs.Begin.{begun}
use Rattle.patmos_model.specs.Cycle.{turn}
use Rattle.patmos_model.specs.Outcome.{state_at}
use Rattle.patmos_model.specs.Site.{Site}
use Rattle.patmos_model.specs.State.{Core, Plain, is_running, has_ended}
use Rattle.patmos_model.specs.declared.state.Status.{Status}
use Rattle.patmos_model.specs.declared.state.Status.TheVariants as status
use Rattle.patmos_model.specs.declared.state.CoreState.{CoreState}
use Rattle.patmos_model.specs.declared.state.CoreState.TheVariants.{Idle, Running, Done, Trapped}
use Rattle.core_pace.specs.Growth.{IsSameTask}
use Rattle.core_pace.specs.Moment.{Moment, core_in, before}
use Rattle.core_pace.specs.Run.{after_bundles}
use Rattle.core_pace.specs.Spans.{IsSlotted}
use Rattle.core_pace.proofs.Growing.{run_before, stays_still}
use Rattle.core_pace.proofs.Outcomes.{ended_is_done}
use Rattle.sp_tree.specs.Statements.{PlainUnit}
use Rattle.sp_shape.specs.Parts.{PlainShape}
use Rattle.sp_shape.specs.Trail.{trail}
use Rattle.tc_link.specs.Placed.{linked}
use Rattle.code_core.specs.Fixed.{IsLinkable}
use Rattle.code_core.specs.Followed.{IsFollowed}
use Rattle.code_core.specs.Sound.{bundles_in}
use Rattle.code_core.specs.Words.{AreGiven}
use Rattle.code_core.proofs.Shapes.{ends}
use Rattle.code_times.proofs.Exact.{accesses_at, end_from, end_within, ended_cycle, stands_so}
use Rattle.task_core.specs.Tasks.{bound_of, code_of, times_of, IsRunnable, IsCode}
use Rattle.task_core.proofs.Behaving.{link, asking, behaves}
use Rattle.task_machine.specs.Reported.{HasTimes}

-- ---- states of a core after so many cycles

still_running : (limit : ℕ) (x : Plain) → is_running x ≡ true → state_at limit x ≡ Running
still_running limit x = by x.status (has_ended x)
  where
    by : (s : Status) (ended : Bool) → elim s as (λ _. Bool) [
      | status.Idle ↦ false
      | status.Running ↦
          not ended
      | status.Trapped trap at ↦ false
    ] ≡ true
        → elim s as (λ _. CoreState) [
          | status.Idle ↦ Idle
          | status.Running ↦ elim (ended && nat_le x.free limit) as (λ _. CoreState) [
            | true ↦ Done (slice_index x.regs.general 1) (slice_index x.regs.general 2) (x.free - x.site.start)
            | false ↦ Running
          ]
          | status.Trapped trap at ↦ Trapped trap at
        ] ≡ Running
    by status.Idle ended is = absurd (let bad : true ≡ false = sym is in cc)
    by status.Running true is = absurd (let bad : true ≡ false = sym is in cc)
    by status.Running false is = refl
    by (status.Trapped trap at) ended is = absurd (let bad : true ≡ false = sym is in cc)

not_yet : (limit : ℕ) (x : Plain) → x.status ≡ status.Running → limit < x.free → state_at limit x ≡ Running
not_yet limit x runs late =
    ap (λ (s : Status). elim s as (λ _. CoreState) [
      | status.Idle ↦ Idle
      | status.Running ↦ elim (has_ended x && nat_le x.free limit) as (λ _. CoreState) [
        | true ↦ Done (slice_index x.regs.general 1) (slice_index x.regs.general 2) (x.free - x.site.start)
        | false ↦ Running
      ]
      | status.Trapped trap at ↦ Trapped trap at
    ]) runs
    ∙ by (has_ended x) (nat_le x.free limit) (lt-leb x.free limit late)
  where
    by : (ended here : Bool) → here ≡ false → elim (ended && here) as (λ _. CoreState) [
      | true ↦ Done (slice_index x.regs.general 1) (slice_index x.regs.general 2) (x.free - x.site.start)
      | false ↦ Running
    ] ≡ Running
    by true true is = absurd (let bad : true ≡ false = is in cc)
    by true false is = refl
    by false here is = refl

-- a core that does not run stays
same_later : (n core : ℕ) (x : Core) (values : List ℕ) (t d : ℕ) → is_running (apart turn n core x values t).core.plain
    ≡ false
    → IsSameTask (apart turn n core x values t).core (apart turn n core x values (t + d)).core
same_later n core x values t d still =
    let here : core_in (before n core x values t) ≡ (apart turn n core x values t).core =
    ap (λ (a : Alone Core). a.core) (run_before n core x values t) in
    let there : core_in (before n core x values (t + d)) ≡ (apart turn n core x values (t + d)).core =
    ap (λ (a : Alone Core). a.core) (run_before n core x values (t + d)) in
    subst (IsSameTask (apart turn n core x values t).core) there
    (subst (λ (c : Core). IsSameTask c (core_in (before n core x values (t + d)))) here
    (stays_still n core x values t d (ap (λ (c : Core). is_running c.plain) here ∙ still)))

-- ---- a compiled task

module _ (u : PlainUnit) (place : Place) (h : IsRunnable u place) (code : IsCode u)
    (slots : IsSlotted (site_of place (linked (code_of u)))) (among : place.core < place.cores) (input values : List ℕ)
    (given : AreGiven input values) where
  abbrev s : PlainShape
  s = code_of u

  abbrev site : Site
  site = site_of place (linked (code_of u))

  abbrev addresses : List ℕ
  addresses = (asking u h.formed).cached

  abbrev last : Moment
  last = after_bundles place.cores place.core (begun site input) values (bundles_in (trail (code_of u)))

  abbrev whole : ℕ
  whole = bound_of u place

  linkable : IsLinkable s
  linkable = link u code h.formed

  followed : IsFollowed place s addresses input values
  followed = ends place s addresses linkable (behaves u place h code) slots among input values given

  within : (times_of u place).end ≤ whole
  within = end_within place s addresses linkable (behaves u place h code) slots among

  running_at : (cycles : ℕ) → cycles < (times_of u place).end → state_at cycles (apart_at place (linked s) input values
      cycles).core.plain ≡ Running
  running_at cycles early = by (is_running x) refl
    where
      x : Plain
      x = (apart_at place (linked s) input values cycles).core.plain

      by : (b : Bool) → is_running x ≡ b → state_at cycles x ≡ Running
      by true is = still_running cycles x is
      by false is =
          let far : cycles + (whole - cycles) ≡ whole = omega (arith, early, within) in
          let enough : whole ≤ whole = omega arith in
          let later : IsSameTask (apart_at place (linked s) input values cycles).core
          (apart_at place (linked s) input values whole).core =
          subst (λ t. IsSameTask (apart_at place (linked s) input values cycles).core
          (apart_at place (linked s) input values t).core) far
          (same_later place.cores place.core (begun site input) values cycles (whole - cycles) is) in
          let runs : x.status ≡ status.Running =
          sym (ap (λ (c : Core). c.plain.status) later) ∙ ap (λ (c : Core). c.plain.status) (stands_so place s addresses
          linkable (behaves u place h code) slots among input values given whole enough) ∙ followed.status in
          let free : x.free ≡ (times_of u place).end =
          sym (ap (λ (c : Core). c.plain.free) later) ∙ end_from place s addresses linkable (behaves u place h code)
          slots among input values given whole within in
          not_yet cycles x runs (omega (arith, free, early))

  pub times_at : (cycles : ℕ) → HasTimes u place cycles (apart_at place (linked s) input values cycles).core
  times_at cycles =
      let general : List ℕ = (core_in last).plain.regs.general in
      let end : last.cycle ≡ (times_of u place).end =
      ended_cycle place s addresses linkable (behaves u place h code) slots among input values given in
      record {
        accesses = accesses_at place s addresses linkable (behaves u place h code) slots among input
            values given cycles;
        done = λ enough. (
          slice_index general 1,
          (
            slice_index general 2,
            ended_is_done place.cores place.core site input values (bundles_in (trail s)) cycles slots followed.status
                followed.still (omega (arith, enough, end))
                ∙ ap (λ k. Done (slice_index general 1) (slice_index general 2) (k - place.start)) end,
          ),
        );
        running = running_at cycles;
      }
