-- What a core of a machine at its limit tells.
use Rattle.std.proofs.Common.{◌≡◌, ℕ, ◌<◌, List, [], length, take, Option, None, Some, IfSome, slice_get, refl, sym, ap, ◌∙◌, subst, arith, append-nil, inl, inr}
use Rattle.std.proofs.Math.Seq.{take-nil}
use Rattle.std.proofs.lemmas.Option.{slice_get_cases}
use Rattle.slot_arbiter.specs.declared.event.Access.{Access}
use Rattle.patmos_code.specs.Images.{Parts}
use Rattle.shared_order.specs.declared.operation.Operation.{Operation}
use Rattle.shared_order.specs.Operation.{loads}
use Rattle.shared_order.specs.Apart.{apart, Alone}
use Rattle.shared_order.proofs.ByCycles.{core_is_apart, stands_by_cycles}
use Rattle.patmos_core.specs.declared.cpu.Core.{Core as Cpu}
use Rattle.patmos_model.specs.State.{Core}
use Rattle.patmos_model.specs.Begin.{idle, no_code}
use Rattle.patmos_model.specs.Cycle.{turn}
use Rattle.patmos_model.specs.Site.{Site}
use Rattle.patmos_model.specs.Apart.{site_of, apart_from}
use Rattle.patmos_core.specs.Position.{StandsFor, IsThrough, limit_of, room_of}
use Rattle.patmos_model.proofs.Idle.{idle_stands}
use Rattle.global_step.specs.declared.loaded.LoadedCore.{LoadedCore}
use Rattle.global_step.specs.Loaded.{Machine}
use Rattle.global_step.specs.Machine.{first_core, core_among, machine, at_limit, operations_of}
use Rattle.tc_run.specs.Final.{IsFinalCore}
use Rattle.tc_run.proofs.Begins.{among_is, placed}

-- the core that was loaded there
pub there : (ls : List LoadedCore) (k : ℕ) → k < length ls → (l : LoadedCore) × (slice_get ls k ≡ Some l)
there ls k below = elim (slice_get_cases ls k).1 [
  | inl within ↦ (within.0, within.2)
  | inr past ↦ absurd (omega (arith, below, past.0))
]

pub site_cores : (l : LoadedCore) → (first_core l).plain.site.cores ≡ l.place.cores
site_cores l = by l.image
  where
    by : (image : Option Parts)
        → (first_core (record { place = l.place; image = image; input = l.input })).plain.site.cores ≡ l.place.cores
    by None = refl
    by (Some image) = refl

pub site_core : (l : LoadedCore) → (first_core l).plain.site.core ≡ l.place.core
site_core l = by l.image
  where
    by : (image : Option Parts)
        → (first_core (record { place = l.place; image = image; input = l.input })).plain.site.core ≡ l.place.core
    by None = refl
    by (Some image) = refl

-- the machine's core is the run apart on its own loads
made_apart : (m : Machine) (k : ℕ) → k < length m.cores
    → (apart turn (length m.cores) k (core_among m.cores k) (loads (operations_of m k)) m.limit).core
    ≡ (at_limit m).cores k
unfolding machine
made_apart m k below =
    ap (λ values. (apart turn (length m.cores) k (core_among m.cores k) values m.limit).core)
    (sym (append-nil (loads (operations_of m k))))
    ∙ ap (λ (a : Alone Core). a.core) (core_is_apart turn (length m.cores) (core_among m.cores) m.limit k below [])

-- a core that was loaded without a task is as it began
idle_at_end : (m : Machine) (k : ℕ) (site : Site) → k < length m.cores → core_among m.cores k ≡ idle site
    → (at_limit m).cores k ≡ idle site
idle_at_end m k site below is =
    sym (made_apart m k below)
    ∙ ap (λ x. (apart turn (length m.cores) k x (loads (operations_of m k)) m.limit).core) is
    ∙ ap (λ (a : Alone Core). a.core) (stands_by_cycles turn (length m.cores) k (idle site) [] m.limit (idle site) below
    (idle_stands (length m.cores) k site m.limit below) (loads (operations_of m k)))

-- a core that was loaded without a task is idle
first_idle : (l : LoadedCore) → l.image ≡ None → first_core l ≡ idle (site_of l.place no_code)
first_idle l is = rw (is, first_core) refl

-- a list without elements, whatever is taken of it
none_taken : (n k : ℕ) (xs : List Access) → xs ≡ [] → take n xs ≡ take k xs
none_taken n k xs is = rw is (take-nil n ∙ sym (take-nil k))

module _ (m : Machine) (k : ℕ) (c : Cpu) (h : IsFinalCore m k c) where
  here : (l : LoadedCore) × (slice_get m.cores k ≡ Some l)
  here = there m.cores k h.among

  -- what the core stands for is the machine's core
  pub core_at_end : (apart_from (core_among m.cores k) (loads (operations_of m k)) m.limit).core ≡ (at_limit m).cores k
  core_at_end =
      let l = here.0 in
      let at = placed m.cores k l h.platform here.1 in
      let n_is : (core_among m.cores k).plain.site.cores ≡ length m.cores =
      ap (λ (x : Core). x.plain.site.cores) (among_is m.cores k l here.1) ∙ site_cores l ∙ at.0 in
      let k_is : (core_among m.cores k).plain.site.core ≡ k =
      ap (λ (x : Core). x.plain.site.core) (among_is m.cores k l here.1) ∙ site_core l ∙ at.1 in
      ap (λ n. (apart turn n (core_among m.cores k).plain.site.core (core_among m.cores k) (loads (operations_of m k))
      m.limit).core) n_is
      ∙ ap (λ j. (apart turn (length m.cores) j (core_among m.cores k) (loads (operations_of m k)) m.limit).core) k_is
      ∙ made_apart m k h.among

  -- what a function of the core tells at its own limit, it tells of the machine's
  pub reported_at_end : {A : Type 0} (tell : ℕ → Core → A) (reported : A)
      → (IsThrough c → (x : Core) (made : List Operation) → StandsFor c x made → reported
      ≡ tell (limit_of c) (apart_from x (loads made) (limit_of c)).core)
      → reported ≡ tell m.limit ((at_limit m).cores k)
  reported_at_end tell reported tells =
      tells h.through (core_among m.cores k) (operations_of m k) h.stands
      ∙ ap (λ t. tell t (apart_from (core_among m.cores k) (loads (operations_of m k)) t).core) h.limit
      ∙ ap (tell m.limit) core_at_end

  -- as many transactions as it keeps are as many as are told: without a task there are none
  pub kept_at_end : take (room_of c) ((at_limit m).cores k).seen.accesses
      ≡ take m.trace ((at_limit m).cores k).seen.accesses
  kept_at_end =
      by here.0.image refl (subst (λ o. IfSome o (λ l. IfSome l.image (λ image. room_of c ≡ m.trace))) here.1 h.room)
    where
      by : (image : Option Parts) → here.0.image ≡ image → IfSome here.0.image (λ image. room_of c ≡ m.trace)
          → take (room_of c) ((at_limit m).cores k).seen.accesses ≡ take m.trace ((at_limit m).cores k).seen.accesses
      by None is room =
          none_taken (room_of c) m.trace ((at_limit m).cores k).seen.accesses
          (ap (λ (x : Core). x.seen.accesses) (idle_at_end m k (site_of here.0.place no_code) h.among
          (among_is m.cores k here.0 here.1 ∙ first_idle here.0 is)))
      by (Some image) is room =
          let same : room_of c ≡ m.trace = subst (λ o. IfSome o (λ image. room_of c ≡ m.trace)) is room in
          ap (λ n. take n ((at_limit m).cores k).seen.accesses) same
