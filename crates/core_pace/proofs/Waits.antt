-- How a run passes from moment to moment where the task itself does nothing.
use Rattle.std.proofs.Common.{◌≡◌, ℕ, zero, suc, ◌+◌, ◌-◌, ◌<◌, ◌≤◌, Bool, true, false, List, ◌++◌, Option, None, Some, refl, sym, ap, ◌∙◌, subst, arith, append-nil}
use Rattle.slot_arbiter.specs.Stamp.{stamp}
use Rattle.slot_arbiter.specs.Slot.{is_slot_start}
use Rattle.slot_arbiter.specs.Order.{IsNext}
use Rattle.shared_order.specs.Program.{Prog, and_then, fed}
use Rattle.argo_ni.specs.Interface.{Interface}
use Rattle.argo_ni.specs.Turn.{delivery, injection}
use Rattle.patmos_model.specs.declared.pending_store.PendingStore.{PendingStore}
use Rattle.patmos_model.specs.State.{Core}
use Rattle.patmos_model.specs.Cells.{Acted}
use Rattle.patmos_model.specs.Cycle.{with_interface, own, settled}
use Rattle.patmos_model.specs.Apart.{Followed, by_task, after_delivery, after_own}
use Rattle.patmos_model.proofs.Leaves.{Leaves}
use Rattle.core_pace.specs.Moment.{Moment, core_in, done_in, interfaced, finished, Passes, before}
use Rattle.core_pace.specs.Next.{acting, next_cycle, waited, until, freed}
use Rattle.core_pace.specs.Growth.{IsSameTask}
use Rattle.core_pace.proofs.Parts.{leaves_then, fed_leaves, by_task_in_parts, by_nothing, with_interface_left}
use Rattle.core_pace.proofs.OwnActs.{Sleeps, asleep, none_done, idle_or_busy, sleeps_early, sleeps_unslotted}

-- the run comes to the moment as its cycle begins: the task has done nothing in it
abbrev pub Enters : ℕ → ℕ → Core → List ℕ → Moment → Type 0
Enters n core x values m = interfaced n core (before n core x values m.cycle) ≡ m

-- ---- the same task

pub same_again : (c d e : Core) → IsSameTask c d → IsSameTask d e → IsSameTask c e
same_again c d e one two = two ∙ ap (λ (z : Core). with_interface z e.plain.interface) one

-- a core with another interface is the same task
same_with : (c d : Core) (i : Interface) → d ≡ with_interface c i → IsSameTask c d
same_with c d i is = is ∙ ap (with_interface c) (sym (ap (λ (z : Core). z.plain.interface) is))

pub settled_leaves : (P : Core → Type 0) (y : Acted) → P y.core → Leaves P (settled y)
settled_leaves P y h = by y.pending_store
  where
    by : (pending_store : Option PendingStore)
        → Leaves P (settled (record { core = y.core; pending_store = pending_store }))
    by None = h
    by (Some o) = h

module _ (n core : ℕ) where
  -- the interface's part of a cycle leaves the task
  pub interface_apart : (m : Moment) → IsSameTask (core_in m) (core_in (interfaced n core m))
  interface_apart m =
      let c : Core = core_in m in
      let f : Followed = after_delivery n core m.cycle m.told in
      same_again c f.run.core (core_in (interfaced n core m))
      (same_with c f.run.core _ (with_interface_left c (stamp n core m.cycle 0) (delivery m.cycle c.plain.interface)
      m.told.run.left))
      (same_with f.run.core (core_in (interfaced n core m)) _ (with_interface_left f.run.core (stamp n core m.cycle 1)
      (injection m.cycle f.run.core.plain.interface) f.run.left))

  pub waited_same : (d : ℕ) (m : Moment) → IsSameTask (core_in m) (core_in (waited n core d m))
  waited_same zero m = refl
  waited_same (suc d) m =
      same_again (core_in m) (core_in (waited n core d m)) (core_in (waited n core (suc d) m)) (waited_same d m)
      (interface_apart (record (waited n core d m) { cycle = suc (waited n core d m).cycle }))

  pub waited_cycle : (d : ℕ) (m : Moment) → (waited n core d m).cycle ≡ m.cycle + d
  waited_cycle zero m = omega arith
  waited_cycle (suc d) m = ap suc (waited_cycle d m) ∙ omega arith

  pub until_cycle : (u : ℕ) (m : Moment) → m.cycle ≤ u → (until n core u m).cycle ≡ u
  until_cycle u m reached = waited_cycle (u - m.cycle) m ∙ omega (arith, reached)

  -- what the task does by a program is left of its core by that alone
  pub acting_leaves : (P : Core → Type 0) (p : Prog Acted) (m : Moment) → Leaves (λ y. P y.core) p
      → P (core_in (acting n core p m))
  acting_leaves P p m h =
      fed_leaves P (stamp n core m.cycle 1) (and_then p settled) m.told.run.left
      (leaves_then (λ (y : Acted). P y.core) P settled (settled_leaves P) p h)

  -- ---- the rest of a cycle

  -- nothing is left of a cycle in which the core sleeps
  nothing_left : (m : Moment) → Sleeps m.cycle (core_in m).plain → finished n core m ≡ record m { cycle = suc m.cycle }
  nothing_left m sleeps = λ i. record { cycle = suc m.cycle; told = still i; bundles = none i }
    where
      still : after_own n core m.cycle m.told ≡ m.told
      still =
          ap (λ p. by_task (fed (stamp n core m.cycle 1) (and_then p settled) m.told.run.left) m.told)
          (asleep (core_in m) m.cycle sleeps)
          ∙ by_nothing (stamp n core m.cycle 1) m.told

      none : m.bundles ++ done_in m.cycle (core_in m) ≡ m.bundles
      none = ap (λ l. m.bundles ++ l) (none_done (core_in m) m.cycle (idle_or_busy (core_in m) m.cycle sleeps))
          ∙ append-nil m.bundles

  -- a program is all that the task does first, if its act is that and what then is left
  pub acts_first : (p : Prog Acted) (m : Moment)
      → and_then (own m.cycle (core_in m)) settled ≡ and_then (and_then p settled) (λ d. and_then
      (own m.cycle d) settled)
      → after_own n core m.cycle m.told ≡ after_own n core m.cycle (acting n core p m).told
  acts_first p m first =
      ap (λ q. by_task (fed (stamp n core m.cycle 1) q m.told.run.left) m.told) first
      ∙ by_task_in_parts (stamp n core m.cycle 1) (and_then p settled) (λ d. and_then (own m.cycle d) settled) m.told

  module _ (x : Core) (values : List ℕ) where
    passes_on : (m : Moment) → Sleeps m.cycle (core_in m).plain → Passes n core x values m
        → Passes n core x values (next_cycle n core m)
    passes_on m sleeps passes = ap (λ z. finished n core (interfaced n core z)) (passes ∙ nothing_left m sleeps)

    pub waits : (d : ℕ) (m : Moment) → ((k : ℕ) → k < d → Sleeps (m.cycle + k) (core_in m).plain)
        → Passes n core x values m → Passes n core x values (waited n core d m)
    waits zero m sleeps passes = passes
    waits (suc d) m sleeps passes =
        let after : Moment = waited n core d m in
        let here : Sleeps (m.cycle + d) (core_in after).plain =
        subst (λ (c : Core). Sleeps (m.cycle + d) c.plain) (sym (waited_same d m)) (sleeps d (omega arith)) in
        passes_on after (subst (λ u. Sleeps u (core_in after).plain) (sym (waited_cycle d m)) here)
        (waits d m (λ k below. sleeps k (omega (arith, below))) passes)

    -- after a wait the run comes to a moment at the beginning of its cycle
    pub enters : (d : ℕ) (m : Moment) → 0 < d → ((k : ℕ) → k < d → Sleeps (m.cycle + k) (core_in m).plain)
        → Passes n core x values m → Enters n core x values (waited n core d m)
    enters zero m some sleeps passes = absurd (omega (arith, some))
    enters (suc d) m some sleeps passes =
        let after : Moment = waited n core d m in
        let here : Sleeps (m.cycle + d) (core_in after).plain =
        subst (λ (c : Core). Sleeps (m.cycle + d) c.plain) (sym (waited_same d m)) (sleeps d (omega arith)) in
        let there : Sleeps after.cycle (core_in after).plain =
        subst (λ u. Sleeps u (core_in after).plain) (sym (waited_cycle d m)) here in
        ap (interfaced n core) (waits d m (λ k below. sleeps k (omega (arith, below))) passes
        ∙ nothing_left after there)

    -- a core waits for the cycle from which on it goes on
    pub waits_free : (m : Moment) → Passes n core x values m → Passes n core x values (freed n core m)
    waits_free m passes =
        waits ((core_in m).plain.free - m.cycle) m (λ k below. sleeps_early (core_in m).plain (m.cycle + k)
        (omega (arith, below))) passes

    -- and with words to move, for its slot
    pub waits_slot : (u : ℕ) (m : Moment) → 0 < (core_in m).plain.transfer.words
        → IsNext (is_slot_start (core_in m).plain.site.table (core_in m).plain.site.slot
        (core_in m).plain.site.core) m.cycle u
        → Passes n core x values m → Passes n core x values (until n core u m)
    waits_slot u m some next passes =
        waits (u - m.cycle) m (λ k below. sleeps_unslotted (core_in m).plain (m.cycle + k) some
        (none k below (starts (m.cycle + k)) refl)) passes
      where
        starts : ℕ → Bool
        starts v = is_slot_start (core_in m).plain.site.table (core_in m).plain.site.slot (core_in m).plain.site.core v

        none : (k : ℕ) → k < u - m.cycle → (b : Bool) → starts (m.cycle + k) ≡ b → starts (m.cycle + k) ≡ false
        none k below true is = let least : u ≤ m.cycle + k = next.least (m.cycle + k) (omega arith) is in
            absurd (omega (arith, below, least))
        none k below false is = is
