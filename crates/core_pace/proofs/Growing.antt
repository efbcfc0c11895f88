-- How a run grows from cycle to cycle.
use Rattle.std.proofs.Common.{◌≡◌, ℕ, zero, suc, ◌+◌, ◌-◌, ◌<◌, ◌≤◌, ◌==◌, ◌&&◌, nat_lt, min, Bool, true, false, List, [], ◌∷◌, ◌++◌, filter, cond, refl, sym, ap, ◌∙◌, subst, arith, append-nil, inl, Some, None}
use Rattle.std.proofs.lemmas.Bool.{eqb-true, lt-ltb, le-ltb, and_parts}
use Rattle.std.proofs.lemmas.List.Elements.{filter-append}
use Rattle.slot_arbiter.specs.declared.event.Access.{Access}
use Rattle.slot_arbiter.specs.Stamp.{stamp}
use Rattle.shared_order.specs.Program.{Prog, done, and_then, fed}
use Rattle.shared_order.specs.Apart.{apart}
use Rattle.stack_cache.specs.declared.slots.TheConstants.{STACK_CACHE_WORDS}
use Rattle.patmos_instr.specs.declared.functions.StackFunc.TheVariants.{Sres, Sens, Sfree}
use Rattle.patmos_instr.specs.declared.memories.Mem.TheVariants as mem
use Rattle.patmos_sem.specs.declared.effects.Effect.{Effect}
use Rattle.patmos_sem.specs.declared.effects.Effect.TheVariants as effect
use Rattle.patmos_model.specs.declared.flow.Goal.{Goal}
use Rattle.patmos_model.specs.declared.flow.Goal.TheVariants.{Within}
use Rattle.patmos_model.specs.State.{Core, is_running, is_free}
use Rattle.patmos_model.specs.Cells.{Acted, now}
use Rattle.patmos_model.specs.Flows.{flowed, gone}
use Rattle.patmos_model.specs.Bundle.{bundle, done_as}
use Rattle.patmos_model.specs.Transaction.{transaction, is_due}
use Rattle.patmos_model.specs.Cycle.{own, bundle_step, slot_step, if_running, settled, turn}
use Rattle.patmos_model.specs.Apart.{Followed, followed, after_delivery, after_injection, after_own}
use Rattle.patmos_model.proofs.Acts.{flow_kept}
use Rattle.patmos_model.proofs.Leaves.{Leaves}
use Rattle.patmos_model.proofs.Parts.{followed-run}
use Rattle.core_pace.specs.Moment.{Done, Moment, core_in, landed, fetched_in, passes, interfaced, finished, before, Passes}
use Rattle.core_pace.specs.Pace.{Pace, Event, pace_of, is_loaded, asks, asked_by, event_of, bundle_event}
use Rattle.core_pace.specs.Growth.{below, IsSameTask}
use Rattle.core_pace.specs.Run.{done_below}
use Rattle.core_pace.proofs.Parts.{leaves_map, leaves_then, fed_leaves}
use Rattle.core_pace.proofs.OwnActs.{asleep}
use Rattle.core_pace.proofs.Answered.{LeavesAs, Bundles, traps, does, leaves_bundle, bursted, leaves_transaction}
use Rattle.core_pace.proofs.Waits.{same_again, interface_apart, settled_leaves}

-- the list is as before, or has one element more, of this cycle
pub data Grew {A : Type 0} (at : A → ℕ) (cycle : ℕ) (xs ys : List A) : Type 0 where
  as_before : ys ≡ xs → Grew at cycle xs ys
  one_more : (a : A) → ys ≡ xs ++ a ∷ [] → at a ≡ cycle → Grew at cycle xs ys

abbrev pub below_of : {A : Type 0} → (A → ℕ) → ℕ → List A → List A
below_of at cycle xs = filter (λ a. nat_lt (at a) cycle) xs

one_late : {A : Type 0} (at : A → ℕ) (cycle : ℕ) (a : A) → cycle ≤ at a → below_of at cycle (a ∷ []) ≡ []
one_late at cycle a late = ap (λ b. cond b (a ∷ []) []) (le-ltb (at a) cycle late)

one_early : {A : Type 0} (at : A → ℕ) (cycle : ℕ) (a : A) → at a < cycle → below_of at cycle (a ∷ []) ≡ a ∷ []
one_early at cycle a early = ap (λ b. cond b (a ∷ []) []) (lt-ltb (at a) cycle early)

-- an element of a cycle is not below that cycle or an earlier one
pub grew_late : {A : Type 0} (at : A → ℕ) (t cycle : ℕ) (xs ys : List A) → t ≤ cycle → Grew at cycle xs ys
    → below_of at t ys ≡ below_of at t xs
grew_late at t cycle xs ys late (as_before same) = ap (below_of at t) same
grew_late at t cycle xs ys late (one_more a more here) =
    ap (below_of at t) more ∙ filter-append (λ a. nat_lt (at a) t) xs (a ∷ [])
    ∙ ap (λ l. below_of at t xs ++ l) (one_late at t a (omega (arith, here, late))) ∙ append-nil (below_of at t xs)

-- all elements of a list that grows from nothing are below the cycle that it has come to
pub all_below : {A : Type 0} (at : A → ℕ) (f : ℕ → List A) → f 0 ≡ [] → ((t : ℕ) → Grew at t (f t) (f (suc t)))
    → (t d : ℕ) → below_of at (t + d) (f t) ≡ f t
all_below at f none grows zero d = ap (below_of at (0 + d)) none ∙ sym none
all_below at f none grows (suc t) d =
    let same : t + suc d ≡ suc t + d = omega arith in
    by (ap (λ u. below_of at u (f t)) (sym same) ∙ all_below at f none grows t (suc d)) (grows t)
  where
    by : below_of at (suc t + d) (f t) ≡ f t → Grew at t (f t) (f (suc t)) → below_of at (suc t + d) (f (suc t))
        ≡ f (suc t)
    by rest (as_before same) = ap (below_of at (suc t + d)) same ∙ rest ∙ sym same
    by rest (one_more a more here) =
        ap (below_of at (suc t + d)) more ∙ filter-append (λ a. nat_lt (at a) (suc t + d)) (f t) (a ∷ [])
        ∙ (λ i. rest i ++ one_early at (suc t + d) a (omega (arith, here)) i) ∙ sym more

-- what it was at a cycle is what lies below that cycle of what it is later
pub cut_at : {A : Type 0} (at : A → ℕ) (f : ℕ → List A) → f 0 ≡ [] → ((t : ℕ) → Grew at t (f t) (f (suc t))) → (t d : ℕ)
    → below_of at t (f (t + d)) ≡ f t
cut_at at f none grows t zero =
    let same : t + 0 ≡ t = omega arith in
    ap (λ u. below_of at t (f u)) same
    ∙ (let again : t + 0 ≡ t = omega arith in ap (λ u. below_of at u (f t)) (sym again))
    ∙ all_below at f none grows t 0
cut_at at f none grows t (suc d) =
    let same : t + suc d ≡ suc (t + d) = omega arith in
    ap (λ u. below_of at t (f u)) same ∙ grew_late at t (t + d) (f (t + d)) (f (suc (t + d))) (omega arith) (grows
    (t + d)) ∙ cut_at at f none grows t d

-- ---- one cycle

asks_accesses : (write : Bool) (words : ℕ) (p : Pace) → (asks write words p).accesses ≡ p.accesses
asks_accesses write words p = by (words == 0)
  where
    by : (b : Bool) → (elim b as (λ _. Pace) [
      | true ↦ record p { free = p.free + 1 }
      | false ↦ record p {
        write = write;
        words = words;
        line = None;
      }
    ]).accesses ≡ p.accesses
    by true = refl
    by false = refl

-- a bundle leaves the transactions as they were
asked_accesses : (asked : Effect) (p : Pace) → (asked_by (event_of asked) p).accesses ≡ p.accesses
asked_accesses effect.Nothing p = refl
asked_accesses (effect.Flow kind) p = refl
asked_accesses (effect.Load mem.S width rd address) p = refl
asked_accesses (effect.Load mem.L width rd address) p = refl
asked_accesses (effect.Load mem.C width rd address) p = by (is_loaded address p.loads)
  where
    by : (b : Bool) → (elim b as (λ _. Pace) [
      | true ↦ record p { free = p.free + 1; loads = address ∷ p.loads }
      | false ↦ record p { write = false; words = 4; line = Some address }
    ]).accesses ≡ p.accesses
    by true = refl
    by false = refl
asked_accesses (effect.Load mem.M width rd address) p = refl
asked_accesses (effect.Store mem.S width address value) p = refl
asked_accesses (effect.Store _ width address value) p = refl
asked_accesses (effect.StackOp Sres count) p = asks_accesses true (count + p.held - STACK_CACHE_WORDS)
    (record p { held = min STACK_CACHE_WORDS (count + p.held) })
asked_accesses (effect.StackOp Sens count) p =
    asks_accesses false (count - p.held) (record p { held = p.held + (count - p.held) })
asked_accesses (effect.StackOp Sfree count) p = refl

bundles_accesses : (c : Core) (events : List Event) (y : Acted) → Bundles c events y → y.core.seen.accesses
    ≡ c.seen.accesses
bundles_accesses c events y (traps fault is none) = ap (λ (z : Acted). z.core.seen.accesses) is
bundles_accesses c events y (does asked flow one left) =
    ap (λ (p : Pace). p.accesses) left.pace ∙ asked_accesses asked (pace_of c)

-- the task's own part makes one transaction in its cycle, or none
SameAccesses : Core → Acted → Type 0
SameAccesses c y = y.core.seen.accesses ≡ c.seen.accesses

bundle_accesses : (c : Core) (u : ℕ) → is_free u c.plain ≡ true → Leaves (SameAccesses c) (bundle u c)
unfolding SameAccesses
bundle_accesses c u free =
    let at : c.plain.free ≡ u =
    eqb-true c.plain.free u (and_parts (c.plain.transfer.words == 0) (c.plain.free == u) free).1 in
    leaves_map (Bundles c (bundle_event (fetched_in c.plain) c.plain)) (SameAccesses c)
    (bundles_accesses c (bundle_event (fetched_in c.plain) c.plain)) (bundle u c)
    (subst (λ t. Leaves (Bundles c (bundle_event (fetched_in c.plain) c.plain)) (done_as (fetched_in c.plain) t c)) at
    (leaves_bundle (fetched_in c.plain) c))

bundle_step_accesses : (c : Core) (u : ℕ) → Leaves (SameAccesses c) (bundle_step u c)
unfolding SameAccesses
bundle_step_accesses c u = by (is_free u c.plain) refl
  where
    by : (b : Bool) → is_free u c.plain ≡ b
        → Leaves (SameAccesses c) (elim b as (λ _. Prog Acted) [ true ↦ bundle u c | false ↦ now c ])
    by true free = bundle_accesses c u free
    by false busy = refl

running_accesses : (c : Core) (u : ℕ) → Leaves (SameAccesses c) (if_running (bundle_step u) c)
unfolding SameAccesses
running_accesses c u = by (is_running c.plain)
  where
    by : (b : Bool) → Leaves (SameAccesses c) (elim b as (λ _. Prog Acted) [ true ↦ bundle_step u c | false ↦ now c ])
    by true = bundle_step_accesses c u
    by false = refl

gone_accesses : (goal : Goal) (c : Core) → (gone goal c).seen.accesses ≡ c.seen.accesses
gone_accesses (Within offset) c = refl
gone_accesses _ c = refl

flowed_accesses : (c : Core) (u : ℕ) → (flowed u c).seen.accesses ≡ c.seen.accesses
flowed_accesses c u =
    flow_kept (λ (d : Core). d.seen.accesses ≡ c.seen.accesses)
    (record { stops = λ d fault cycle h. h; goes = λ d goal h placed. gone_accesses goal d ∙ h }) u c refl

-- the transactions grew so
abbrev AccessesGrew : ℕ → Core → Acted → Type 0
AccessesGrew u c y = Grew (λ (a : Access). a.cycle) u c.seen.accesses y.core.seen.accesses

slot_accesses : (c : Core) (u : ℕ) (y : Acted) → y.core.seen.accesses ≡ c.seen.accesses
    → Leaves (AccessesGrew u c) (slot_step u y)
slot_accesses c u y same = by (is_due u y.core.plain)
  where
    by : (b : Bool) → Leaves (AccessesGrew u c) (elim b as (λ _. Prog Acted)
        [ true ↦ transaction u y.core | false ↦ done y ])
    by true =
        leaves_map (LeavesAs ⊥ y.core.plain.site y.core.plain.status y.core.plain.flow (bursted y.core.plain.site u
        (pace_of y.core))) (AccessesGrew u c)
        (λ z h. one_more (record {
          cycle = u;
          write = y.core.plain.transfer.write;
          words = min 4 y.core.plain.transfer.words;
        })
        (ap (λ (p : Pace). p.accesses) h.pace ∙ ap (λ l. l ++ record {
          cycle = u;
          write = y.core.plain.transfer.write;
          words = min 4 y.core.plain.transfer.words;
        } ∷ []) same) refl)
        (transaction u y.core) (leaves_transaction y.core u)
    by false = as_before same

pub own_accesses : (c : Core) (u : ℕ) → Leaves (AccessesGrew u c) (own u c)
unfolding SameAccesses
own_accesses c u = by (is_running c.plain)
  where
    by : (b : Bool) → Leaves (AccessesGrew u c) (elim b as (λ _. Prog Acted) [
      | true ↦ and_then
          (if_running (bundle_step u) (flowed u c)) (slot_step u)
      | false ↦ now c
    ])
    by true =
        leaves_then (SameAccesses (flowed u c)) (AccessesGrew u c) (slot_step u) (λ y same. slot_accesses c u y
        (same ∙ flowed_accesses c u))
        (if_running (bundle_step u) (flowed u c)) (running_accesses (flowed u c) u)
    by false = as_before refl

-- ---- the run

module _ (n core : ℕ) where
  -- from a moment to the end of its cycle
  pub finished_accesses : (m : Moment) → Grew (λ (a : Access). a.cycle) m.cycle (core_in m).seen.accesses (core_in
      (finished n core m)).seen.accesses
  finished_accesses m =
      fed_leaves (λ (d : Core). Grew (λ (a : Access). a.cycle) m.cycle (core_in m).seen.accesses d.seen.accesses)
      (stamp n core m.cycle 1) (and_then (own m.cycle (core_in m)) settled) m.told.run.left
      (leaves_then (AccessesGrew m.cycle (core_in m)) (λ (d : Core). Grew (λ (a : Access). a.cycle) m.cycle
      (core_in m).seen.accesses d.seen.accesses) settled
      (λ y h. settled_leaves (λ (d : Core). Grew (λ (a : Access). a.cycle) m.cycle (core_in m).seen.accesses
      d.seen.accesses) y h)
      (own m.cycle (core_in m)) (own_accesses (core_in m) m.cycle))

  finished_bundles : (m : Moment) → Grew (λ (d : Done). d.cycle) m.cycle m.bundles (finished n core m).bundles
  finished_bundles m = by (is_running c.plain && (is_free m.cycle c.plain && passes (fetched_in c.plain) c.plain))
    where
      c : Core
      c = landed m.cycle (core_in m)

      by : (b : Bool) → Grew (λ (d : Done). d.cycle) m.cycle m.bundles (m.bundles
          ++ elim b as (λ _. List Done) [
            | true ↦ record {
              base = c.plain.base;
              offset = c.plain.offset;
              cycle = m.cycle;
            } ∷ []
            | false ↦ []
          ])
      by true = one_more (record { base = c.plain.base; offset = c.plain.offset; cycle = m.cycle }) refl refl
      by false = as_before (append-nil m.bundles)

  module _ (x : Core) (values : List ℕ) where
    pub cycle_before : (t : ℕ) → (before n core x values t).cycle ≡ t
    cycle_before zero = refl
    cycle_before (suc t) = ap suc (cycle_before t)

    before_accesses : (t : ℕ) → Grew (λ (a : Access). a.cycle) t (core_in (before n core x values t)).seen.accesses
        (core_in (before n core x values (suc t))).seen.accesses
    before_accesses t =
        let m : Moment = before n core x values t in
        let same : (core_in (interfaced n core m)).seen.accesses ≡ (core_in m).seen.accesses =
        ap (λ (c : Core). c.seen.accesses) (interface_apart n core m) in
        subst (λ u. Grew (λ (a : Access). a.cycle) u (core_in m).seen.accesses
        (core_in (before n core x values (suc t))).seen.accesses) (cycle_before t)
        (subst (λ l. Grew (λ (a : Access). a.cycle) m.cycle l (core_in (before n core x values (suc t))).seen.accesses)
        same (finished_accesses (interfaced n core m)))

    before_bundles : (t : ℕ) → Grew (λ (d : Done). d.cycle) t (before n core x values t).bundles (before n core x values
        (suc t)).bundles
    before_bundles t =
        subst (λ u. Grew (λ (d : Done). d.cycle) u (before n core x values t).bundles
        (before n core x values (suc t)).bundles) (cycle_before t)
        (finished_bundles (interfaced n core (before n core x values t)))

    -- ---- the run cut at a cycle

    pub accesses_cut : x.seen.accesses ≡ [] → (t d : ℕ)
        → below t (core_in (before n core x values (t + d))).seen.accesses
        ≡ (core_in (before n core x values t)).seen.accesses
    accesses_cut none t d = cut_at (λ (a : Access). a.cycle) (λ u. (core_in (before n core x values u)).seen.accesses)
        none before_accesses t d

    pub bundles_cut : (t d : ℕ) → done_below t (before n core x values (t + d)).bundles
        ≡ (before n core x values t).bundles
    bundles_cut t d = cut_at (λ (d : Done). d.cycle) (λ u. (before n core x values u).bundles) refl before_bundles t d

    -- at a moment that the run passes through, what lies below its cycle is what the run has come to
    pub accesses_at : x.seen.accesses ≡ [] → (m : Moment) (t : ℕ) → t ≤ m.cycle → Passes n core x values m
        → below t (core_in m).seen.accesses ≡ (core_in (before n core x values t)).seen.accesses
    accesses_at none m t early passes =
        let there : t + (suc m.cycle - t) ≡ suc m.cycle = omega (arith, early) in
        sym (grew_late (λ (a : Access). a.cycle) t m.cycle (core_in m).seen.accesses
        (core_in (finished n core m)).seen.accesses early (finished_accesses m))
        ∙ ap (λ z. below t (core_in z).seen.accesses) (sym passes)
        ∙ ap (λ u. below t (core_in (before n core x values u)).seen.accesses) (sym there)
        ∙ accesses_cut none t (suc m.cycle - t)

    pub bundles_at : (m : Moment) (t : ℕ) → t ≤ m.cycle → Passes n core x values m → done_below t m.bundles
        ≡ (before n core x values t).bundles
    bundles_at m t early passes =
        let there : t + (suc m.cycle - t) ≡ suc m.cycle = omega (arith, early) in
        sym (grew_late (λ (d : Done). d.cycle) t m.cycle m.bundles (finished n core m).bundles early
        (finished_bundles m))
        ∙ ap (λ z. done_below t z.bundles) (sym passes)
        ∙ ap (λ u. done_below t (before n core x values u).bundles) (sym there)
        ∙ bundles_cut t (suc m.cycle - t)

    -- ---- it is the run apart

    pub told_before : (t : ℕ) → (before n core x values t).told ≡ followed n core x values t
    told_before zero = refl
    told_before (suc t) =
        let m : Moment = before n core x values t in
        λ i. after_own n core (cycle_before t i) (after_injection n core (cycle_before t i)
        (after_delivery n core (cycle_before t i) (told_before t i)))

    pub run_before : (t : ℕ) → (before n core x values t).told.run ≡ apart turn n core x values t
    run_before t = ap (λ (f : Followed). f.run) (told_before t) ∙ followed-run n core x values t

    -- ---- a task that does not run

    stays_on : (m : Moment) → is_running (core_in m).plain ≡ false
        → IsSameTask (core_in m) (core_in (finished n core (interfaced n core m)))
    stays_on m still =
        let m1 : Moment = interfaced n core m in
        let same : IsSameTask (core_in m) (core_in m1) = interface_apart n core m in
        let still1 : is_running (core_in m1).plain ≡ false = ap (λ (c : Core). is_running c.plain) same ∙ still in
        let act : own m1.cycle (core_in m1) ≡ now (core_in m1) = asleep (core_in m1) m1.cycle (inl still1) in
        let left : core_in (finished n core m1) ≡ core_in m1 =
        ap (λ p. (fed (stamp n core m1.cycle 1) (and_then p settled) m1.told.run.left).core) act in
        subst (IsSameTask (core_in m)) (sym left) same

    pub stays_still : (t d : ℕ) → is_running (core_in (before n core x values t)).plain ≡ false
        → IsSameTask (core_in (before n core x values t)) (core_in (before n core x values (t + d)))
    stays_still t zero still =
        let same : t + 0 ≡ t = omega arith in
        subst (λ u. IsSameTask (core_in (before n core x values t)) (core_in (before n core x values u)))
        (sym same) refl
    stays_still t (suc d) still =
        let next : t + suc d ≡ suc (t + d) = omega arith in
        let so_far : IsSameTask (core_in (before n core x values t)) (core_in (before n core x values (t + d))) =
        stays_still t d still in
        let still_then : is_running (core_in (before n core x values (t + d))).plain ≡ false =
        ap (λ (c : Core). is_running c.plain) so_far ∙ still in
        subst (λ u. IsSameTask (core_in (before n core x values t)) (core_in (before n core x values u))) (sym next)
        (same_again (core_in (before n core x values t)) (core_in (before n core x values (t + d)))
        (core_in (before n core x values (suc (t + d)))) so_far
        (stays_on (before n core x values (t + d)) still_then))

    -- after a moment in which the core does not run, the run has come to that task and stays there
    pub ends_at : (m : Moment) (d : ℕ) → is_running (core_in m).plain ≡ false → Passes n core x values m
        → IsSameTask (core_in m) (core_in (before n core x values (suc m.cycle + d)))
    ends_at m d still passes =
        let act : own m.cycle (core_in m) ≡ now (core_in m) = asleep (core_in m) m.cycle (inl still) in
        let left : core_in (before n core x values (suc m.cycle)) ≡ core_in m =
        ap core_in passes ∙ ap (λ p. (fed (stamp n core m.cycle 1) (and_then p settled) m.told.run.left).core) act in
        let still_then : is_running (core_in (before n core x values (suc m.cycle))).plain ≡ false =
        ap (λ (c : Core). is_running c.plain) left ∙ still in
        subst (λ c. IsSameTask c (core_in (before n core x values (suc m.cycle + d)))) left
        (stays_still (suc m.cycle) d still_then)
