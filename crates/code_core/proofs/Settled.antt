-- What the task's acts leave of its core, and which operations it has made by then: of a program, and of all
-- transactions of a transfer, told by what its first one leaves.
use Rattle.std.proofs.Common.{◌≡◌, ℕ, zero, suc, ◌-◌, List, [], ◌∷◌, ◌++◌, Option, None, Some, inl, inr, ◌⊎◌, refl, sym, ap, ◌∙◌, subst, arith, append_assoc, append-nil}
use Rattle.slot_arbiter.specs.Stamp.{stamp}
use Rattle.shared_order.specs.declared.operation.Operation.{Operation}
use Rattle.shared_order.specs.Operation.{load, store}
use Rattle.shared_order.specs.Program.{Prog, done, get, set, and_then, fed, first, others}
use Rattle.patmos_model.specs.declared.pending_store.PendingStore.{PendingStore}
use Rattle.patmos_model.specs.declared.transfer.Then.TheVariants as then_on
use Rattle.patmos_model.specs.State.{Core}
use Rattle.patmos_model.specs.Cells.{Acted}
use Rattle.patmos_model.specs.Cycle.{settled}
use Rattle.patmos_model.specs.Bursts.{slots_of}
use Rattle.patmos_model.specs.Transaction.{counted, transaction, transaction_then}
use Rattle.core_pace.specs.Moment.{Moment, core_in}
use Rattle.core_pace.specs.Next.{acting, transacted, waited, until, moved_once, moved, freed, all_moved}
use Rattle.core_pace.specs.Spans.{start_in}
use Rattle.core_pace.proofs.Listed.{waited_own}
use Rattle.code_core.proofs.Ports.{IsStill, still_waited}

-- after these operations, and those that the program makes, whatever its loads give
abbrev pub LeavesBy : {X : Type 0} → (X → List Operation → Type 0) → ℕ → Prog X → List Operation → Type 0
LeavesBy P s (done x) ops = P x ops
LeavesBy P s (get word go_on) ops = (value : ℕ) → LeavesBy P s (go_on value) (ops ++ load s word value ∷ [])
LeavesBy P s (set word value rest) ops = LeavesBy P s rest (ops ++ store s word value ∷ [])

-- with nothing left to store
abbrev pub Done : (Core → List Operation → Type 0) → Acted → List Operation → Type 0
Done P y ops = (y.pending_store ≡ None) × P y.core ops

done_by : (P : Core → List Operation → Type 0) (s : ℕ) (p : Prog Acted) (values : List ℕ) (ops : List Operation)
    → LeavesBy (Done P) s p ops
    → P (fed s (and_then p settled) values).core (ops ++ (fed s (and_then p settled) values).ops)
done_by P s (done y) values ops h =
    let q : Option PendingStore → Prog Core =
    λ o. elim o as (λ _. Prog Core) [ None ↦ done y.core | Some k ↦ set k.word k.value (done y.core) ] in
    subst (λ o. P (fed s (q o) values).core (ops ++ (fed s (q o) values).ops)) (sym h.0)
    (subst (P y.core) (sym (append-nil ops)) h.1)
done_by P s (get word go_on) values ops h =
    let rest = fed s (and_then (go_on (first values)) settled) (others values) in
    subst (P rest.core) (append_assoc ops (load s word (first values) ∷ []) rest.ops)
    (done_by P s (go_on (first values)) (others values) (ops ++ load s word (first values) ∷ []) (h (first values)))
done_by P s (set word value p) values ops h =
    let rest = fed s (and_then p settled) values in
    subst (P rest.core) (append_assoc ops (store s word value ∷ []) rest.ops)
    (done_by P s p values (ops ++ store s word value ∷ []) h)

-- ---- transfers

pub record OfBoth (P : Core → List Operation → Type 0) : Type 0 where
  pub same : (c d : Core) (ops : List Operation) → IsStill c d → P c ops → P d ops
  pub counts : (u : ℕ) (c : Core) (ops : List Operation) → P c ops → P (counted u c) ops

abbrev pub AfterOneBy : (Core → List Operation → Type 0) → Core → List Operation → Type 0
AfterOneBy P c ops = (u s : ℕ) (d : Core) → IsStill c d → LeavesBy (Done P) s (transaction u d) ops

pub data SettlesBy (P : Core → List Operation → Type 0) (c : Core) (ops : List Operation) : Type 0 where
  settled_by : P c ops → (c.plain.transfer.words ≡ 0) ⊎ (c.plain.transfer.then ≡ then_on.Nothing) → SettlesBy P c ops
  awaits_by : slots_of c.plain.transfer.words ≡ 1 → AfterOneBy P c ops → SettlesBy P c ops

counts_only : (P : Core → List Operation → Type 0) → OfBoth P → (u s : ℕ) (c : Core) (ops : List Operation) → P c ops
    → c.plain.transfer.then ≡ then_on.Nothing
    → LeavesBy (Done (λ d o. P d o × (d.plain.transfer.then ≡ then_on.Nothing))) s (transaction u c) ops
unfolding transaction
counts_only P o u s c ops h none =
    subst (λ t. LeavesBy (Done (λ d o. P d o × (d.plain.transfer.then ≡ then_on.Nothing))) s (transaction_then t u c)
    ops) (sym none) (refl, (o.counts u c ops h, refl))

module _ (n core : ℕ) where
  pub acting_by : (P : Core → List Operation → Type 0) (p : Prog Acted) (m : Moment)
      → LeavesBy (Done P) (stamp n core m.cycle 1) p m.told.own
      → P (core_in (acting n core p m)) (acting n core p m).told.own
  acting_by P p m h = done_by P (stamp n core m.cycle 1) p m.told.run.left m.told.own h

  module _ (P : Core → List Operation → Type 0) (o : OfBoth P) where
    waited_by : (d : ℕ) (m : Moment) → P (core_in m) m.told.own
        → P (core_in (waited n core d m)) (waited n core d m).told.own
    waited_by d m h = subst (P (core_in (waited n core d m))) (sym (waited_own n core d m))
        (o.same (core_in m) (core_in (waited n core d m)) m.told.own (still_waited n core d m) h)

    once_by : (m : Moment) → AfterOneBy P (core_in m) m.told.own
        → P (core_in (moved_once n core m)) (moved_once n core m).told.own
    once_by m h =
        let wait : ℕ = start_in (core_in m).plain.site m.cycle - m.cycle in
        let at : Moment = until n core (start_in (core_in m).plain.site m.cycle) m in
        waited_by (core_in m).plain.site.slot (transacted n core at)
        (acting_by P (transaction at.cycle (core_in at)) at
        (subst (LeavesBy (Done P) (stamp n core at.cycle 1) (transaction at.cycle (core_in at)))
        (sym (waited_own n core wait m)) (h at.cycle (stamp n core at.cycle 1) (core_in at)
        (still_waited n core wait m))))

    on_by : (count : ℕ) (m : Moment) → P (core_in m) m.told.own → (core_in m).plain.transfer.then ≡ then_on.Nothing
        → P (core_in (moved n core count m)) (moved n core count m).told.own
    on_by zero m h none = h
    on_by (suc count) m h none =
        let wait : ℕ = start_in (core_in m).plain.site m.cycle - m.cycle in
        let at : Moment = until n core (start_in (core_in m).plain.site m.cycle) m in
        let Q : Core → List Operation → Type 0 = λ d ops. P d ops × (d.plain.transfer.then ≡ then_on.Nothing) in
        let there : (core_in at).plain.transfer.then ≡ then_on.Nothing =
        ap (λ (c : Core). c.plain.transfer.then) (still_waited n core wait m).task ∙ none in
        let moved_there : Q (core_in (transacted n core at)) (transacted n core at).told.own =
        acting_by Q (transaction at.cycle (core_in at)) at (counts_only P o at.cycle (stamp n core at.cycle 1)
        (core_in at) at.told.own (waited_by wait m h) there) in
        let slot : ℕ = (core_in m).plain.site.slot in
        on_by count (moved_once n core m) (waited_by slot (transacted n core at) moved_there.0)
        (ap (λ (c : Core). c.plain.transfer.then) (still_waited n core slot (transacted n core at)).task
        ∙ moved_there.1)

    pub all_settles_by : (m : Moment) → SettlesBy P (core_in m) m.told.own
        → P (core_in (all_moved n core m)) (all_moved n core m).told.own
    all_settles_by m h = freed_by (moved n core (slots_of (core_in m).plain.transfer.words) m) (by h)
      where
        freed_by : (z : Moment) → P (core_in z) z.told.own → P (core_in (freed n core z)) (freed n core z).told.own
        freed_by z k = waited_by ((core_in z).plain.free - z.cycle) z k

        Here : ℕ → Type 0
        Here k = P (core_in (moved n core k m)) (moved n core k m).told.own

        by : SettlesBy P (core_in m) m.told.own → Here (slots_of (core_in m).plain.transfer.words)
        by (settled_by h (inl idle)) =
            let none : slots_of (core_in m).plain.transfer.words ≡ 0 = omega (arith, idle) in subst Here (sym none) h
        by (settled_by h (inr none)) = on_by (slots_of (core_in m).plain.transfer.words) m h none
        by (awaits_by one h) = subst Here (sym one) (once_by m h)

-- ---- what is said of the core alone

-- neither its interface nor the time of a transfer changes it
pub record OfTask (P : Core → Type 0) : Type 0 where
  pub same : (c d : Core) → IsStill c d → P c → P d
  pub counts : (u : ℕ) (c : Core) → P c → P (counted u c)

pub of_task : (P : Core → Type 0) → OfTask P → OfBoth (λ c ops. P c)
of_task P o = record { same = λ c d ops is h. o.same c d is h; counts = λ u c ops h. o.counts u c h }

-- a transfer with nothing after it leaves it
pub rests_settles : (n core : ℕ) (P : Core → Type 0) → OfTask P → (m : Moment) → P (core_in m)
    → (core_in m).plain.transfer.words ≡ 0 ⊎ ((core_in m).plain.transfer.then ≡ then_on.Nothing)
    → P (core_in (all_moved n core m))
rests_settles n core P o m h rests = all_settles_by n core (λ c ops. P c) (of_task P o) m (settled_by h rests)
