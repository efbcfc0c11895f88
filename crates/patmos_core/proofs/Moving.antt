-- How a core that is stepped by itself goes from one part of its cycles to the next.
use Rattle.std.specs.List.{AllByRecursion as Each}
use Rattle.std.proofs.Common.{◌≡◌, ℕ, suc, ◌+◌, ◌*◌, ◌<◌, ◌≤◌, List, [], ◌∷◌, ◌++◌, Option, None, Some, refl, sym, ap, ◌∙◌, subst, append-nil, append_assoc, arith, mul-le-mul_right}
use Rattle.slot_arbiter.specs.Stamp.{stamp}
use Rattle.slot_arbiter.specs.declared.event.Event.{Event}
use Rattle.shared_order.specs.declared.operation.Operation.{Operation}
use Rattle.shared_order.specs.Operation.{store, loads}
use Rattle.shared_order.specs.Order.{GoesOn}
use Rattle.shared_order.specs.Event.{asked_by, IsAskedBy}
use Rattle.shared_order.specs.Program.{Prog, done, Fed, fed}
use Rattle.shared_order.specs.Apart.{Alone, apart}
use Rattle.shared_order.specs.Stamps.{act_at}
use Rattle.shared_order.specs.Stands.{Stands, Midway}
use Rattle.shared_order.proofs.Parts.{then-done, fed-then}
use Rattle.shared_order.proofs.ByStamps.{core_of, act_here, apart_by_stamps}
use Rattle.shared_order.proofs.Standing.{enters, goes_on, leaves, reaches, passes, next_midway}
use Rattle.shared_order.proofs.Events.{event_next}
use Rattle.shared_order.proofs.Lists.{each_map, each-append}
use Rattle.patmos_model.specs.declared.pending_store.PendingStore.{PendingStore}
use Rattle.patmos_core.specs.declared.phase.Phase.TheVariants.{Delivery, Act, Completion}
use Rattle.patmos_model.specs.State.{Core}
use Rattle.patmos_model.specs.Cells.{Acted}
use Rattle.patmos_model.specs.Cycle.{turn, acted, settled}
use Rattle.patmos_core.specs.Position.{IsThere, IsWholeIn}
use Rattle.patmos_core.specs.Waiting.{LeavesIn}

-- a pending store is made, and nothing else
settled_ops : (s : ℕ) (y : Core) (pending_store : Option PendingStore) (values : List ℕ)
    → (fed s (settled (record { core = y; pending_store = pending_store })) values).ops
    ≡ elim pending_store as (λ _. List Operation) [ None ↦ [] | Some o ↦ store s o.word o.value ∷ [] ]
settled_ops s y None values = refl
settled_ops s y (Some o) values = refl

-- an event that has all of its stamp, but for what is left of a narrow store, comes next
left_later : (s : ℕ) (pending_store : Option PendingStore)
    → Each (λ (o : Operation). s ≤ o.stamp) (elim pending_store as (λ _. List Operation)
    [ None ↦ [] | Some o ↦ store s o.word o.value ∷ [] ])
left_later s None = tt
left_later s (Some o) = (omega arith, tt)

pub whole_next : (made all : List Operation) (e : Event) (values : List ℕ) → IsWholeIn made all e values
    → GoesOn e.stamp (made ++ asked_by e values) all
whole_next made all e values whole =
    let later : List Operation = whole.goes_on.later in
    record {
      later = whole.rest ++ later;
      whole = whole.goes_on.whole
          ∙ ap (λ l. l ++ later) (sym (append_assoc made (asked_by e values) whole.rest))
          ∙ append_assoc (made ++ asked_by e values) whole.rest later;
      from = each-append (λ o. e.stamp ≤ o.stamp) whole.rest later
          (subst (λ os. Each (λ (o : Operation). e.stamp ≤ o.stamp) os) (sym whole.left.only)
          (left_later e.stamp whole.left.pending_store))
          (each_map (λ o. suc e.stamp ≤ o.stamp) (λ o. e.stamp ≤ o.stamp) (λ o h. omega (arith, h)) later
          whole.goes_on.from);
    }

module _ (n core : ℕ) (x : Core) (cycle : ℕ) (among : core < n) where
  -- at its own stamp of a phase a core has the turn of that phase before it
  begins_phase : (made : List Operation) (phase : ℕ) (y : Core) → phase ≤ 1
      → Stands (act_at turn n) n core x made ((2 * cycle + phase) * n) y
      → Midway (act_at turn n) n core x made (stamp n core cycle phase) (turn phase cycle y)
  begins_phase made phase y low stands =
      subst (Midway (act_at turn n) n core x made (stamp n core cycle phase))
      (act_here turn n core cycle phase among low y)
      (enters (act_at turn n) n core x made (stamp n core cycle phase) y (core_of turn n core cycle phase among)
      (reaches turn n core x made cycle phase y among stands))

  pub begins_delivery : (made : List Operation) (y : Core) → IsThere n core cycle Delivery x made y
      → Midway (act_at turn n) n core x made (stamp n core cycle 0) (turn 0 cycle y)
  begins_delivery made y stands =
      let here : 2 * cycle * n ≡ (2 * cycle + 0) * n = omega arith in
      begins_phase made 0 y (omega arith) (subst (λ s. Stands (act_at turn n) n core x made s y) here stands)

  -- a phase that is done brings it to the next
  ends_phase : (made : List Operation) (phase : ℕ) (y : Core) → Midway (act_at turn n) n core x made (stamp n core cycle
      phase) (done y)
      → Stands (act_at turn n) n core x made ((2 * cycle + phase) * n + n) y
  ends_phase made phase y midway =
      passes turn n core x made cycle phase y among (leaves (act_at turn n) n core x made
      (stamp n core cycle phase) y midway)

  pub ends_delivery : (made : List Operation) (y : Core)
      → Midway (act_at turn n) n core x made (stamp n core cycle 0) (done y)
      → IsThere n core cycle Act x made y
  ends_delivery made y midway =
      let here : (2 * cycle + 0) * n + n ≡ (2 * cycle + 1) * n = omega arith in
      begins_phase made 1 y (omega arith) (subst (λ s. Stands (act_at turn n) n core x made s y) here
      (ends_phase made 0 y midway))

  pub ends_cycle : (made : List Operation) (y : Core)
      → Midway (act_at turn n) n core x made (stamp n core cycle 1) (done y)
      → IsThere n core (cycle + 1) Delivery x made y
  ends_cycle made y midway =
      let here : (2 * cycle + 1) * n + n ≡ 2 * (cycle + 1) * n = omega arith in
      subst (λ s. Stands (act_at turn n) n core x made s y) here (ends_phase made 1 y midway)

  -- a part that was told what its loads gave is after it
  resumed_whole : (made : List Operation) (s : ℕ) (p : Prog Core) (values : List ℕ)
      → Midway (act_at turn n) n core x made s p
      → Midway (act_at turn n) n core x (made ++ (fed s p values).ops) s (done (fed s p values).core)
  resumed_whole made s p values midway =
      goes_on (act_at turn n) n core x made s p (λ z. done z) (subst (Midway (act_at turn n) n core x made s)
      (sym (then-done p)) midway) values

  pub delivery_resumed : (made : List Operation) (y : Core) (values : List ℕ) → IsThere n core cycle Delivery x made y
      → IsThere n core cycle Act x (made ++ (fed (stamp n core cycle 0) (turn 0 cycle y) values).ops) (fed
      (stamp n core cycle 0) (turn 0 cycle y) values).core
  delivery_resumed made y values there =
      let heard : Fed Core = fed (stamp n core cycle 0) (turn 0 cycle y) values in
      ends_delivery (made ++ heard.ops) heard.core (resumed_whole made (stamp n core cycle 0) (turn 0 cycle y) values
      (begins_delivery made y there))

  -- without a packet that is due, nothing is delivered
  pub delivery_passed : (made : List Operation) (y : Core) → turn 0 cycle y ≡ done y
      → IsThere n core cycle Delivery x made y → IsThere n core cycle Act x made y
  delivery_passed made y quiet there =
      ends_delivery made y (subst (Midway (act_at turn n) n core x made (stamp n core cycle 0)) quiet
      (begins_delivery made y there))

  -- the second phase was handed what its loads gave: where no store is pending, the next cycle begins
  pub act_resumed : (made : List Operation) (y z : Core) (values : List ℕ) (pending_store : Option PendingStore)
      → (fed (stamp n core cycle 1) (acted cycle y) values).core ≡ record { core = z; pending_store = pending_store }
      → IsThere n core cycle Act x made y → Midway (act_at turn n) n core x (made
      ++ (fed (stamp n core cycle 1) (acted cycle y) values).ops) (stamp n core cycle 1)
      (settled (record { core = z; pending_store = pending_store }))
  act_resumed made y z values pending_store is there =
      let heard : Fed Acted = fed (stamp n core cycle 1) (acted cycle y) values in
      subst (λ a. Midway (act_at turn n) n core x (made ++ heard.ops) (stamp n core cycle 1) (settled a)) is
      (goes_on (act_at turn n) n core x made (stamp n core cycle 1) (acted cycle y) settled there values)

  -- a pending store was made
  pub completion_done : (made : List Operation) (y : Core) (pending_store : PendingStore) (values : List ℕ)
      → IsThere n core cycle (Completion pending_store) x made y
      → IsThere n core (cycle + 1) Delivery x (made
      ++ (fed (stamp n core cycle 1) (settled (record { core = y; pending_store = Some pending_store }))
      values).ops) y
  completion_done made y pending_store values there =
      let rest : Prog Core = settled (record { core = y; pending_store = Some pending_store }) in
      ends_cycle (made ++ (fed (stamp n core cycle 1) rest values).ops) y (resumed_whole made (stamp n core cycle 1)
      rest values there)

  -- ---- what comes next

  pub stamp_below : (limit : ℕ) → cycle < limit → (phase : ℕ) → phase ≤ 1 → stamp n core cycle phase < 2 * limit * n
  stamp_below limit early phase low =
      let room : (2 * cycle + 2) * n ≤ 2 * limit * n = mul-le-mul_right n (omega (arith, early)) in
      let within : (2 * cycle + phase) * n ≤ (2 * cycle + 1) * n = mul-le-mul_right n (omega (arith, low)) in
      omega (arith, room, within, among)

  module _ (limit : ℕ) (early : cycle < limit) (e : Event) (made : List Operation) (y : Core) where
    -- a phase that asks for what the event has, and no more, leaves nothing
    whole_phase : (phase : ℕ) (rest : Prog Core) → phase ≤ 1 → e.stamp ≡ stamp n core cycle phase → IsAskedBy e rest
        → Midway (act_at turn n) n core x made (stamp n core cycle phase) rest
        → (more : List ℕ) → IsWholeIn made (apart turn n core x (loads made ++ more) limit).made e more
    whole_phase phase rest low is asks midway more = record {
      rest = [];
      left = record { pending_store = None; only = refl; narrow = tt };
      goes_on = subst (λ ops. GoesOn (suc e.stamp) (made ++ ops) (apart turn n core x (loads made ++ more) limit).made)
          (sym (append-nil (asked_by e more)))
          (event_next turn n core x made e rest limit among (omega (arith, is, stamp_below limit early phase low))
          (subst (λ s. Midway (act_at turn n) n core x made s rest) (sym is) midway) asks more);
    }

    pub delivery_whole : e.stamp ≡ stamp n core cycle 0 → IsAskedBy e (turn 0 cycle y)
        → IsThere n core cycle Delivery x made y
        → (more : List ℕ) → IsWholeIn made (apart turn n core x (loads made ++ more) limit).made e more
    delivery_whole is asks there = whole_phase 0 (turn 0 cycle y) (omega arith) is asks (begins_delivery made y there)

    pub whole_completion : (pending_store : PendingStore) → e.stamp ≡ stamp n core cycle 1
        → IsAskedBy e (settled (record { core = y; pending_store = Some pending_store }))
        → IsThere n core cycle (Completion pending_store) x made y
        → (more : List ℕ) → IsWholeIn made (apart turn n core x (loads made ++ more) limit).made e more
    whole_completion pending_store is asks there =
        whole_phase 1 (settled (record { core = y; pending_store = Some pending_store })) (omega arith) is asks there

    -- the second phase is what the event has, and then the pending store, if there is one
    pub act_whole : e.stamp ≡ stamp n core cycle 1 → IsAskedBy e (acted cycle y) → LeavesIn Act cycle y e
        → IsThere n core cycle Act x made y
        → (more : List ℕ) → IsWholeIn made (apart turn n core x (loads made ++ more) limit).made e more
    act_whole is asks leaves there more =
        let heard : Fed Acted = fed e.stamp (acted cycle y) more in
        let back : List Operation = (fed e.stamp (settled heard.core) heard.left).ops in
        let ops : (fed e.stamp (turn 1 cycle y) more).ops ≡ asked_by e more ++ back =
        ap (λ (g : Fed Core). g.ops) (fed-then e.stamp (acted cycle y) settled more)
        ∙ ap (λ l. l ++ back) (asks more) in
        record {
          rest = back;
          left = record {
            pending_store = heard.core.pending_store;
            only = settled_ops e.stamp heard.core.core
                heard.core.pending_store heard.left;
            narrow = leaves more;
          };
          goes_on = subst (λ l. GoesOn (suc e.stamp) (made ++ l) (apart turn n core x (loads made ++ more) limit).made)
              ops
              (subst (λ (a : Alone Core). GoesOn (suc e.stamp) (made ++ (fed e.stamp (turn 1 cycle y) more).ops) a.made)
              (sym (apart_by_stamps turn n core x (loads made ++ more) limit among))
              (next_midway (act_at turn n) n core x made e.stamp (2 * limit * n) (turn 1 cycle y)
              (omega (arith, is, stamp_below limit early 1 (omega arith)))
              (subst (λ s. Midway (act_at turn n) n core x made s (turn 1 cycle y)) (sym is) there) more));
        }
