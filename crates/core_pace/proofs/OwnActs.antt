-- What a core's own act in a cycle comes to: nothing, a transaction, or a bundle and what follows on it.
use Rattle.std.proofs.Common.{◌≡◌, ℕ, ◌<◌, ◌≤◌, ◌==◌, ◌&&◌, not, nat_le, nat_lt, Bool, true, false, List, [], ◌∷◌, Option, None, Some, refl, sym, ap, ◌∙◌, subst, arith, inl, inr, ◌⊎◌}
use Rattle.std.proofs.lemmas.Bool.{eqb-true, ne_eqb, le-leb, lt-leb, lt-ltb, and_parts, and_from}
use Rattle.slot_arbiter.specs.Slot.{is_slot_start}
use Rattle.shared_order.specs.Program.{Prog, done, set, and_then}
use Rattle.patmos_model.specs.declared.flow.Flow.{Flow}
use Rattle.patmos_model.specs.declared.flow.Goal.{Goal}
use Rattle.patmos_model.specs.declared.flow.Goal.TheVariants.{Within}
use Rattle.patmos_model.specs.declared.trap.Trap.TheVariants as trap
use Rattle.patmos_model.specs.declared.state.Status.{Status}
use Rattle.patmos_model.specs.declared.state.Status.TheVariants.{Idle, Running, Trapped}
use Rattle.patmos_model.specs.declared.pending_store.PendingStore.{PendingStore}
use Rattle.patmos_model.specs.State.{Plain, Core, with_plain, stopped, is_running, is_free, has_ended, is_end}
use Rattle.patmos_model.specs.Cells.{Acted, now}
use Rattle.patmos_model.specs.Bundle.{bundle}
use Rattle.patmos_model.specs.Transaction.{transaction, is_due}
use Rattle.patmos_model.specs.Flows.{flowed, taken, gone, is_placed}
use Rattle.patmos_model.specs.Cycle.{own, bundle_step, slot_step, if_running, settled}
use Rattle.patmos_model.proofs.Acts.{Turns, flow_kept}
use Rattle.patmos_model.proofs.Leaves.{Leaves}
use Rattle.patmos_model.proofs.Parts.{in_line}
use Rattle.patmos_model.proofs.Waits.{none_right, none_left, words_test, stopped_own, flow_waits, bundle_waits, bundle_if_running, slot_waits}
use Rattle.core_pace.specs.Moment.{Done, done_by, done_in, landed, fetched_in, passes}
use Rattle.core_pace.specs.Next.{is_due_flow}
use Rattle.core_pace.specs.Pace.{Event, goal_event, flow_event}
use Rattle.core_pace.proofs.Parts.{then_same, leaves_map}

-- ---- tests

-- ---- a core that does nothing in a cycle

-- it does not run; or it is neither free nor can move words
abbrev pub Sleeps : ℕ → Plain → Type 0
Sleeps cycle x = (is_running x ≡ false) ⊎ ((is_free cycle x ≡ false) × (is_due cycle x ≡ false))

-- a core that runs and is not free only moves words
busy_own : (c : Core) (u : ℕ) → is_running c.plain ≡ true → is_free u c.plain ≡ false → own u c
    ≡ slot_step u (record { core = c; pending_store = None })
busy_own c u runs busy =
    ap (λ b. elim b as (λ _. Prog Acted) [
      | true ↦ and_then (if_running (bundle_step u) (flowed u c)) (slot_step u)
      | false ↦ now c
    ]) runs
    ∙ ap (λ d. and_then (if_running (bundle_step u) d) (slot_step u)) (flow_waits c u busy)
    ∙ ap (λ p. and_then p (slot_step u)) (bundle_if_running c u (is_running c.plain) (bundle_waits c u busy))

pub asleep : (c : Core) (u : ℕ) → Sleeps u c.plain → own u c ≡ now c
asleep c u (inl still) = stopped_own c u still
asleep c u (inr waits) = by (is_running c.plain) refl
  where
    by : (b : Bool) → is_running c.plain ≡ b → own u c ≡ now c
    by false is = stopped_own c u is
    by true is = busy_own c u is waits.0 ∙ slot_waits (record { core = c; pending_store = None }) u waits.1

-- and no bundle
done_by_none : (c : Core) (u : ℕ) → (is_running c.plain && (is_free u c.plain && passes (fetched_in c.plain) c.plain))
    ≡ false → done_by u c ≡ []
done_by_none c u none = ap (λ b. elim b as (λ _. List Done) [
  | true ↦ record { base = c.plain.base; offset = c.plain.offset; cycle = u } ∷ []
  | false ↦ []
]) none

pub landed_stopped : (c : Core) (u : ℕ) → is_running c.plain ≡ false → landed u c ≡ c
landed_stopped c u is = ap (λ b. elim b as (λ _. Core) [ true ↦ flowed u c | false ↦ c ]) is

pub landed_running : (c : Core) (u : ℕ) → is_running c.plain ≡ true → landed u c ≡ flowed u c
landed_running c u is = ap (λ b. elim b as (λ _. Core) [ true ↦ flowed u c | false ↦ c ]) is

-- what traps and flows keep holds once one has taken effect
pub landed_kept : (P : Core → Type 0) → Turns P → (u : ℕ) (c : Core) → P c → P (landed u c)
landed_kept P t u c h = by (is_running c.plain)
  where
    by : (b : Bool) → P (elim b as (λ _. Core) [ true ↦ flowed u c | false ↦ c ])
    by true = flow_kept P t u c h
    by false = h

landed_busy : (c : Core) (u : ℕ) → is_free u c.plain ≡ false → landed u c ≡ c
landed_busy c u busy = by (is_running c.plain) refl
  where
    by : (b : Bool) → is_running c.plain ≡ b → landed u c ≡ c
    by true is = landed_running c u is ∙ flow_waits c u busy
    by false is = landed_stopped c u is

pub none_done : (c : Core) (u : ℕ) → (is_running c.plain ≡ false) ⊎ (is_free u c.plain ≡ false) → done_in u c ≡ []
none_done c u (inl still) =
    ap (done_by u) (landed_stopped c u still) ∙ done_by_none c u (none_left (is_running c.plain)
    (is_free u c.plain && passes (fetched_in c.plain) c.plain) still)
none_done c u (inr busy) =
    ap (done_by u) (landed_busy c u busy)
    ∙ done_by_none c u (none_right (is_running c.plain) (is_free u c.plain && passes (fetched_in c.plain) c.plain)
    (none_left (is_free u c.plain) (passes (fetched_in c.plain) c.plain) busy))

pub idle_or_busy : (c : Core) (u : ℕ) → Sleeps u c.plain → (is_running c.plain ≡ false) ⊎ (is_free u c.plain ≡ false)
idle_or_busy c u (inl still) = inl still
idle_or_busy c u (inr waits) = inr waits.0

-- ---- when it sleeps

pub not_free : (x : Plain) (u : ℕ) → 0 < x.transfer.words → is_free u x ≡ false
not_free x u some = none_left (x.transfer.words == 0) (x.free == u) (words_test x.transfer.words some)

-- before the cycle from which on it goes on
pub early_not_due : (x : Plain) (u : ℕ) → u < x.free → is_due u x ≡ false
early_not_due x u before =
    none_right (nat_lt 0 x.transfer.words) (nat_le x.free u && is_slot_start x.site.table x.site.slot x.site.core u)
    (none_left (nat_le x.free u) (is_slot_start x.site.table x.site.slot x.site.core u) (lt-leb x.free u before))

pub sleeps_early : (x : Plain) (u : ℕ) → u < x.free → Sleeps u x
sleeps_early x u before = inr (
  none_right (x.transfer.words == 0) (x.free == u) (ne_eqb x.free u (λ e. omega (arith, before, e))),
  early_not_due x u before,
)

-- with words to move, where no slot of its own starts
pub sleeps_unslotted : (x : Plain) (u : ℕ) → 0 < x.transfer.words → is_slot_start x.site.table x.site.slot x.site.core u
    ≡ false → Sleeps u x
sleeps_unslotted x u some none = inr (
  not_free x u some,
  none_right (nat_lt 0 x.transfer.words) (nat_le x.free u && is_slot_start x.site.table x.site.slot x.site.core u)
      (none_right (nat_le x.free u) (is_slot_start x.site.table x.site.slot x.site.core u) none),
)

-- ---- a transaction

-- a core with a task and words to move runs
pub moving_runs : (x : Plain) → x.status ≡ Running → 0 < x.transfer.words → is_running x ≡ true
moving_runs x status some =
    ap (λ (s : Status). elim s as (λ _. Bool) [ Idle ↦ false | Running ↦ not (has_ended x) | Trapped t at ↦ false ])
    status
    ∙ ap not (by x.flow)
  where
    by : (flow : Option Flow) → elim flow as (λ _. Bool) [ None ↦ false | Some f ↦ is_end f && (x.transfer.words == 0) ]
        ≡ false
    by None = refl
    by (Some f) = none_right (is_end f) (x.transfer.words == 0) (words_test x.transfer.words some)

pub transaction_own : (c : Core) (u : ℕ) → c.plain.status ≡ Running → 0 < c.plain.transfer.words → c.plain.free ≤ u
    → is_slot_start c.plain.site.table c.plain.site.slot c.plain.site.core u ≡ true → own u c ≡ transaction u c
transaction_own c u status some free start =
    busy_own c u (moving_runs c.plain status some) (not_free c.plain u some)
    ∙ ap (λ b. elim b as (λ _. Prog Acted) [
      | true ↦ transaction u c
      | false ↦ done
          (record { core = c; pending_store = None })
    ])
    (and_from (nat_lt 0 c.plain.transfer.words)
    (nat_le c.plain.free u && is_slot_start c.plain.site.table c.plain.site.slot c.plain.site.core u)
    (lt-ltb 0 c.plain.transfer.words some)
    (and_from (nat_le c.plain.free u) (is_slot_start c.plain.site.table c.plain.site.slot c.plain.site.core u)
    (le-leb c.plain.free u free) start))

-- ---- a program after which the core sleeps is all of the cycle's act

-- nothing follows on what is settled, where the core then sleeps
settled_sleeps : (u : ℕ) (y : Acted) → own u y.core ≡ now y.core → settled y
    ≡ and_then (settled y) (λ d. and_then (own u d) settled)
settled_sleeps u y quiet = by y.pending_store
  where
    settled_by : Option PendingStore → Prog Core
    settled_by pending_store = settled (record { core = y.core; pending_store = pending_store })

    by : (pending_store : Option PendingStore) → settled_by pending_store ≡ and_then (settled_by pending_store) (λ d.
        and_then (own u d) settled)
    by None = sym (ap (λ p. and_then p settled) quiet)
    by (Some o) = sym (ap (λ p. set o.word o.value (and_then p settled)) quiet)

pub all_of_it : (u : ℕ) (p : Prog Acted) → Leaves (λ y. Sleeps u y.core.plain) p → and_then p settled
    ≡ and_then (and_then p settled) (λ d. and_then (own u d) settled)
all_of_it u p sleeps =
    then_same settled (λ y. and_then (settled y) (λ d. and_then (own u d) settled)) p
    (leaves_map (λ (y : Acted). Sleeps u y.core.plain) (λ y. settled y
    ≡ and_then (settled y) (λ d. and_then (own u d) settled)) (λ y h. settled_sleeps u y (asleep y.core u h)) p
    sleeps)
    ∙ sym (in_line p settled (λ d. and_then (own u d) settled))

-- ---- a bundle

-- after its bundle, a core that sleeps has nothing to do in the rest of the cycle, and one that has words to move may
-- move the first of them
abbrev pub Follows : ℕ → Acted → Type 0
Follows u y = (Sleeps u y.core.plain × (is_due u y.core.plain ≡ false))
    ⊎ ((y.pending_store ≡ None) × ((y.core.plain.status ≡ Running) × (0 < y.core.plain.transfer.words)))

follows_on : (u : ℕ) (y : Acted) → Follows u y → and_then (slot_step u y) settled
    ≡ and_then (settled y) (λ d. and_then (own u d) settled)
follows_on u y (inl still) =
    ap (λ p. and_then p settled) (slot_waits y u still.1) ∙ settled_sleeps u y (asleep y.core u still.0)
follows_on u y (inr moving) =
    subst (λ o. and_then (slot_step u (record { core = y.core; pending_store = o })) settled
    ≡ and_then (settled (record { core = y.core; pending_store = o })) (λ d. and_then (own u d) settled))
    (sym moving.0) at_once
  where
    at_once : and_then (slot_step u (record { core = y.core; pending_store = None })) settled
        ≡ and_then (own u y.core) settled
    at_once = ap (λ p. and_then p settled) (sym (busy_own y.core u (moving_runs y.core.plain moving.1.0 moving.1.1)
        (not_free y.core.plain u moving.1.1)))

pub running_own : (c : Core) (u : ℕ) → is_running c.plain ≡ true → own u c
    ≡ and_then (if_running (bundle_step u) (flowed u c)) (slot_step u)
running_own c u runs = ap (λ b. elim b as (λ _. Prog Acted) [
  | true ↦ and_then (if_running (bundle_step u) (flowed u c)) (slot_step u)
  | false ↦ now c
]) runs

-- a flow that is not due does not take effect
pub flow_stays : (c : Core) (u : ℕ) → is_due_flow c.plain.flow ≡ false → flowed u c ≡ c
unfolding flowed
flow_stays c u not_due = by (is_free u c.plain)
  where
    kept : (flow : Option Flow) → is_due_flow flow ≡ false
        → elim flow as (λ _. Core) [
          | None ↦ c
          | Some f ↦ elim (f.slots == 0) as (λ _. Core)
              [ true ↦ taken u f.goal c | false ↦ c ]
        ] ≡ c
    kept None e = refl
    kept (Some f) e = ap (λ b. elim b as (λ _. Core) [ true ↦ taken u f.goal c | false ↦ c ]) e

    by : (b : Bool) → elim b as (λ _. Core) [
      | true ↦ elim c.plain.flow as (λ _. Core) [
        | None ↦ c
        | Some f ↦ elim (f.slots == 0) as (λ _. Core) [ true ↦ taken u f.goal c | false ↦ c ]
      ]
      | false ↦ c
    ] ≡ c
    by true = kept c.plain.flow not_due
    by false = refl

bundle_own : (c : Core) (u : ℕ) → is_running c.plain ≡ true → is_free u c.plain ≡ true → is_due_flow c.plain.flow
    ≡ false → own u c ≡ and_then (bundle u c) (slot_step u)
bundle_own c u runs free not_due =
    running_own c u runs
    ∙ ap (λ d. and_then (if_running (bundle_step u) d) (slot_step u)) (flow_stays c u not_due)
    ∙ ap (λ b. and_then (elim b as (λ _. Prog Acted) [ true ↦ bundle_step u c | false ↦ now c ]) (slot_step u)) runs
    ∙ ap (λ b. and_then (elim b as (λ _. Prog Acted) [ true ↦ bundle u c | false ↦ now c ]) (slot_step u)) free

-- the core's act in the cycle is its bundle, and then what is left of it
pub bundle_first : (c : Core) (u : ℕ) → is_running c.plain ≡ true → is_free u c.plain ≡ true
    → is_due_flow c.plain.flow ≡ false
    → Leaves (Follows u) (bundle u c) → and_then (own u c) settled ≡ and_then (and_then (bundle u c) settled) (λ d.
    and_then (own u d) settled)
bundle_first c u runs free not_due follows =
    ap (λ p. and_then p settled) (bundle_own c u runs free not_due)
    ∙ in_line (bundle u c) (slot_step u) settled
    ∙ then_same (λ y. and_then (slot_step u y) settled) (λ y. and_then (settled y) (λ d. and_then (own u d) settled))
    (bundle u c)
    (leaves_map (Follows u) (λ y. and_then (slot_step u y) settled
    ≡ and_then (settled y) (λ d. and_then (own u d) settled)) (follows_on u) (bundle u c) follows)
    ∙ sym (in_line (bundle u c) settled (λ d. and_then (own u d) settled))

-- ---- a flow that takes effect

-- how a flow takes effect, and with what events: not at all; by a trap; or it goes to a place
pub data Lands (u : ℕ) (c d : Core) (events : List Event) : Type 0 where
  stays : d ≡ c → events ≡ [] → is_free u c.plain ≡ false ⊎ (is_due_flow c.plain.flow ≡ false) → Lands u c d events
  halts : is_free u c.plain ≡ true → d ≡ with_plain (stopped trap.Flow u) c → events ≡ [] → Lands u c d events
  goes : (goal : Goal) → is_free u c.plain ≡ true → d ≡ gone goal c → events ≡ goal_event goal c.plain
      → Lands u c d events

pub lands : (c : Core) (u : ℕ) → Lands u c (flowed u c) (flow_event u c.plain)
unfolding flowed
lands c u = by_free (is_free u c.plain) refl
  where
    by_place : (goal : Goal) (b : Bool) → is_free u c.plain ≡ true
        → Lands u c (elim b as (λ _. Core) [ true ↦ gone goal c | false ↦ with_plain (stopped trap.Flow u) c ])
        (elim b as (λ _. List Event) [ true ↦ goal_event goal c.plain | false ↦ [] ])
    by_place goal true free = goes goal free refl refl
    by_place goal false free = halts free refl refl

    by_slots : (f : Flow) (b : Bool) → is_free u c.plain ≡ true → c.plain.flow ≡ Some f → (f.slots == 0) ≡ b
        → Lands u c (elim b as (λ _. Core) [ true ↦ taken u f.goal c | false ↦ c ])
        (elim b as (λ _. List Event) [
          | true ↦ elim (is_placed f.goal c.plain) as (λ _. List Event)
              [ true ↦ goal_event f.goal c.plain | false ↦ [] ]
          | false ↦ []
        ])
    by_slots f true free flow due = by_place f.goal (is_placed f.goal c.plain) free
    by_slots f false free flow due = stays refl refl (inr (ap is_due_flow flow ∙ due))

    by_flow : (flow : Option Flow) → is_free u c.plain ≡ true → c.plain.flow ≡ flow
        → Lands u c (elim flow as (λ _. Core) [
          | None ↦ c
          | Some f ↦ elim (f.slots == 0) as (λ _. Core)
              [ true ↦ taken u f.goal c | false ↦ c ]
        ])
        (elim flow as (λ _. List Event) [
          | None ↦ []
          | Some f ↦ elim (f.slots == 0) as (λ _. List Event) [
            | true ↦ elim (is_placed f.goal c.plain) as (λ _. List Event) [
              | true ↦ goal_event f.goal c.plain
              | false ↦
                  []
            ]
            | false ↦ []
          ]
        ])
    by_flow None free is = stays refl refl (inr (ap is_due_flow is))
    by_flow (Some f) free is = by_slots f (f.slots == 0) free is refl

    by_free : (b : Bool) → is_free u c.plain ≡ b
        → Lands u c (elim b as (λ _. Core) [
          | true ↦ elim c.plain.flow as (λ _. Core) [
            | None ↦ c
            | Some f ↦
                elim (f.slots == 0) as (λ _. Core) [ true ↦ taken u f.goal c | false ↦ c ]
          ]
          | false ↦ c
        ])
        (elim b as (λ _. List Event) [
          | true ↦ elim c.plain.flow as (λ _. List Event) [
            | None ↦ []
            | Some f ↦ elim (f.slots == 0) as (λ _. List Event) [
              | true ↦ elim (is_placed f.goal c.plain) as (λ _. List Event) [
                | true ↦ goal_event f.goal c.plain
                | false ↦
                    []
              ]
              | false ↦ []
            ]
          ]
          | false ↦ []
        ])
    by_free true free = by_flow c.plain.flow free refl
    by_free false busy = stays refl refl (inl busy)

-- what is left where a goal is
pub gone_status : (goal : Goal) (c : Core) → (gone goal c).plain.status ≡ c.plain.status
gone_status (Within offset) c = refl
gone_status _ c = refl

pub gone_flow : (goal : Goal) (c : Core) → (gone goal c).plain.flow ≡ None
gone_flow (Within offset) c = refl
gone_flow _ c = refl

pub running_status : (x : Plain) → is_running x ≡ true → x.status ≡ Running
running_status x runs = by x.status runs
  where
    by : (s : Status) → elim s as (λ _. Bool) [ Idle ↦ false | Running ↦ not (has_ended x) | Trapped t at ↦ false ]
        ≡ true → s ≡ Running
    by Idle e = absurd (let bad : false ≡ true = e in cc)
    by Running e = refl
    by (Trapped t at) e = absurd (let bad : false ≡ true = e in cc)

-- a core with a task and no flow runs
pub flowless_runs : (x : Plain) → x.status ≡ Running → x.flow ≡ None → is_running x ≡ true
flowless_runs x status flow =
    ap (λ (s : Status). elim s as (λ _. Bool) [ Idle ↦ false | Running ↦ not (has_ended x) | Trapped t at ↦ false ])
    status
    ∙ ap (λ (o : Option Flow). not (elim o as (λ _. Bool) [
      | None ↦ false
      | Some f ↦ is_end f
          && (x.transfer.words == 0)
    ])) flow

pub gone_runs : (goal : Goal) (c : Core) → is_running c.plain ≡ true → is_running (gone goal c).plain ≡ true
gone_runs goal c runs =
    flowless_runs (gone goal c).plain (gone_status goal c ∙ running_status c.plain runs) (gone_flow goal c)

pub gone_stays : (goal : Goal) (c : Core) (u : ℕ) → flowed u (gone goal c) ≡ gone goal c
gone_stays goal c u = flow_stays (gone goal c) u (ap is_due_flow (gone_flow goal c))

free_words : (x : Plain) (u : ℕ) → is_free u x ≡ true → x.transfer.words ≡ 0
free_words x u free = eqb-true x.transfer.words 0 (and_parts (x.transfer.words == 0) (x.free == u) free).0

pub idle_not_due : (x : Plain) (u : ℕ) → x.transfer.words ≡ 0 → is_due u x ≡ false
idle_not_due x u none = none_left (nat_lt 0 x.transfer.words)
    (nat_le x.free u && is_slot_start x.site.table x.site.slot x.site.core u) (ap (nat_lt 0) none)

-- the act of the cycle goes on from where the flow has taken effect, and none is due again
pub record GoesOnLanded (u : ℕ) (c : Core) : Type 0 where
  pub act : own u (landed u c) ≡ own u c
  pub still : landed u (landed u c) ≡ landed u c

goes_on_at : (u : ℕ) (c d : Core) → landed u c ≡ d → own u d ≡ own u c → landed u d ≡ d → GoesOnLanded u c
goes_on_at u c d is act still = record { act = ap (own u) is ∙ act; still = ap (landed u) is ∙ still ∙ sym is }

halted_act : (u : ℕ) (c d : Core) → is_running c.plain ≡ true → is_running d.plain ≡ false → d.plain.transfer.words ≡ 0
    → flowed u c ≡ d → own u d ≡ own u c
halted_act u c d runs halted words is =
    stopped_own d u halted
    ∙ sym (running_own c u runs
    ∙ ap (λ e. and_then (if_running (bundle_step u) e) (slot_step u)) is
    ∙ ap (λ b. and_then (elim b as (λ _. Prog Acted) [ true ↦ bundle_step u d | false ↦ now d ]) (slot_step u)) halted
    ∙ slot_waits (record { core = d; pending_store = None }) u (idle_not_due d.plain u words))

gone_act : (u : ℕ) (c d : Core) → is_running c.plain ≡ true → is_running d.plain ≡ true → flowed u d ≡ d → flowed u c
    ≡ d → own u d ≡ own u c
gone_act u c d runs runs_on keeps is =
    running_own d u runs_on
    ∙ ap (λ e. and_then (if_running (bundle_step u) e) (slot_step u)) (keeps ∙ sym is)
    ∙ sym (running_own c u runs)

pub landed_first : (c : Core) (u : ℕ) → GoesOnLanded u c
landed_first c u = by (is_running c.plain) refl
  where
    running : is_running c.plain ≡ true → Lands u c (flowed u c) (flow_event u c.plain) → GoesOnLanded u c
    running runs (stays is none not_due) =
        goes_on_at u c c (landed_running c u runs ∙ is) refl (landed_running c u runs ∙ is)
    running runs (halts free is none) =
        let d : Core = with_plain (stopped trap.Flow u) c in
        goes_on_at u c d (landed_running c u runs ∙ is) (halted_act u c d runs refl (free_words c.plain u free) is)
        (landed_stopped d u refl)
    running runs (goes goal free is event) =
        let runs_on : is_running (gone goal c).plain ≡ true = gone_runs goal c runs in
        goes_on_at u c (gone goal c) (landed_running c u runs ∙ is) (gone_act u c (gone goal c) runs runs_on
        (gone_stays goal c u) is)
        (landed_running (gone goal c) u runs_on ∙ gone_stays goal c u)

    by : (b : Bool) → is_running c.plain ≡ b → GoesOnLanded u c
    by false still = goes_on_at u c c (landed_stopped c u still) refl (landed_stopped c u still)
    by true runs = running runs (lands c u)
