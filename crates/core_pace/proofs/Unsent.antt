-- The task's own part of a cycle does not look at the packets that are under way.
use Rattle.std.proofs.Common.{◌≡◌, ℕ, ◌+◌, ◌==◌, Bool, true, false, List, [], ◌∷◌, ◌++◌, length, Option, None, Some, refl, sym, ap, ◌∙◌}
use Rattle.shared_order.specs.Program.{Prog, done, get, set, and_then}
use Rattle.data_cache.specs.Accesses as cache
use Rattle.local_store.specs.declared.map.Space.TheVariants.{Local, Main}
use Rattle.local_store.specs.declared.map.Cell.{Cell}
use Rattle.local_store.specs.declared.map.Cell.TheVariants as cell
use Rattle.argo_ni.specs.declared.event.Started.{Started}
use Rattle.argo_ni.specs.declared.event.Started.TheVariants.{Begun, Dropped, Refused}
use Rattle.argo_ni.specs.Interface.{Interface, port_to}
use Rattle.argo_ni.specs.Packet.{comm_word}
use Rattle.argo_ni.specs.Start.{answer_to, started_by, started}
use Rattle.patmos_instr.specs.declared.functions.StackFunc.{StackFunc}
use Rattle.patmos_instr.specs.declared.functions.StackFunc.TheVariants.{Sres, Sens, Sfree}
use Rattle.patmos_instr.specs.declared.memories.Mem.TheVariants as mem
use Rattle.patmos_instr.specs.declared.memories.Width.{Width}
use Rattle.patmos_instr.specs.declared.memories.StoreWidth.{StoreWidth}
use Rattle.patmos_instr.specs.declared.memories.StoreWidth.TheVariants as store
use Rattle.patmos_sem.specs.declared.effects.Effect.{Effect}
use Rattle.patmos_sem.specs.declared.effects.Effect.TheVariants as effect
use Rattle.patmos_sem.specs.Bundles.{effect_of}
use Rattle.patmos_model.specs.declared.fetched.Fetched.{Fetched}
use Rattle.patmos_model.specs.declared.fetched.Fetched.TheVariants.{Outside, NoBundle, Found}
use Rattle.patmos_model.specs.declared.flow.Flow.{Flow}
use Rattle.patmos_model.specs.declared.flow.Goal.{Goal}
use Rattle.patmos_model.specs.declared.flow.Goal.TheVariants.{Within, Call, Fill, Return}
use Rattle.patmos_model.specs.declared.pending_store.PendingStore.{PendingStore}
use Rattle.patmos_model.specs.declared.transfer.Transfer.{Transfer}
use Rattle.patmos_model.specs.declared.transfer.Then.{Then}
use Rattle.patmos_model.specs.declared.transfer.Then.TheVariants as then_on
use Rattle.patmos_model.specs.declared.trap.Trap.{Trap}
use Rattle.patmos_model.specs.declared.trap.Trap.TheVariants as trap
use Rattle.patmos_model.specs.State.{Plain, Core, with_plain, stopped, is_running, is_free}
use Rattle.patmos_model.specs.Transfers.{reads, writes}
use Rattle.patmos_model.specs.Flows.{flowed, taken, gone, is_placed}
use Rattle.patmos_model.specs.Cells.{Acted, now, cell_of, reading, reading_line, no_line, writing, storing, port_set, with_value}
use Rattle.patmos_model.specs.Checks.{fault_of}
use Rattle.patmos_model.specs.Bundle.{ends, moves, advanced, with_words, refilled, stacked, cache_loaded, answered, done_as, bundle}
use Rattle.patmos_model.specs.Transaction.{counted, moved, with_store, line_taken, line_address, transaction_then, transaction, is_due}
use Rattle.patmos_model.specs.Cycle.{own, bundle_step, slot_step, if_running, settled}
use Rattle.patmos_model.proofs.Acts.{with_start, port_by}
use Rattle.patmos_model.proofs.Leaves.{Leaves}
use Rattle.stack_cache.specs.Stack.{reserved, spilled, missing}
use Rattle.patmos_model.proofs.Parts.{in_line}
use Rattle.core_pace.specs.Task.{no_packets, unsent}
use Rattle.core_pace.proofs.Parts.{then_same}

-- what is left by an act, without packets
abbrev pub unsent_act : Acted → Acted
unsent_act y = record y { core = unsent y.core }

-- a program that does so, and then leaves the core without packets
abbrev pub Forgets : Prog Acted → Prog Acted → Type 0
Forgets q p = q ≡ and_then p (λ y. done (unsent_act y))

leaves_all : {X : Type 0} (P : X → Type 0) → ((x : X) → P x) → (p : Prog X) → Leaves P p
leaves_all P h (done x) = h x
leaves_all P h (get word go_on) = λ value. leaves_all P h (go_on value)
leaves_all P h (set word value rest) = leaves_all P h rest

-- ---- cells

forgets_reading : (place : Option Cell) (c : Core) (go_on go_on' : ℕ → Prog Acted)
    → ((word : ℕ) → Forgets (go_on' word) (go_on word)) → Forgets (reading place (unsent c).plain go_on')
    (reading place c.plain go_on)
forgets_reading None c go_on go_on' h = h 0
forgets_reading (Some (cell.Scratch word)) c go_on go_on' h = h (c.plain.scratch word)
forgets_reading (Some (cell.Private word)) c go_on go_on' h = h (c.plain.private word)
forgets_reading (Some (cell.Comm word)) c go_on go_on' h =
    λ i. get (comm_word c.plain.site.core word) (λ value. h value i)
forgets_reading (Some (cell.Shared word)) c go_on go_on' h = λ i. get word (λ value. h value i)
forgets_reading (Some (cell.Port core register)) c go_on go_on' h = h (port_to c.plain.interface core).channel.left

forgets_line : (place : Option Cell) (c : Core) (go_on go_on' : List ℕ → Prog Acted)
    → ((words : List ℕ) → Forgets (go_on' words) (go_on words)) → Forgets (reading_line place (unsent c).plain go_on')
    (reading_line place c.plain go_on)
forgets_line (Some (cell.Private word)) c go_on go_on' h =
    h (c.plain.private word ∷ c.plain.private (word + 1) ∷ c.plain.private (word + 2) ∷ c.plain.private (word + 3) ∷ [])
forgets_line (Some (cell.Shared word)) c go_on go_on' h =
    λ i. get word
    (λ a. get (word + 1) (λ b. get (word + 1 + 1) (λ d. get (word + 1 + 1 + 1) (λ e. h (a ∷ b ∷ d ∷ e ∷ []) i))))
forgets_line _ c go_on go_on' h = h no_line

forgets_storing : (word : ℕ) (width : StoreWidth) (address value : ℕ) (c : Core)
    → Forgets (storing word width address value (unsent c)) (storing word width address value c)
forgets_storing word store.Word address value c = refl
forgets_storing word store.Half address value c = refl
forgets_storing word store.Byte address value c = refl

-- a start does not look at the packets
forgets_start : (target value : ℕ) (x : Interface) → started target value (no_packets x)
    ≡ no_packets (started target value x)
forgets_start target value x = by (answer_to (port_to x target) value)
  where
    by : (answer : Started) → started_by answer target value (no_packets x)
        ≡ no_packets (started_by answer target value x)
    by Begun = refl
    by Dropped = refl
    by Refused = refl

forgets_port : (target register value : ℕ) (c : Core) → port_set target register value (unsent c)
    ≡ unsent (port_set target register value c)
forgets_port target register value c = by (register == 0) (register == 4)
  where
    by : (b d : Bool) → port_by b d target value (unsent c) ≡ unsent (port_by b d target value c)
    by true d = refl
    by false true = refl
    by false false =
        ap (λ (i : Interface). let z : Core = with_start target value c in
        record z { plain = record z.plain { interface = i } }) (forgets_start target value c.plain.interface)

forgets_writing : (place : Option Cell) (width : StoreWidth) (address value : ℕ) (c : Core)
    → Forgets (writing place width address value (unsent c)) (writing place width address value c)
forgets_writing (Some (cell.Comm word)) width address value c =
    forgets_storing (comm_word c.plain.site.core word) width address value c
forgets_writing (Some (cell.Shared word)) width address value c = forgets_storing word width address value c
forgets_writing (Some (cell.Port target register)) width address value c = ap now (forgets_port target register value c)
forgets_writing _ width address value c = refl

-- ---- a bundle

forgets_moves : (t : Transfer) (u : ℕ) (c : Core) → with_plain (moves t u) (unsent c)
    ≡ unsent (with_plain (moves t u) c)
forgets_moves t u c = by (t.words == 0)
  where
    by : (b : Bool) → with_plain (λ x. elim b as (λ _. Plain) [ true ↦ ends u x | false ↦ record x { transfer = t } ])
        (unsent c)
        ≡ unsent (with_plain (λ x. elim b as (λ _. Plain) [ true ↦ ends u x | false ↦ record x { transfer = t } ]) c)
    by true = refl
    by false = refl

forgets_stacked : (func : StackFunc) (count u : ℕ) (c : Core) → with_plain (stacked func count u) (unsent c)
    ≡ unsent (with_plain (stacked func count u) c)
forgets_stacked Sres count u c =
    forgets_moves (writes (length (spilled count c.plain.stack)) then_on.Nothing) u (with_plain (λ x. record x {
      stack = reserved count x.stack;
      private = with_words (reserved count x.stack).ss (spilled count x.stack) x.private;
    }) c)
forgets_stacked Sens count u c = forgets_moves (reads (missing count c.plain.stack) then_on.Nothing) u
    (with_plain (λ x. record x { stack = refilled count x.private x.stack }) c)
forgets_stacked Sfree count u c = refl

forgets_cached : (rd : ℕ) (width : Width) (address u : ℕ) (c : Core) → cache_loaded rd width address u (unsent c)
    ≡ unsent (cache_loaded rd width address u c)
forgets_cached rd width address u c = by (cache.cached_word c.seen.cached address)
  where
    loaded_by : Option ℕ → Core → Core
    loaded_by found z = elim found as (λ _. Core) [
      | None ↦ with_plain (moves (reads 4 (then_on.Line rd width address)) u) z
      | Some word ↦ record {
        plain = ends u (with_value rd width address word z.plain);
        seen = record z.seen { cached = z.seen.cached ++ cache.Load address None ∷ [] };
      }
    ]

    by : (found : Option ℕ) → loaded_by found (unsent c) ≡ unsent (loaded_by found c)
    by None = refl
    by (Some word) = refl

forgets_answered : (asked : Effect) (u : ℕ) (c : Core) → Forgets (answered asked u (unsent c)) (answered asked u c)
forgets_answered (effect.Load mem.L width rd address) u c =
    forgets_reading (cell_of Local address) c
    (λ word. now (with_plain (λ x. ends u (with_value rd width address word x)) c))
    (λ word. now (with_plain (λ x. ends u (with_value rd width address word x)) (unsent c))) (λ word. refl)
forgets_answered (effect.Load mem.C width rd address) u c = ap now (forgets_cached rd width address u c)
forgets_answered (effect.Store mem.L width address value) u c =
    forgets_writing (cell_of Local address) width address value (with_plain (ends u) c)
forgets_answered (effect.StackOp func count) u c = ap now (forgets_stacked func count u c)
forgets_answered _ u c = refl

forgets_fault : (asked : Effect) (c : Core) → fault_of (unsent c).plain asked ≡ fault_of c.plain asked
unfolding fault_of
forgets_fault asked c = refl

forgets_done : (fetched : Fetched) (u : ℕ) (c : Core) → Forgets (done_as fetched u (unsent c)) (done_as fetched u c)
forgets_done Outside u c = refl
forgets_done NoBundle u c = refl
forgets_done (Found b words) u c =
    ap (λ f. elim f as (λ _. Prog Acted) [
      | None ↦ answered (effect_of b c.plain.regs) u (with_plain (advanced words b) (unsent c))
      | Some fault ↦ now (with_plain (stopped fault u) (unsent c))
    ]) (forgets_fault (effect_of b c.plain.regs) c)
    ∙ by (fault_of c.plain (effect_of b c.plain.regs))
  where
    performed_by : Option Trap → Core → Prog Acted
    performed_by f z = elim f as (λ _. Prog Acted) [
      | None ↦ answered (effect_of b c.plain.regs) u (with_plain (advanced words b) z)
      | Some fault ↦ now (with_plain (stopped fault u) z)
    ]

    by : (f : Option Trap) → Forgets (performed_by f (unsent c)) (performed_by f c)
    by None = forgets_answered (effect_of b c.plain.regs) u (with_plain (advanced words b) c)
    by (Some fault) = refl

-- ---- a transaction

forgets_stored : (kept : Bool) (width : StoreWidth) (address value u : ℕ) (c : Core)
    → ◌≡◌ {A = Core} (record {
      plain = moved u (unsent c).plain;
      seen = with_store kept width address value
          (counted u (unsent c)).seen;
    })
    (unsent (record { plain = moved u c.plain; seen = with_store kept width address value (counted u c).seen }))
forgets_stored true width address value u c = refl
forgets_stored false width address value u c = refl

forgets_transaction : (u : ℕ) (c : Core) → Forgets (transaction u (unsent c)) (transaction u c)
unfolding transaction
forgets_transaction u c = by c.plain.transfer.then
  where
    by : (moved_on : Then) → Forgets (transaction_then moved_on u (unsent c)) (transaction_then moved_on u c)
    by then_on.Nothing = refl
    by (then_on.Load rd width address) =
        forgets_reading (cell_of Main address) c (λ word. now (with_plain (with_value rd width address word)
        (counted u c)))
        (λ word. now (with_plain (with_value rd width address word) (counted u (unsent c)))) (λ word. refl)
    by (then_on.Line rd width address) =
        forgets_line (cell_of Main (line_address address)) c
        (λ words. now (line_taken rd width address words (counted u c)))
        (λ words. now (line_taken rd width address words (counted u (unsent c)))) (λ words. refl)
    by (then_on.Store kept width address value) =
        ap (writing (cell_of Main address) width address value) (forgets_stored kept width address value u c)
        ∙ forgets_writing (cell_of Main address) width address value (record {
          plain = moved u c.plain;
          seen = with_store kept width address value (counted u c).seen;
        })

forgets_slot : (u : ℕ) (y : Acted) → Forgets (slot_step u (unsent_act y)) (slot_step u y)
forgets_slot u y = by (is_due u y.core.plain)
  where
    by : (b : Bool) → Forgets (elim b as (λ _. Prog Acted) [
      | true ↦ transaction u (unsent y.core)
      | false ↦ done
          (unsent_act y)
    ])
        (elim b as (λ _. Prog Acted) [ true ↦ transaction u y.core | false ↦ done y ])
    by true = forgets_transaction u y.core
    by false = refl

-- ---- a flow

forgets_taken : (u : ℕ) (goal : Goal) (c : Core) → taken u goal (unsent c) ≡ unsent (taken u goal c)
forgets_taken u (Within offset) c = by (is_placed (Within offset) c.plain)
  where
    by : (b : Bool) → elim b as (λ _. Core) [
      | true ↦ gone (Within offset) (unsent c)
      | false ↦ with_plain
          (stopped trap.Flow u) (unsent c)
    ]
        ≡ unsent (elim b as (λ _. Core) [ true ↦ gone (Within offset) c | false ↦ with_plain (stopped trap.Flow u) c ])
    by true = refl
    by false = refl
forgets_taken u (Call target) c = by (is_placed (Call target) c.plain)
  where
    by : (b : Bool) → elim b as (λ _. Core) [
      | true ↦ gone (Call target) (unsent c)
      | false ↦ with_plain
          (stopped trap.Flow u) (unsent c)
    ]
        ≡ unsent (elim b as (λ _. Core) [ true ↦ gone (Call target) c | false ↦ with_plain (stopped trap.Flow u) c ])
    by true = refl
    by false = refl
forgets_taken u (Fill target) c = by (is_placed (Fill target) c.plain)
  where
    by : (b : Bool) → elim b as (λ _. Core) [
      | true ↦ gone (Fill target) (unsent c)
      | false ↦ with_plain
          (stopped trap.Flow u) (unsent c)
    ]
        ≡ unsent (elim b as (λ _. Core) [ true ↦ gone (Fill target) c | false ↦ with_plain (stopped trap.Flow u) c ])
    by true = refl
    by false = refl
forgets_taken u (Return base offset) c = by (is_placed (Return base offset) c.plain)
  where
    by : (b : Bool) → elim b as (λ _. Core) [
      | true ↦ gone (Return base offset) (unsent c)
      | false ↦ with_plain
          (stopped trap.Flow u) (unsent c)
    ]
        ≡ unsent (elim b as (λ _. Core) [
          | true ↦ gone (Return base offset) c
          | false ↦ with_plain
              (stopped trap.Flow u) c
        ])
    by true = refl
    by false = refl

forgets_flowed : (u : ℕ) (c : Core) → flowed u (unsent c) ≡ unsent (flowed u c)
unfolding flowed
forgets_flowed u c = by_free (is_free u c.plain)
  where
    flow_by : Option Flow → Core → Core
    flow_by flow z = elim flow as (λ _. Core) [
      | None ↦ z
      | Some f ↦ elim (f.slots == 0) as (λ _. Core)
          [ true ↦ taken u f.goal z | false ↦ z ]
    ]

    by_slots : (f : Flow) (b : Bool) → elim b as (λ _. Core) [ true ↦ taken u f.goal (unsent c) | false ↦ unsent c ]
        ≡ unsent (elim b as (λ _. Core) [ true ↦ taken u f.goal c | false ↦ c ])
    by_slots f true = forgets_taken u f.goal c
    by_slots f false = refl

    by_flow : (flow : Option Flow) → flow_by flow (unsent c) ≡ unsent (flow_by flow c)
    by_flow None = refl
    by_flow (Some f) = by_slots f (f.slots == 0)

    by_free : (b : Bool) → elim b as (λ _. Core) [ true ↦ flow_by c.plain.flow (unsent c) | false ↦ unsent c ]
        ≡ unsent (elim b as (λ _. Core) [ true ↦ flow_by c.plain.flow c | false ↦ c ])
    by_free true = by_flow c.plain.flow
    by_free false = refl

-- ---- the whole act

forgets_step : (u : ℕ) (c : Core) → Forgets (bundle_step u (unsent c)) (bundle_step u c)
forgets_step u c = by (is_free u c.plain)
  where
    by : (b : Bool) → Forgets (elim b as (λ _. Prog Acted) [ true ↦ bundle u (unsent c) | false ↦ now (unsent c) ])
        (elim b as (λ _. Prog Acted) [ true ↦ bundle u c | false ↦ now c ])
    by true = forgets_done _ u c
    by false = refl

forgets_if : (u : ℕ) (c : Core) → Forgets (if_running (bundle_step u) (unsent c)) (if_running (bundle_step u) c)
forgets_if u c = by (is_running c.plain)
  where
    by : (b : Bool) → Forgets (elim b as (λ _. Prog Acted) [ true ↦ bundle_step u (unsent c) | false ↦ now (unsent c) ])
        (elim b as (λ _. Prog Acted) [ true ↦ bundle_step u c | false ↦ now c ])
    by true = forgets_step u c
    by false = refl

forgets_both : (u : ℕ) (c : Core) → Forgets (and_then (if_running (bundle_step u) (flowed u (unsent c))) (slot_step u))
    (and_then (if_running (bundle_step u) (flowed u c)) (slot_step u))
forgets_both u c =
    let first : Prog Acted = if_running (bundle_step u) (flowed u c) in
    ap (λ d. and_then (if_running (bundle_step u) d) (slot_step u)) (forgets_flowed u c)
    ∙ ap (λ p. and_then p (slot_step u)) (forgets_if u (flowed u c))
    ∙ in_line first (λ y. done (unsent_act y)) (slot_step u)
    ∙ then_same (λ y. slot_step u (unsent_act y)) (λ y. and_then (slot_step u y) (λ z. done (unsent_act z))) first
    (leaves_all (λ y. slot_step u (unsent_act y) ≡ and_then (slot_step u y) (λ z. done (unsent_act z)))
    (forgets_slot u) first)
    ∙ sym (in_line first (slot_step u) (λ z. done (unsent_act z)))

pub forgets_own : (u : ℕ) (c : Core) → Forgets (own u (unsent c)) (own u c)
forgets_own u c = by (is_running c.plain)
  where
    by : (b : Bool)
        → Forgets (elim b as (λ _. Prog Acted) [
          | true ↦ and_then (if_running (bundle_step u) (flowed u (unsent c)))
              (slot_step u)
          | false ↦ now (unsent c)
        ])
        (elim b as (λ _. Prog Acted) [
          | true ↦ and_then (if_running (bundle_step u) (flowed u c))
              (slot_step u)
          | false ↦ now c
        ])
    by true = forgets_both u c
    by false = refl

-- with the store that was pending
settled_forgets : (y : Acted) → settled (unsent_act y) ≡ and_then (settled y) (λ d. done (unsent d))
settled_forgets y = by y.pending_store
  where
    by : (pending_store : Option PendingStore)
        → settled (record { core = unsent y.core; pending_store = pending_store })
        ≡ and_then (settled (record { core = y.core; pending_store = pending_store })) (λ d. done (unsent d))
    by None = refl
    by (Some o) = refl

pub forgets_act : (u : ℕ) (c : Core) → and_then (own u (unsent c)) settled ≡ and_then (and_then (own u c) settled) (λ d.
    done (unsent d))
forgets_act u c =
    ap (λ p. and_then p settled) (forgets_own u c)
    ∙ in_line (own u c) (λ y. done (unsent_act y)) settled
    ∙ then_same (λ y. settled (unsent_act y)) (λ y. and_then (settled y) (λ d. done (unsent d))) (own u c)
    (leaves_all (λ y. settled (unsent_act y) ≡ and_then (settled y) (λ d. done (unsent d))) settled_forgets (own u c))
    ∙ sym (in_line (own u c) settled (λ d. done (unsent d)))
