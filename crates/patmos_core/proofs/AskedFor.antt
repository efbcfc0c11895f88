-- What a part of a cycle asks for, and the event of it.
use Rattle.std.proofs.Common.{◌≡◌, ℕ, zero, suc, ◌+◌, List, [], ◌∷◌, ◌++◌, take, Option, None, Some, refl, sym, ap, ◌∙◌, subst, inl, inr, length, set}
use Rattle.std.proofs.lemmas.Bool.{cases_lt, cases_eq}
use Rattle.std.proofs.lemmas.List.{set_past, get_or-set_same, get_or-set_other}
use Rattle.slot_arbiter.specs.Stamp.{stamp}
use Rattle.slot_arbiter.specs.declared.event.Event.{Event}
use Rattle.slot_arbiter.specs.declared.event.WordOp.{WordOp}
use Rattle.shared_order.specs.Operation.{load, store}
use Rattle.shared_order.specs.Program.{Prog, done, and_then, gets, sets, first, others, fed}
use Rattle.shared_order.specs.Event.{filled}
use Rattle.argo_ni.specs.declared.port.Port.{Port}
use Rattle.argo_ni.specs.Port.{port_at, unused}
use Rattle.argo_ni.specs.Interface.{Interface, port_to}
use Rattle.argo_ni.specs.Packet.{comm_word}
use Rattle.argo_ni.specs.Turn.{delivered, injected, moved_on, target_at}
use Rattle.argo_ni.specs.Event.{IsDelivery}
use Rattle.patmos_core.specs.declared.phase.Phase.{Phase}
use Rattle.patmos_core.specs.declared.phase.Phase.TheVariants.{Delivery, Act}
use Rattle.patmos_model.specs.State.{Core}
use Rattle.patmos_model.specs.declared.pending_store.PendingStore.{PendingStore}
use Rattle.patmos_step.specs.declared.ask.Ask.{Ask}
use Rattle.patmos_step.specs.declared.ask.Ask.TheVariants as asks
use Rattle.patmos_core.specs.declared.window.Window.{Window}
use Rattle.patmos_step.specs.Asks.{FollowsAsk, LeavesPending, StoresTo, loading, ops_of}
use Rattle.patmos_step.specs.Ready.{HasRegisters}
use Rattle.patmos_model.specs.Cycle.{with_interface, own, acted}
use Rattle.patmos_step.proofs.Asked.{asked_ops, asked_pending}
use Rattle.patmos_core.specs.Events.{stores_from, loads_from, asked_of, window_asks, last_of, EndsBefore, SendsIn}
use Rattle.patmos_core.specs.Waiting.{AsksIn, LeavesIn, stamp_phase}

-- stores one after another ask for themselves
sets_ask : (s word : ℕ) (vs : List ℕ) (i : Interface) (y : Core) (values : List ℕ)
    → (fed s (and_then (sets word vs (done i)) (λ i. done (with_interface y i))) values).ops
    ≡ filled s (stores_from word vs) values
sets_ask s word [] i y values = refl
sets_ask s word (v ∷ vs) i y values = ap (λ os. store s word v ∷ os) (sets_ask s (word + 1) vs i y values)

pub delivery_asks : (cycle : ℕ) (y : Core) (e : Event) (target first count : ℕ) (vs : List ℕ) (phase : Phase)
    → phase ≡ Delivery
    → IsDelivery y.plain.interface cycle target first count vs → asked_of e
    ≡ stores_from (comm_word target first) (take count vs) → AsksIn phase cycle y e
delivery_asks cycle y e target first count vs phase is packet asks = subst (λ p. AsksIn p cycle y e) (sym is) (λ values.
    ap (λ p. (fed e.stamp (and_then p (λ i. done (with_interface y i))) values).ops) packet.program
    ∙ sets_ask e.stamp (comm_word target first) (take count vs) (delivered cycle y.plain.interface) y values
    ∙ ap (λ acts. filled e.stamp acts values) (sym asks))

-- the stamp of the event of a part
pub stamp_of_phase : (n core cycle number s : ℕ) (phase : Phase) → stamp_phase phase ≡ number → s
    ≡ stamp n core cycle number → s ≡ stamp n core cycle (stamp_phase phase)
stamp_of_phase n core cycle number s phase is h = h ∙ ap (stamp n core cycle) (sym is)

-- loads one after another, and then what the rest asks for
gets_ask : {X Y : Type 0} (s count word : ℕ) (h : List ℕ → X) (rest : X → Prog Y) (acts : List WordOp)
    → ((vs values : List ℕ) → (fed s (rest (h vs)) values).ops ≡ filled s acts values)
    → (values : List ℕ) → (fed s (and_then (gets count word (λ vs. done (h vs))) rest) values).ops
    ≡ filled s (loads_from word count ++ acts) values
gets_ask s zero word h rest acts asks values = asks [] values
gets_ask s (suc count) word h rest acts asks values =
    ap (λ os. load s word (first values) ∷ os)
    (gets_ask s count (word + 1) (λ vs. h (first values ∷ vs)) rest acts (λ vs. asks (first values ∷ vs))
    (others values))

-- a packet that is sent leaves the registers as they are
registers_stay : (ports : List Port) (t d : ℕ) (port : Port) → port.source ≡ (port_at ports t).source → port.target
    ≡ (port_at ports t).target
    → ((port_at (set ports t port) d).source ≡ (port_at ports d).source) × ((port_at (set ports t port) d).target
    ≡ (port_at ports d).target)
registers_stay ports t d port source target = elim (cases_lt t (length ports)) [
  | inr past ↦ let same : set ports t port ≡ ports =
      set_past ports t port past in (ap (λ ps. (port_at ps d).source) same, ap (λ ps. (port_at ps d).target) same)
  | inl below ↦ elim (cases_eq d t) [
    | inl own ↦ let same : port_at (set ports t port) d ≡ port =
        ap (port_at (set ports t port)) own ∙ get_or-set_same ports t port unused below in (
          ap (λ p. p.source) same ∙ source ∙ ap (λ i. (port_at ports i).source) (sym own),
          ap (λ p. p.target) same
              ∙ target ∙ ap (λ i. (port_at ports i).target) (sym own),
        )
    | inr other ↦ let same : port_at (set ports t port) d ≡ port_at ports d =
        get_or-set_other ports t d port unused other in
        (ap (λ p. p.source) same, ap (λ p. p.target) same)
  ]
]

pub injected_registers : (cycle : ℕ) (vs : List ℕ) (x : Interface) → HasRegisters (injected cycle vs x) x
injected_registers cycle vs x = record {
  cores = refl;
  core = refl;
  source = λ d. (registers_stay x.ports (target_at x cycle) d (moved_on (port_to x (target_at x cycle))) refl refl).0;
  target = λ d. (registers_stay x.ports (target_at x cycle) d (moved_on (port_to x (target_at x cycle))) refl refl).1;
}

pub same_registers : (x : Interface) → HasRegisters x x
same_registers x = record { cores = refl; core = refl; source = λ d. refl; target = λ d. refl }

-- the second phase asks for the packet of its window, and then for what the core's own act does
act_asks_so : (cycle : ℕ) (y : Core) (s : ℕ) (window : Option Window) (ask : Ask)
    → SendsIn y.plain.interface cycle window
    → ((i : Interface) → HasRegisters i y.plain.interface → FollowsAsk ask (own cycle (with_interface y i)))
    → y.plain.interface.core ≡ y.plain.site.core
    → (values : List ℕ) → (fed s (acted cycle y) values).ops ≡ filled s (window_asks y.plain.site.core window
    ++ ops_of ask) values
act_asks_so cycle y s None ask sends follows port values =
    ap (λ p. (fed s (and_then p (λ i. own cycle (with_interface y i))) values).ops) sends
    ∙ asked_ops ask (own cycle y) s values (follows y.plain.interface (same_registers y.plain.interface))
act_asks_so cycle y s (Some w) ask sends follows port values =
    ap (λ p. (fed s (and_then p (λ i. own cycle (with_interface y i))) values).ops) sends.program
    ∙ gets_ask s w.count (comm_word y.plain.interface.core w.first) (λ vs. injected cycle vs y.plain.interface) (λ i.
    own cycle (with_interface y i)) (ops_of ask)
    (λ vs more. asked_ops ask (own cycle (with_interface y (injected cycle vs y.plain.interface))) s more
    (follows (injected cycle vs y.plain.interface) (injected_registers cycle vs y.plain.interface))) values
    ∙ ap (λ core. filled s (loads_from (comm_word core w.first) w.count ++ ops_of ask) values) port

pub act_asks : (cycle : ℕ) (y : Core) (e : Event) (window : Option Window) (ask : Ask) (phase : Phase) → phase ≡ Act
    → SendsIn y.plain.interface cycle window
    → ((i : Interface) → HasRegisters i y.plain.interface → FollowsAsk ask (own cycle (with_interface y i)))
    → y.plain.interface.core ≡ y.plain.site.core → asked_of e ≡ window_asks y.plain.site.core window ++ ops_of ask
    → AsksIn phase cycle y e
act_asks cycle y e window ask phase is sends follows port asks = subst (λ p. AsksIn p cycle y e) (sym is)
    (λ values. act_asks_so cycle y e.stamp window ask sends follows port values
    ∙ ap (λ acts. filled e.stamp acts values) (sym asks))

-- ---- what it leaves

-- what is left after the loads is what the rest leaves
gets_leave : {X Y : Type 0} (Is : Y → Type 0) (s count word : ℕ) (h : List ℕ → X) (rest : X → Prog Y)
    → ((vs values : List ℕ) → Is (fed s (rest (h vs)) values).core)
    → (values : List ℕ) → Is (fed s (and_then (gets count word (λ vs. done (h vs))) rest) values).core
gets_leave Is s zero word h rest leaves values = leaves [] values
gets_leave Is s (suc count) word h rest leaves values =
    gets_leave Is s count (word + 1) (λ vs. h (first values ∷ vs)) rest (λ vs. leaves (first values ∷ vs))
    (others values)

-- the store that is pending after the second phase is that of the core's own act
act_pending : (cycle : ℕ) (y : Core) (s : ℕ) (window : Option Window) (ask : Ask)
    → SendsIn y.plain.interface cycle window
    → ((i : Interface) → HasRegisters i y.plain.interface → FollowsAsk ask (own cycle (with_interface y i)))
    → (values : List ℕ) → LeavesPending ask (fed s (acted cycle y) values).core.pending_store
act_pending cycle y s None ask sends follows values =
    subst (λ p. LeavesPending ask (fed s (and_then p (λ i. own cycle (with_interface y i))) values).core.pending_store)
    (sym sends)
    (asked_pending ask (own cycle y) s values (follows y.plain.interface (same_registers y.plain.interface)))
act_pending cycle y s (Some w) ask sends follows values =
    subst (λ p. LeavesPending ask (fed s (and_then p (λ i. own cycle (with_interface y i))) values).core.pending_store)
    (sym sends.program)
    (gets_leave (λ a. LeavesPending ask a.pending_store) s w.count (comm_word y.plain.interface.core w.first)
    (λ vs. injected cycle vs y.plain.interface) (λ i. own cycle (with_interface y i))
    (λ vs more. asked_pending ask (own cycle (with_interface y (injected cycle vs y.plain.interface))) s more
    (follows (injected cycle vs y.plain.interface) (injected_registers cycle vs y.plain.interface))) values)

last_of_end : (acts : List WordOp) (o : WordOp) → last_of (acts ++ o ∷ []) ≡ Some o
last_of_end [] o = refl
last_of_end (a ∷ []) o = refl
last_of_end (a ∷ b ∷ acts) o = last_of_end (b ∷ acts) o

none_pending : (e : Event) (pending_store : Option PendingStore) → pending_store ≡ None → EndsBefore e pending_store
none_pending e pending_store none = subst (EndsBefore e) (sym none) tt

pending_word : (e : Event) (acts : List WordOp) (word : ℕ) (pending_store : Option PendingStore) → asked_of e ≡ acts
    ++ loading word ∷ [] → StoresTo word pending_store → EndsBefore e pending_store
pending_word e acts word None asks leaves = absurd leaves
pending_word e acts word (Some o) asks leaves =
    ap last_of asks ∙ last_of_end acts (loading word) ∙ ap (λ w. Some (loading w)) (sym leaves)

-- a store is pending only where a part of a word is stored, whose load comes last
ends_before : (e : Event) (acts : List WordOp) (ask : Ask) (pending_store : Option PendingStore) → asked_of e ≡ acts
    ++ ops_of ask → LeavesPending ask pending_store → EndsBefore e pending_store
ends_before e acts (asks.Change word) pending_store is leaves = pending_word e acts word pending_store is leaves
ends_before e acts _ pending_store is leaves = none_pending e pending_store leaves

pub act_leaves : (cycle : ℕ) (y : Core) (e : Event) (window : Option Window) (ask : Ask) (phase : Phase) → phase ≡ Act
    → SendsIn y.plain.interface cycle window
    → ((i : Interface) → HasRegisters i y.plain.interface → FollowsAsk ask (own cycle (with_interface y i)))
    → asked_of e ≡ window_asks y.plain.site.core window ++ ops_of ask → LeavesIn phase cycle y e
act_leaves cycle y e window ask phase is sends follows asks = subst (λ p. LeavesIn p cycle y e) (sym is)
    (λ values. ends_before e (window_asks y.plain.site.core window) ask
    (fed e.stamp (acted cycle y) values).core.pending_store asks (act_pending cycle y e.stamp window ask sends
    follows values))

-- the first phase leaves nothing
pub delivery_leaves : (cycle : ℕ) (y : Core) (e : Event) (phase : Phase) → phase ≡ Delivery → LeavesIn phase cycle y e
delivery_leaves cycle y e phase is = subst (λ p. LeavesIn p cycle y e) (sym is) tt

-- the second phase is no delivery
pub not_delivery : (phase : Phase) → phase ≡ Act → phase ≡ Delivery → ⊥
not_delivery phase act is = cc
