-- A core that is told what the loads of a part of its cycle gave.
use Rattle.std.proofs.Common.{◌≡◌, ℕ, zero, suc, ◌+◌, ◌*◌, ◌<◌, ◌≤◌, List, [], ◌∷◌, ◌++◌, drop, length, slice_index, Option, None, Some, IfSome, refl, sym, ap, ◌∙◌, subst, arith}
use Rattle.slot_arbiter.specs.Stamp.{stamp}
use Rattle.slot_arbiter.specs.declared.place.Place.{Place}
use Rattle.slot_arbiter.specs.declared.event.Event.{Event}
use Rattle.shared_order.specs.declared.operation.Operation.{Operation}
use Rattle.shared_order.specs.Event.{asked_by, IsAskedBy}
use Rattle.shared_order.specs.Program.{Prog, done, gets, Fed, fed, first}
use Rattle.shared_order.specs.Stamps.{act_at}
use Rattle.shared_order.specs.Stands.{Midway}
use Rattle.shared_order.proofs.Parts.{fed-then}
use Rattle.argo_ni.specs.Interface.{Interface, Standing}
use Rattle.argo_ni.specs.Turn.{delivery, injection, injected}
use Rattle.argo_ni.specs.Event.{half_of, IsNextAct, IsInjection}
use Rattle.argo_ni.specs.declared.event.NiEvent.{NiEvent}
use Rattle.patmos_model.specs.declared.pending_store.PendingStore.{PendingStore}
use Rattle.patmos_core.specs.declared.phase.Phase.{Phase}
use Rattle.patmos_core.specs.declared.phase.Phase.TheVariants.{Delivery, Act, Completion}
use Rattle.patmos_model.specs.State.{Core}
use Rattle.patmos_model.specs.Cycle.{with_interface, own, acted, settled, turn}
use Rattle.patmos_core.specs.Position.{IsThere}
use Rattle.patmos_core.specs.Progress.{TellsNext, cycle_after, phase_after}
use Rattle.patmos_step.specs.Ready.{IsUpTo}
use Rattle.patmos_core.specs.Waiting.{AsksIn, stamp_phase}
use Rattle.patmos_core.proofs.Moving.{delivery_resumed, act_resumed, completion_done, ends_cycle}
use Rattle.patmos_core.proofs.Stillness.{quiet_phase}

-- where a second phase leaves the core with this store pending
pub there_after : (n core : ℕ) (x : Core) (made : List Operation) (z : Core) (cycle : ℕ)
    (pending_store : Option PendingStore) → core < n
    → Midway (act_at turn n) n core x made (stamp n core cycle 1) (settled
    (record { core = z; pending_store = pending_store }))
    → IsThere n core (cycle_after cycle pending_store) (phase_after pending_store) x made z
there_after n core x made z cycle None among midway = ends_cycle n core x cycle among made z midway
there_after n core x made z cycle (Some o) among midway = midway

-- what a program asks for at its stamp is what the event has
asked_ops : {X : Type 0} (e : Event) (s : ℕ) (p : Prog X) (values : List ℕ) → e.stamp ≡ s → IsAskedBy e p
    → (fed s p values).ops ≡ asked_by e values
asked_ops e s p values is asks = ap (λ s. (fed s p values).ops) (sym is) ∙ asks values

-- the packets that are due have come to their words, and the interface goes on so
pub there_delivered : (n core : ℕ) (x : Core) (made : List Operation) (y : Core) (i : Interface) (cycle : ℕ)
    (phase : Phase) (e : Event) (values : List ℕ)
    → phase ≡ Delivery → core < n → e.stamp ≡ stamp n core cycle (stamp_phase phase) → AsksIn phase cycle y e
    → (fed (stamp n core cycle 0) (delivery cycle y.plain.interface) values).core ≡ i
    → IsThere n core cycle phase x made y → IsThere n core cycle Act x (made ++ asked_by e values) (with_interface y i)
there_delivered n core x made y i cycle phase e values is among at asks goes there =
    let s : ℕ = stamp n core cycle 0 in
    let left : (fed s (turn 0 cycle y) values).core ≡ with_interface y i =
    ap (λ h. h.core) (fed-then s (delivery cycle y.plain.interface) (λ i. done (with_interface y i)) values)
    ∙ ap (with_interface y) goes in
    let ops : (fed s (turn 0 cycle y) values).ops ≡ asked_by e values =
    asked_ops e s (turn 0 cycle y) values (at ∙ ap (λ p. stamp n core cycle (stamp_phase p)) is)
    (subst (λ p. AsksIn p cycle y e) is asks) in
    subst (λ z. IsThere n core cycle Act x (made ++ asked_by e values) z) left
    (subst (λ os. IsThere n core cycle Act x (made ++ os) (fed s (turn 0 cycle y) values).core) ops
    (delivery_resumed n core x cycle among made y values (subst (λ p. IsThere n core cycle p x made y) is there)))

-- a pending store was made
pub there_stored : (n core : ℕ) (x : Core) (made : List Operation) (y : Core) (cycle : ℕ) (phase : Phase)
    (pending_store : PendingStore) (e : Event) (values : List ℕ)
    → phase ≡ Completion pending_store → core < n → e.stamp ≡ stamp n core cycle (stamp_phase phase)
    → AsksIn phase cycle y e
    → IsThere n core cycle phase x made y → IsThere n core (cycle + 1) Delivery x (made ++ asked_by e values) y
there_stored n core x made y cycle phase pending_store e values is among at asks there =
    let s : ℕ = stamp n core cycle 1 in
    let rest : Prog Core = settled (record { core = y; pending_store = Some pending_store }) in
    let ops : (fed s rest values).ops ≡ asked_by e values =
    asked_ops e s rest values (at ∙ ap (λ p. stamp n core cycle (stamp_phase p)) is)
    (subst (λ p. AsksIn p cycle y e) is asks) in
    subst (λ os. IsThere n core (cycle + 1) Delivery x (made ++ os) y) ops
    (completion_done n core x cycle among made y pending_store values
    (subst (λ p. IsThere n core cycle p x made y) is there))

-- the second phase: the packet of the window is sent with the first values, and the core's own act has
-- the others
pub there_acted : (n core : ℕ) (x : Core) (made : List Operation) (y z : Core) (i : Interface) (cycle : ℕ)
    (phase : Phase) (pending_store : Option PendingStore) (e : Event) (values rest : List ℕ)
    → phase ≡ Act → core < n → e.stamp ≡ stamp n core cycle (stamp_phase phase) → AsksIn phase cycle y e
    → (fed (stamp n core cycle 1) (injection cycle y.plain.interface) values).core ≡ i
    → (fed (stamp n core cycle 1) (injection cycle y.plain.interface) values).left ≡ rest
    → (fed (stamp n core cycle 1) (own cycle (with_interface y i)) rest).core
    ≡ record { core = z; pending_store = pending_store }
    → IsThere n core cycle phase x made y → IsThere n core (cycle_after cycle pending_store) (phase_after pending_store)
    x (made ++ asked_by e values) z
there_acted n core x made y z i cycle phase pending_store e values rest is among at asks goes left does there =
    let s : ℕ = stamp n core cycle 1 in
    let sent : Fed Interface = fed s (injection cycle y.plain.interface) values in
    let resumed : (fed s (acted cycle y) values).core ≡ record { core = z; pending_store = pending_store } =
    ap (λ h. h.core) (fed-then s (injection cycle y.plain.interface) (λ i. own cycle (with_interface y i)) values)
    ∙ ap (λ i. (fed s (own cycle (with_interface y i)) sent.left).core) goes
    ∙ ap (λ vs. (fed s (own cycle (with_interface y i)) vs).core) left
    ∙ does in
    let ops : (fed s (acted cycle y) values).ops ≡ asked_by e values =
    asked_ops e s (acted cycle y) values (at ∙ ap (λ p. stamp n core cycle (stamp_phase p)) is)
    (subst (λ p. AsksIn p cycle y e) is asks) in
    there_after n core x (made ++ asked_by e values) z cycle pending_store among
    (subst (λ os. Midway (act_at turn n) n core x (made ++ os) (stamp n core cycle 1)
    (settled (record { core = z; pending_store = pending_store }))) ops
    (act_resumed n core x cycle among made y z values pending_store resumed
    (subst (λ p. IsThere n core cycle p x made y) is there)))

-- the same place, cycle and part by other names
pub there_as : (place place' : Place) (x : Core) (made : List Operation) (z : Core) (cycle cycle' : ℕ)
    (phase phase' : Phase)
    → place' ≡ place → cycle' ≡ cycle → phase' ≡ phase
    → IsThere place.cores place.core cycle phase x made z → IsThere place'.cores place'.core cycle' phase' x made z
there_as place place' x made z cycle cycle' phase phase' same_place same_cycle same_phase there =
    subst (λ p. IsThere p.cores p.core cycle' phase' x made z) (sym same_place)
    (subst (λ q. IsThere place.cores place.core q phase' x made z) (sym same_cycle)
    (subst (λ p. IsThere place.cores place.core cycle p x made z) (sym same_phase) there))

-- ---- the packet of the window

-- the next act is none of the half-cycles that are done
pub comes_in_phase : (s : Standing) (next : Option NiEvent) (e : NiEvent) (half : ℕ) → TellsNext s next → next ≡ Some e
    → IsUpTo half s → half ≤ half_of e
comes_in_phase s next e half tells is up =
    let resumed : IfSome (Some e) (λ e. IsNextAct s (half_of e)) =
    subst (λ n. IfSome n (λ e. IsNextAct s (half_of e))) is tells.is in
    up.past (half_of e) resumed.from resumed.passes

none_left : (count : ℕ) → drop {A = ℕ} count [] ≡ []
none_left zero = refl
none_left (suc count) = refl

-- as many values as are loaded are used, and the others are left
gets_left : {X : Type 0} (s count word : ℕ) (h : List ℕ → X) (values : List ℕ)
    → (fed s (gets count word (λ vs. done (h vs))) values).left ≡ drop count values
gets_left s zero word h values = refl
gets_left s (suc count) word h [] = gets_left s count (word + 1) (λ vs. h (0 ∷ vs)) [] ∙ none_left count
gets_left s (suc count) word h (v ∷ vs) = gets_left s count (word + 1) (λ us. h (v ∷ us)) vs

-- one or two loads look at the first two values alone
gets_first : {X : Type 0} (s count word : ℕ) (h : List ℕ → X) (a b : ℕ) (values : List ℕ) → count ≤ 2
    → (fed s (gets count word (λ vs. done (h vs))) (a ∷ b ∷ values)).core ≡ (fed s (gets count word (λ vs. done (h vs)))
    (a ∷ b ∷ [])).core
gets_first s (suc (suc (suc count))) word h a b values few = absurd (omega (arith, few))
gets_first s _ word h a b values few = refl

-- so the packet takes the first values, and leaves the others
pub packet_left : (x : Interface) (s cycle target first count : ℕ) (values : List ℕ)
    → IsInjection x cycle target first count
    → (fed s (injection cycle x) values).left ≡ drop count values
packet_left x s cycle target first count values sent = ap (λ p. (fed s p values).left) sent.program
    ∙ gets_left s count _ (λ vs. injected cycle vs x) values

packet_first : (x y : Interface) (s cycle target first count a b : ℕ) (values : List ℕ)
    → IsInjection x cycle target first count
    → (fed s (injection cycle x) (a ∷ b ∷ [])).core ≡ y → (fed s (injection cycle x) (a ∷ b ∷ values)).core ≡ y
packet_first x y s cycle target first count a b values sent goes =
    ap (λ p. (fed s p (a ∷ b ∷ values)).core) sent.program
    ∙ gets_first s count _ (λ vs. injected cycle vs x) a b values sent.piece.most
    ∙ ap (λ p. (fed s p (a ∷ b ∷ [])).core) (sym sent.program) ∙ goes

-- without a packet in the cycle, the interface stays as it is and takes no value
pub unsent : (s : Standing) (next : Option NiEvent) (cycle : ℕ) → TellsNext s next → s.from ≤ 2 * cycle + 1
    → IfSome next (λ e. 2 * cycle + 1 < half_of e)
    → injection cycle s.interface ≡ done s.interface
unsent s next cycle tells from later = quiet_phase s next cycle 1 (omega arith) tells from later

-- of a list of some values, the first two are these
pub packet_first_of : (x y : Interface) (s cycle target first count : ℕ) (values : List ℕ) → 2 ≤ length values
    → IsInjection x cycle target first count
    → (fed s (injection cycle x) (slice_index values 0 ∷ slice_index values 1 ∷ [])).core ≡ y
    → (fed s (injection cycle x) values).core ≡ y
packet_first_of x y s cycle target first count [] some sent goes = absurd (omega (arith, some))
packet_first_of x y s cycle target first count (a ∷ []) some sent goes = absurd (omega (arith, some))
packet_first_of x y s cycle target first count (a ∷ b ∷ values) some sent goes =
    packet_first x y s cycle target first count a b values sent goes
