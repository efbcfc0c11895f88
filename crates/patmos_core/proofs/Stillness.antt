-- Cycles in which nothing happens.
use Rattle.std.proofs.Common.{◌≡◌, ℕ, ◌+◌, ◌*◌, ◌<◌, ◌≤◌, true, List, Option, None, Some, IfSome, IsNone, true≢false, refl, sym, ap, ◌∙◌, subst, arith}
use Rattle.shared_order.specs.declared.operation.Operation.{Operation}
use Rattle.shared_order.specs.Program.{done, and_then}
use Rattle.argo_ni.specs.Interface.{Standing}
use Rattle.argo_ni.specs.Turn.{acts, delivery, injection, turn as interface_turn}
use Rattle.argo_ni.specs.Event.{half_of, IsNextAct, IsInjection}
use Rattle.patmos_core.specs.declared.window.Window.{Window}
use Rattle.patmos_core.specs.Events.{SendsIn}
use Rattle.argo_ni.specs.declared.event.NiEvent.{NiEvent}
use Rattle.argo_ni.specs.declared.event.NiKind.TheVariants.{Inject, Deliver}
use Rattle.patmos_model.specs.State.{Core}
use Rattle.patmos_model.specs.Cycle.{with_interface, turn}
use Rattle.patmos_core.specs.declared.phase.Phase.{Phase}
use Rattle.patmos_core.specs.declared.phase.Phase.TheVariants.{Delivery, Act}
use Rattle.patmos_core.specs.Position.{IsThere}
use Rattle.patmos_core.proofs.Moving.{delivery_passed}
use Rattle.patmos_core.specs.Progress.{half_at, TellsNext, IsStillIn}
use Rattle.patmos_step.specs.Ready.{IsUpTo}

-- the cycle of an event is that of its half-cycle
pub half_bounds : (e : NiEvent) → (2 * e.cycle ≤ half_of e) × (half_of e ≤ 2 * e.cycle + 1)
half_bounds e =
    elim e.kind as (λ k. (2 * e.cycle ≤ elim k [
      | Inject target first count ↦ 2 * e.cycle
          + 1
      | Deliver target first count values ↦ 2 * e.cycle
    ])
    × (elim k [ Inject target first count ↦ 2 * e.cycle + 1 | Deliver target first count values ↦ 2 * e.cycle ]
    ≤ 2 * e.cycle + 1)) [
      | Inject target first count ↦ (omega arith, omega arith)
      | Deliver target first count values ↦ (omega arith, omega arith)
    ]

-- before its next act the interface does nothing
pub still_before : (s : Standing) (next : Option NiEvent) (u : ℕ) → TellsNext s next → s.from ≤ 2 * u
    → IfSome next (λ e. u < e.cycle) → IsStillIn s.interface u
still_before s None u tells from before = record {
  delivery = tells.quiet refl (2 * u + 2) u 0 (omega arith) (omega (arith, from)) (omega arith);
  injection = tells.quiet refl (2 * u + 2) u 1 (omega arith) (omega (arith, from)) (omega arith);
}
still_before s (Some e) u tells from before =
    let bounds : (2 * e.cycle ≤ half_of e) × (half_of e ≤ 2 * e.cycle + 1) = half_bounds e in
    record {
      delivery = tells.between u 0 (omega arith) (omega (arith, from)) (omega (arith, before, bounds.0));
      injection = tells.between u 1 (omega arith) (omega (arith, from)) (omega (arith, before, bounds.0));
    }

-- nothing of the interface is left before its next act
pub nothing_before : (s : Standing) (next : Option NiEvent) (cycle half : ℕ) → TellsNext s next
    → IfSome next (λ e. cycle ≤ e.cycle) → s.from ≤ half → acts s.interface half ≡ true → 2 * cycle ≤ half
nothing_before s None cycle half tells within from is = absurd (true≢false (sym is ∙ tells.never refl half))
nothing_before s (Some e) cycle half tells within from is =
    omega (arith, within, (half_bounds e).0, tells.is.least half from is)

-- what is done before a cycle
pub up_to_cycle : (ni : Standing) (cycle : ℕ) (phase : Phase) → phase ≡ Delivery → IsUpTo (half_at cycle phase) ni
    → IsUpTo (2 * cycle) ni
up_to_cycle ni cycle phase is up = subst (λ p. IsUpTo (half_at cycle p) ni) is up

-- an act that is none of the cycle comes after it
pub comes_later : (s : Standing) (next : Option NiEvent) (e : NiEvent) (cycle : ℕ) → TellsNext s next → next ≡ Some e
    → IsUpTo (2 * cycle) s → cycle ≤ e.cycle
comes_later s next e cycle tells is up =
    let resumed : IfSome (Some e) (λ e. IsNextAct s (half_of e)) =
    subst (λ n. IfSome n (λ e. IsNextAct s (half_of e))) is tells.is in
    omega (arith, up.past (half_of e) resumed.from resumed.passes, (half_bounds e).1)

-- without a packet that is due nothing is delivered, and outside its windows nothing is injected
pub quiet_phase : (s : Standing) (next : Option NiEvent) (cycle phase : ℕ) → phase ≤ 1 → TellsNext s next
    → s.from ≤ 2 * cycle + phase → IfSome next (λ e. 2 * cycle + phase < half_of e)
    → interface_turn phase cycle s.interface ≡ done s.interface
quiet_phase s None cycle phase low tells from later =
    tells.quiet refl (2 * cycle + phase + 1) cycle phase low from (omega arith)
quiet_phase s (Some e) cycle phase low tells from later = tells.between cycle phase low from later

pub quiet_delivery : (s : Standing) (next : Option NiEvent) (cycle : ℕ) (y : Core) → y.plain.interface ≡ s.interface
    → TellsNext s next → s.from ≤ 2 * cycle → IfSome next (λ e. 2 * cycle < half_of e) → turn 0 cycle y ≡ done y
quiet_delivery s next cycle y same tells from later =
    ap (λ p. and_then p (λ i. done (with_interface y i)))
    (subst (λ i. delivery cycle i ≡ done i) (sym same) (quiet_phase s next cycle 0 (omega arith) tells
    (omega (arith, from)) (sooner next later)))
  where
    sooner : (next : Option NiEvent) → IfSome next (λ e. 2 * cycle < half_of e)
        → IfSome next (λ e. 2 * cycle + 0 < half_of e)
    sooner None h = h
    sooner (Some e) h = omega (arith, h)

pub there_passed : (n core : ℕ) (x : Core) (made : List Operation) (y : Core) (cycle : ℕ) (phase : Phase) → phase
    ≡ Delivery → core < n → turn 0 cycle y ≡ done y → IsThere n core cycle phase x made y
    → IsThere n core cycle Act x made y
there_passed n core x made y cycle phase is among quiet there =
    delivery_passed n core x cycle among made y quiet (subst (λ p. IsThere n core cycle p x made y) is there)

-- where the interface sends nothing in the cycle, its next act is a later one
pub no_window : (s : Standing) (next : Option NiEvent) (cycle : ℕ) (phase : Phase) → phase ≡ Act
    → IsUpTo (half_at cycle phase) s → TellsNext s next → IfSome next (λ e. 2 * cycle + 1 < half_of e)
    → injection cycle s.interface ≡ done s.interface
no_window s next cycle phase is up tells later =
    let here : IsUpTo (2 * cycle + 1) s = subst (λ p. IsUpTo (half_at cycle p) s) is up in
    quiet_phase s next cycle 1 (omega arith) tells here.after later

-- so the interface sends the packet that was found, or none
pub sends_so : (s : Standing) (next : Option NiEvent) (window : Option Window) (cycle : ℕ) (phase : Phase) → phase ≡ Act
    → IsUpTo (half_at cycle phase) s → TellsNext s next
    → IfSome window (λ w. IsInjection s.interface cycle w.target w.first w.count)
    → (IsNone window → IfSome next (λ e. 2 * cycle + 1 < half_of e)) → SendsIn s.interface cycle window
sends_so s next None cycle phase is up tells packet none = no_window s next cycle phase is up tells (none refl)
sends_so s next (Some w) cycle phase is up tells packet none = packet
