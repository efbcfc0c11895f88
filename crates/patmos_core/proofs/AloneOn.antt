-- A core that goes on by itself through cycles in which its interface does nothing.
use Rattle.std.proofs.Common.{◌≡◌, ℕ, zero, suc, ◌+◌, ◌-◌, ◌<◌, ◌≤◌, List, sym, ap, ◌∙◌, subst, arith}
use Rattle.slot_arbiter.specs.Stamp.{stamp}
use Rattle.shared_order.specs.declared.operation.Operation.{Operation}
use Rattle.shared_order.specs.Program.{done, and_then}
use Rattle.shared_order.specs.Stamps.{act_at}
use Rattle.shared_order.specs.Stands.{Midway}
use Rattle.argo_ni.specs.Interface.{Interface}
use Rattle.patmos_model.specs.State.{Core}
use Rattle.patmos_model.specs.Cycle.{with_interface, own, settled, turn}
use Rattle.patmos_step.specs.declared.body.Body.{Body}
use Rattle.patmos_step.specs.Shown.{core_of}
use Rattle.patmos_alone.specs.Alone.{IsAlone, DoesAlone, ComesAlone}
use Rattle.patmos_core.specs.declared.phase.Phase.{Phase}
use Rattle.patmos_core.specs.declared.phase.Phase.TheVariants.{Delivery}
use Rattle.patmos_core.specs.Position.{IsThere}
use Rattle.patmos_core.specs.Progress.{IsStillIn}
use Rattle.patmos_core.proofs.Moving.{delivery_passed, ends_cycle}

module _ (n core : ℕ) (x : Core) (made : List Operation) (among : core < n) where
  -- one cycle
  one_alone : (u : ℕ) (y z : Core) → IsStillIn y.plain.interface u → IsAlone u y z → IsThere n core u Delivery x made y
      → IsThere n core (u + 1) Delivery x made z
  one_alone u y z still alone there =
      let second : turn 1 u y ≡ done z =
      ap (λ p. and_then (and_then p (λ i. own u (with_interface y i))) settled) still.injection
      ∙ ap (λ p. and_then p settled) alone.act in
      ends_cycle n core x u among made z
      (subst (Midway (act_at turn n) n core x made (stamp n core u 1)) second
      (delivery_passed n core x u among made y (ap (λ p. and_then p (λ i. done (with_interface y i))) still.delivery)
      there))

  record Comes (i : Interface) (cycle : ℕ) (z : Core) : Type 0 where
    there : IsThere n core cycle Delivery x made z
    interface : z.plain.interface ≡ i

  -- so many cycles
  all_alone : (cycle count : ℕ) (y z : Core) → ((u : ℕ) → cycle ≤ u → u < cycle + count → IsStillIn y.plain.interface u)
      → DoesAlone cycle count y z
      → IsThere n core cycle Delivery x made y → Comes y.plain.interface (cycle + count) z
  all_alone cycle zero y z still does there = record {
    there = subst (λ q. IsThere n core q Delivery x made z) (omega arith)
        (subst (λ c. IsThere n core cycle Delivery x made c) does there);
    interface = ap (λ c. c.plain.interface) (sym does);
  }
  all_alone cycle (suc count) y z still does there =
      let before : Comes y.plain.interface (cycle + count) does.0 =
      all_alone cycle count y does.0 (λ u from below. still u from (omega (arith, below))) does.1 there in
      record {
        there = subst (λ q. IsThere n core q Delivery x made z) (omega arith)
            (one_alone (cycle + count) does.0 z
            (subst (λ i. IsStillIn i (cycle + count)) (sym before.interface) (still (cycle + count) (omega arith)
            (omega arith))) does.2 before.there);
        interface = does.2.interface ∙ before.interface;
      }

  -- all that a core did by itself
  pub there_alone : (cycle later : ℕ) (phase : Phase) (y : Core) (b : Body) → phase ≡ Delivery → cycle ≤ later
      → ((u : ℕ) → cycle ≤ u → u < later → IsStillIn y.plain.interface u)
      → (comes : ComesAlone cycle later y b) → IsThere n core cycle phase x made y
      → IsThere n core later phase x made (core_of b comes.seen)
  there_alone cycle later phase y b is on still comes there =
      let far : cycle + (later - cycle) ≡ later = omega (arith, on) in
      let come : Comes y.plain.interface (cycle + (later - cycle)) (core_of b comes.seen) =
      all_alone cycle (later - cycle) y (core_of b comes.seen) (λ u from below. still u from
      (omega (arith, below, far))) (comes.alone (later - cycle) far)
      (subst (λ p. IsThere n core cycle p x made y) is there) in
      subst (λ p. IsThere n core later p x made (core_of b comes.seen)) (sym is)
      (subst (λ q. IsThere n core q Delivery x made (core_of b comes.seen)) far come.there)
