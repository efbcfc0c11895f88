-- Words that are about to be moved, in a cycle in which the interface does nothing.
use Rattle.std.proofs.Common.{◌≡◌, ℕ, ◌+◌, ◌*◌, ◌<◌, ◌≤◌, Bool, true, false, Option, None, Some, IfSome, IsTrue, refl, ◌∙◌, arith}
use Rattle.shared_order.specs.Program.{done}
use Rattle.argo_ni.specs.Interface.{Standing}
use Rattle.argo_ni.specs.Turn.{sends, injection}
use Rattle.argo_ni.specs.Event.{half_of}
use Rattle.argo_ni.specs.declared.event.NiEvent.{NiEvent}
use Rattle.argo_ni.proofs.Acts.{acts_odd}
use Rattle.patmos_model.specs.declared.pending_store.PendingStore.{PendingStore}
use Rattle.patmos_step.specs.declared.body.Body.{Body}
use Rattle.patmos_step.specs.Ready.{IsUpTo}
use Rattle.patmos_core.specs.declared.phase.Phase.{Phase}
use Rattle.patmos_core.specs.declared.phase.Phase.TheVariants.{Delivery, Act, Completion}
use Rattle.patmos_core.specs.Progress.{TellsNext, IsMoving}
use Rattle.patmos_core.proofs.AskedFor.{not_delivery}
use Rattle.patmos_core.proofs.Resumed.{comes_in_phase}

-- none are before the second phase of a cycle, or after it
pub none_before : (moves : Bool) (b b' : Body) (cycle cycle' : ℕ) (phase phase' : Phase) → phase ≡ Delivery
    → (IsTrue moves → IsMoving b cycle phase) → IsTrue moves → IsMoving b' cycle' phase'
none_before moves b b' cycle cycle' phase phase' is moving h = absurd (not_delivery phase (moving h).act is)

pub none_after : (moves : Bool) (b b' : Body) (cycle cycle' : ℕ) (phase phase' : Phase) (o : PendingStore) → phase
    ≡ Completion o → (IsTrue moves → IsMoving b cycle phase) → IsTrue moves
    → IsMoving b' cycle' phase'
none_after moves b b' cycle cycle' phase phase' o is moving h = let at : phase ≡ Act = (moving h).act in cc

-- the interface's next act is a later one
pub next_later : (s : Standing) (next : Option NiEvent) (cycle : ℕ) → TellsNext s next → IsUpTo (2 * cycle + 2) s
    → IfSome next (λ e. 2 * cycle < half_of e)
next_later s None cycle tells up = tt
next_later s (Some e) cycle tells up = omega (arith, comes_in_phase s (Some e) e (2 * cycle + 2) tells refl up)

-- it sends nothing in the cycle
pub sends_none : (s : Standing) (cycle : ℕ) → s.from ≤ 2 * cycle + 1 → IsUpTo (2 * cycle + 2) s
    → injection cycle s.interface ≡ done s.interface
sends_none s cycle from up = by (sends s.interface cycle) refl
  where
    by : (b : Bool) → sends s.interface cycle ≡ b → injection cycle s.interface ≡ done s.interface
    by true is =
        absurd (omega (arith, up.past (2 * cycle + 1) from (acts_odd s.interface (2 * cycle + 1) cycle refl ∙ is)))
    by false is = rw (is, injection) refl
