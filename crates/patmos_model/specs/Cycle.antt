-- To be believed. A core cycle by cycle, as programs on the words of the board.
use Rattle.std.specs.Prelude.{ℕ, zero, suc, true, false, None, Some}
use Rattle.shared_order.specs.Program.{Prog, done, set, and_then}
use Rattle.argo_ni.specs.Interface.{Interface}
use Rattle.argo_ni.specs.Turn.{delivery, injection}
use Rattle.patmos_model.specs.State.{Core, is_running, is_free}
use Rattle.patmos_model.specs.Flows.{flowed}
use Rattle.patmos_model.specs.Cells.{Acted, now}
use Rattle.patmos_model.specs.Bundle.{bundle}
use Rattle.patmos_model.specs.Transaction.{transaction, is_due}

-- the core with this interface
abbrev pub with_interface : Core → Interface → Core
with_interface c i = record c { plain = record c.plain { interface = i } }

-- what an act in the core's cycle does if the core still runs
abbrev pub if_running : (Core → Prog Acted) → Core → Prog Acted
if_running act c = elim (is_running c.plain) [ true ↦ act c | false ↦ now c ]

-- a core that is free does its next bundle
abbrev pub bundle_step : ℕ → Core → Prog Acted
bundle_step cycle c = elim (is_free cycle c.plain) [ true ↦ bundle cycle c | false ↦ now c ]

-- words that are to be moved move in the core's slots; a bundle's first ones can in the bundle's own
-- cycle
abbrev pub slot_step : ℕ → Acted → Prog Acted
slot_step cycle a = elim (is_due cycle a.core.plain) [ true ↦ transaction cycle a.core | false ↦ done a ]

-- The core's own act in a cycle: a flow without a delay slot left takes effect, then a bundle is done,
-- then words are moved; each where it can be. What a narrow store still has to store is pending.
abbrev pub own : ℕ → Core → Prog Acted
own cycle c = if_running
    (λ running. and_then (if_running (bundle_step cycle) (flowed cycle running)) (slot_step cycle)) c

-- a pending store is made
abbrev pub settled : Acted → Prog Core
settled a =
    elim a.pending_store [
      | None ↦ done a.core
      | Some pending_store ↦ set pending_store.word pending_store.value
          (done a.core)
    ]

-- phase 0 of a cycle: the packets that are due come to their words
abbrev pub delivered : ℕ → Core → Prog Core
delivered cycle c = and_then (delivery cycle c.plain.interface) (λ i. done (with_interface c i))

-- phase 1, as far as all that it asks for is known beforehand: the packet of the window is injected, and
-- then the core has its own act
abbrev pub acted : ℕ → Core → Prog Acted
acted cycle c = and_then (injection cycle c.plain.interface) (λ i. own cycle (with_interface c i))

-- both phases. A task's interface goes on after the task has ended or was stopped
abbrev pub turn : ℕ → ℕ → Core → Prog Core
turn zero cycle c = delivered cycle c
turn (suc phase) cycle c = and_then (acted cycle c) settled
