-- To be believed. What a core does in its own act in a cycle once a flow that was due has taken effect, told before it
-- does it.
use Rattle.std.specs.Prelude.{◌≡◌, ℕ, ◌+◌, ◌<◌, true, false, None, IfSome}
use Rattle.shared_order.specs.Program.{Prog, and_then}
use Rattle.patmos_sem.specs.declared.effects.Effect.{Effect}
use Rattle.patmos_step.specs.declared.plan.Plan.{Plan}
use Rattle.patmos_step.specs.declared.plan.Plan.TheVariants.{Nothing, Waits, Does}
use Rattle.patmos_model.specs.State.{Plain, Core, is_running, is_free}
use Rattle.patmos_model.specs.Flows.{flowed, counted}
use Rattle.patmos_model.specs.Cells.{Acted, now}
use Rattle.patmos_model.specs.Bundle.{fetched_at, asked_flow, done_as, IsWithin}
use Rattle.patmos_model.specs.Cycle.{slot_step}

-- nothing where the core does not run, and else what it fetches, if it is free
abbrev pub planned : ℕ → Plain → Plan
planned cycle x = elim (is_running x) [
  | false ↦ Nothing
  | true ↦ elim (is_free cycle x) [
    | true ↦ Does (fetched_at x.site.image x.base x.offset)
    | false ↦ Waits
  ]
]

-- a flow that is due takes effect, if the core runs
abbrev pub settled_at : ℕ → Core → Core
settled_at cycle c = elim (is_running c.plain) [ true ↦ flowed cycle c | false ↦ c ]

-- the plan is carried out
abbrev pub carried_out : Plan → ℕ → Core → Prog Acted
carried_out plan cycle c = elim plan [
  | Nothing ↦ now c
  | Waits ↦ slot_step cycle (record { core = c; pending_store = None })
  | Does fetched ↦ and_then (done_as fetched cycle c) (slot_step cycle)
]

-- no flow is due in the cycle
abbrev pub IsSettled : ℕ → Plain → Type 0
IsSettled cycle x = is_free cycle x ≡ true → IfSome x.flow (λ f. 0 < f.slots)

-- what is to be done ends within the function
abbrev pub PlanFits : ℕ → ℕ → Plan → Type 0
PlanFits offset size plan = elim plan [
  | Nothing ↦ Unit {0}
  | Waits ↦ Unit {0}
  | Does fetched ↦ IsWithin offset size fetched
]

-- the core with the offset and the flow after a bundle of so many words that asks for this
abbrev pub passed : ℕ → Effect → Plain → Plain
passed words asked x = record x { offset = x.offset + words; flow = counted x.flow (asked_flow x.offset asked) }
