-- To be believed. Bundles that a core does at once: those that ask for nothing, and branches alone.
use Rattle.std.specs.Prelude.{◌≡◌, ℕ, ℤ, Bool, true, false, Option, None, Some}
use Rattle.patmos_instr.specs.Bundles.{PlainBundle}
use Rattle.patmos_instr.specs.declared.guards.Guard.{Guard}
use Rattle.patmos_instr.specs.declared.instructions.Op.TheVariants as op
use Rattle.patmos_sem.specs.declared.effects.FlowKind.TheVariants as flow
use Rattle.patmos_sem.specs.Bundles.{effect_of}
use Rattle.patmos_model.specs.declared.flow.Flow.{Flow}
use Rattle.patmos_model.specs.Flows.{flow_of}
use Rattle.patmos_step.specs.declared.body.Body.{Body}
use Rattle.patmos_alone.specs.Alone.{no_slot_left, IsPrivateIn}

-- a bundle of a branch alone
abbrev pub branch_alone : Guard → ℤ → PlainBundle
branch_alone guard by = record { first = record { guard = guard; op = op.Branch by }; second = None }

-- it comes in the cycle, and no flow has delay slots left
pub record IsBranchIn (cycle : ℕ) (b : Body) (offset words : ℕ) (guard : Guard) (by : ℤ) : Type 0 where
  pub next : IsPrivateIn cycle b
      (record { offset = offset; words = words; effect = effect_of (branch_alone guard by) b.regs })
  pub is : next.here.bundle ≡ branch_alone guard by
  pub alone : no_slot_left b.flow ≡ true

-- the flow after a branch at an offset
abbrev pub branched : Bool → ℕ → ℤ → Option Flow
branched taken offset by = elim taken [ true ↦ Some (flow_of offset (flow.Branch by)) | false ↦ None ]
