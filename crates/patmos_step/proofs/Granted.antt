-- What a bundle asks for, once its checks are passed.
use Rattle.std.proofs.Common.{◌≡◌, ℕ, Option, None, Bool, true, false, refl, sym, subst}
use Rattle.patmos_sem.specs.declared.effects.Effect.{Effect}
use Rattle.patmos_sem.specs.declared.effects.Effect.TheVariants as effect
use Rattle.patmos_sem.specs.Registers.{Registers}
use Rattle.patmos_model.specs.declared.flow.Flow.{Flow}
use Rattle.patmos_model.specs.declared.trap.Trap.{Trap}
use Rattle.patmos_model.specs.declared.trap.Trap.TheVariants as trap
use Rattle.patmos_model.specs.State.{Plain}
use Rattle.patmos_model.specs.Checks.{check, fault_of, has_room}
use Rattle.patmos_step.specs.Ready.{IsGranted}

-- a check that was passed
passed : (holds : Bool) (fault : Trap) → check holds fault None ≡ None → holds ≡ true
passed true fault h = refl
passed false fault h = cc

granted_before : (asked : Effect) (x : Plain) → fault_of x asked ≡ None → IsGranted asked x
unfolding fault_of
granted_before effect.Nothing x h = tt
granted_before (effect.Flow kind) x h = tt
granted_before (effect.Load space width rd address) x h = h
granted_before (effect.Store space width address value) x h = h
granted_before (effect.StackOp func count) x h = passed (has_room func count x.stack) trap.Stack h

same_grant : (asked : Effect) (x : Plain) (regs : Registers) (offset : ℕ) (flow : Option Flow) → IsGranted asked x
    → IsGranted asked (record x { regs = regs; offset = offset; flow = flow })
same_grant effect.Nothing x regs offset flow h = h
same_grant _ x regs offset flow h = h

-- it is still granted when the registers, the offset and the flow have changed
pub is_granted : (asked : Effect) (x y : Plain) (regs : Registers) (offset : ℕ) (flow : Option Flow) → fault_of x asked
    ≡ None → y ≡ record x { regs = regs; offset = offset; flow = flow } → IsGranted asked y
is_granted asked x y regs offset flow h same =
    subst (IsGranted asked) (sym same) (same_grant asked x regs offset flow (granted_before asked x h))
