-- A target changes nothing of what a bundle does to registers and words.
use Rattle.std.proofs.Common.{◌≡◌, pos, Bool, true, false, [], ◌∷◌, ◌++◌, if◌then◌else◌, refl, sym, ap, ◌∙◌}
use Rattle.patmos_instr.specs.Bundles.{PlainBundle}
use Rattle.patmos_instr.specs.declared.instructions.Op.{Op}
use Rattle.patmos_instr.specs.declared.instructions.Op.TheVariants.{Branch, Call}
use Rattle.patmos_sem.specs.Registers.{holds}
use Rattle.patmos_sem.specs.declared.effects.Effect.TheVariants as effect
use Rattle.patmos_sem.specs.declared.effects.FlowKind.{FlowKind}
use Rattle.patmos_sem.specs.declared.effects.FlowKind.TheVariants as kind
use Rattle.sp_shape.proofs.Whole.{behind}
use Rattle.sp_shape.specs.Run.{Run, Sources, way_of, effected, late}
use Rattle.tc_link.specs.Flat.{with_op}
use Rattle.tc_link.specs.Walk.{aimless, erased}

same_way : (from : Sources) (x y : FlowKind) (on : Bool) (m : Run) → way_of x ≡ way_of y
    → effected from (if on then effect.Flow x else effect.Nothing) m
    ≡ effected from (if on then effect.Flow y else effect.Nothing) m
same_way from x y true m same = ap (λ way. record m { ways = m.ways ++ way ∷ [] }) same
same_way from x y false m same = refl

late_aimless : (from : Sources) (op : Op) (b : PlainBundle) (m : Run) → late from (with_op (aimless op) b) m
    ≡ late from (with_op op b) m
late_aimless from (Branch offset) b m = same_way from (kind.Branch (pos 0)) (kind.Branch offset)
    (holds m.regs b.first.guard) (behind (with_op (Branch offset) b) m) refl
late_aimless from (Call target) b m = same_way from (kind.Call 0) (kind.Call target) (holds m.regs b.first.guard)
    (behind (with_op (Call target) b) m) refl
late_aimless from _ b m = refl

pub late_same : (from : Sources) (b c : PlainBundle) (m : Run) → erased b ≡ erased c → late from b m ≡ late from c m
late_same from b c m same =
    sym (late_aimless from b.first.op b m) ∙ ap (λ x. late from x m) same ∙ late_aimless from c.first.op c m
