-- Flows take effect in a walk as they do in a core.
use Rattle.std.proofs.Common.{◌≡◌, ℕ, ◌+◌, Option, None, Some, is_some, refl, sym, ap, ◌∙◌, subst, true≢false}
use Rattle.std.specs.Prelude.{is_none}
use Rattle.patmos_instr.specs.Bundles.{PlainBundle}
use Rattle.patmos_model.specs.Bundle.{asked_flow, advanced}
use Rattle.patmos_model.specs.Checks.{check, fault_of}
use Rattle.patmos_model.specs.Flows as model
use Rattle.patmos_model.specs.State.{Plain, Core}
use Rattle.patmos_model.specs.declared.flow.Flow.{Flow}
use Rattle.patmos_model.specs.declared.flow.Goal.{Goal}
use Rattle.patmos_model.specs.declared.flow.Goal.TheVariants as goal
use Rattle.patmos_model.specs.declared.trap.Trap.TheVariants as trap
use Rattle.patmos_sem.specs.Bundles.{effect_of}
use Rattle.patmos_sem.specs.Registers.{Registers}
use Rattle.patmos_sem.specs.declared.effects.Effect.TheVariants as effect
use Rattle.patmos_sem.specs.declared.effects.FlowKind.{FlowKind}
use Rattle.sp_shape.specs.Run.{Sources}
use Rattle.tc_link.specs.Walk.{Walk, is_place, gone, bundle_done, IsAlone, IsAs}

pub placed_alike : (to : Goal) (x : Plain) → model.is_placed to x ≡ is_place x.site.image x.base to
placed_alike (goal.Within offset) x = refl
placed_alike _ x = refl

pub gone_alike : (to : Goal) (c : Core) (w : Walk) → IsAs w c.plain → IsAs (gone to w) (model.gone to c).plain
gone_alike (goal.Within offset) c w at = record { regs = at.regs; base = at.base; offset = refl; flow = refl }
gone_alike (goal.Call target) c w at = record {
  regs = ap (λ (r : Registers). record r { srb = w.base; sro = w.offset }) at.regs
      ∙ ap (λ n. record c.plain.regs { srb = n; sro = w.offset }) at.base
      ∙ ap (λ n. record c.plain.regs { srb = c.plain.base; sro = n }) at.offset;
  base = refl;
  offset = refl;
  flow = refl;
}
gone_alike (goal.Fill target) c w at = record { regs = at.regs; base = refl; offset = refl; flow = refl }
gone_alike (goal.Return base offset) c w at = record { regs = at.regs; base = refl; offset = refl; flow = refl }

pub offset_alike : (from : Sources) (b : PlainBundle) (words : ℕ) (w : Walk) (x : Plain) → IsAs w x
    → (bundle_done from b words w).offset ≡ (advanced words b x).offset
offset_alike from b words w x at = ap (λ n. n + words) at.offset

pub flow_alike : (from : Sources) (b : PlainBundle) (words : ℕ) (w : Walk) (x : Plain) → IsAs w x
    → (bundle_done from b words w).flow ≡ (advanced words b x).flow
flow_alike from b words w x at =
    ap (λ f. model.counted f (asked_flow w.offset (effect_of b w.run.regs))) at.flow
    ∙ ap (λ n. model.counted x.flow (asked_flow n (effect_of b w.run.regs))) at.offset
    ∙ ap (λ r. model.counted x.flow (asked_flow x.offset (effect_of b r))) at.regs

-- a flow that stands in no delay slot passes its check
flow_checked : (f : Option Flow) (pending : Option Flow) (offset : ℕ) (flow : FlowKind) → f ≡ pending
    → IsAlone f (asked_flow offset (effect.Flow flow)) → check (is_none pending) trap.Flow None ≡ None
flow_checked None pending offset flow same alone = ap (λ p. check (is_none p) trap.Flow None) (sym same)
flow_checked (Some f) pending offset flow same alone = absurd (true≢false (ap is_some alone))

pub no_fault : (b : PlainBundle) (flow : FlowKind) (w : Walk) (x : Plain) → IsAs w x
    → IsAlone w.flow (asked_flow w.offset (effect_of b w.run.regs)) → effect_of b x.regs ≡ effect.Flow flow
    → fault_of x (effect.Flow flow) ≡ None
unfolding fault_of
no_fault b flow w x at alone asks =
    flow_checked w.flow x.flow w.offset flow at.flow (subst (λ e. IsAlone w.flow (asked_flow w.offset e))
    (ap (effect_of b) at.regs ∙ asks) alone)
