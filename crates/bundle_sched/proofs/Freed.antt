-- A bundle without a second instruction that does nothing, and a tail whose flow stands alone.
use Rattle.std.proofs.Common.{◌≡◌, Bool, true, false, true≢false, if◌then◌else◌, Option, None, Some, List, [], ◌∷◌, refl, sym, ap, ◌∙◌}
use Rattle.std.specs.Prelude.{◌&&◌, ◌||◌, not}
use Rattle.std.proofs.lemmas.Bool.{and_parts}
use Rattle.std.proofs.Math.Bool.{and-true}
use Rattle.patmos_instr.specs.Bundles.{PlainBundle}
use Rattle.patmos_instr.specs.Instructions.{is_second_kind}
use Rattle.patmos_instr.specs.declared.instructions.Instr.{Instr}
use Rattle.patmos_instr.specs.declared.instructions.Op.{Op}
use Rattle.patmos_instr.specs.declared.instructions.Op.TheVariants.{AluImm, AluReg, Cmp, CmpImm, Comb}
use Rattle.sp_shape.specs.Bundles.{is_idle_op, is_idle}
use Rattle.sp_shape.specs.Formed.{is_always, is_flow}
use Rattle.sp_shape.specs.Words.{is_late}
use Rattle.bundle_sched.specs.Ordered.{without_nop}
use Rattle.bundle_sched.specs.Packed.{lone, is_nop, is_special, last_or}
use Rattle.bundle_sched.specs.Packing.{can_move, filled, can_leave, freed}

-- ---- a second instruction that does nothing

-- what holds of each bundle and itself, and where one that does nothing leaves it
pub without_nop_as : (P : PlainBundle → PlainBundle → Type 0) → ((b : PlainBundle) → P b b)
    → ((b : PlainBundle) (i : Instr) → b.second ≡ Some i
    → is_nop i ≡ true → P (lone b.first) b) → (b : PlainBundle) → P (without_nop b) b
without_nop_as P same leaves b = so b.second refl
  where
    so : (o : Option Instr) → b.second ≡ o
        → P (elim o as (λ _. PlainBundle) [ None ↦ b | Some i ↦ if is_nop i then lone b.first else b ]) b
    so None is = same b
    so (Some i) is = elim (is_nop i) as (λ nop. is_nop i ≡ nop → P (if nop then lone b.first else b) b) [
      | true ↦ λ nop.
          leaves b i is nop
      | false ↦ λ busy. same b
    ] refl

pub nop_idle : (i : Instr) → is_nop i ≡ true → is_idle (lone i) ≡ true
nop_idle i nop = ap (λ o. is_always i.guard && o) (and-true (is_idle_op i.op)) ∙ nop

-- ---- an instruction beside a flow

pub record Leaving (flow : PlainBundle) (i : Instr) (last : PlainBundle) : Type 0 where
  pub beside : flow.second ≡ Some i
  pub flows : is_flow flow.first.op ≡ true
  pub kind : is_second_kind i.op ≡ true
  pub idles : is_idle last ≡ true

-- what holds of each tail and itself, and where the instruction leaves its flow
pub freed_as : (P : List PlainBundle → List PlainBundle → Type 0) → ((tail : List PlainBundle) → P tail tail)
    → ((flow slot : PlainBundle) (slots : List PlainBundle) (i : Instr) → Leaving flow i (last_or slot slots)
    → P (filled (lone i) (lone flow.first ∷ slot ∷ slots)) (flow ∷ slot ∷ slots)) → (tail : List PlainBundle)
    → P (freed tail) tail
freed_as P same leaves [] = same []
freed_as P same leaves (flow ∷ []) = same (flow ∷ [])
freed_as P same leaves (flow ∷ slot ∷ slots) = so flow.second refl
  where
    so : (o : Option Instr) → flow.second ≡ o
        → P (elim o as (λ _. List PlainBundle) [
          | None ↦ flow ∷ slot ∷ slots
          | Some i ↦ if can_leave flow i
              (last_or slot slots) then filled (lone i) (lone flow.first ∷ slot ∷ slots) else flow ∷ slot ∷ slots
        ])
        (flow ∷ slot ∷ slots)
    so None is = same (flow ∷ slot ∷ slots)
    so (Some i) is =
        elim (can_leave flow i (last_or slot slots)) as (λ can. can_leave flow i (last_or slot slots) ≡ can
        → P (if can then filled (lone i) (lone flow.first ∷ slot ∷ slots) else flow ∷ slot ∷ slots) (flow
        ∷ slot ∷ slots)) [
          | true ↦ λ can.
              let one = and_parts (is_flow flow.first.op) (is_second_kind i.op && is_idle (last_or slot slots)) can in
              let two = and_parts (is_second_kind i.op) (is_idle (last_or slot slots)) one.1 in
              leaves flow slot slots i (record { beside = is; flows = one.0; kind = two.0; idles = two.1 })
          | false ↦ λ stays. same (flow ∷ slot ∷ slots)
        ] refl

-- it may be carried out after a flow
pub second_moves : (i : Instr) → is_second_kind i.op ≡ true → can_move (lone i) ≡ true
second_moves i kind = so i.op kind
  where
    so : (op : Op) → is_second_kind op ≡ true → (not (is_late op) && (not (is_flow op) && not (is_special op || false)))
        ≡ true
    so (AluImm func rd ra imm) h = refl
    so (AluReg func rd ra rb) h = refl
    so (Cmp func pd ra rb) h = refl
    so (CmpImm func pd ra imm) h = refl
    so (Comb func pd a b) h = refl
    so _ h = absurd (true≢false (sym h))

-- what holds of a tail, by the first instructions of its bundles, holds of it with the flow alone
pub freed_holds : (holds : List PlainBundle → Bool) → ((b : PlainBundle) (tail : List PlainBundle) → can_move b ≡ true
    → holds tail ≡ true
    → holds (filled b tail) ≡ true)
    → ((flow : PlainBundle) (slots : List PlainBundle) → holds (flow ∷ slots) ≡ true → holds (lone flow.first ∷ slots)
    ≡ true)
    → (tail : List PlainBundle) → holds tail ≡ true → holds (freed tail) ≡ true
freed_holds holds fills alone =
    freed_as (λ xs tail. holds tail ≡ true → holds xs ≡ true) (λ tail h. h)
    (λ flow slot slots i out h. fills (lone i) (lone flow.first ∷ slot ∷ slots) (second_moves i out.kind)
    (alone flow (slot ∷ slots) h))
