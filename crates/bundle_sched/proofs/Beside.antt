-- What comes of a bundle is the same without a second instruction that does nothing; and of a flow and what stands
-- beside it, one after the other.
use Rattle.std.proofs.Common.{◌≡◌, ℕ, zero, suc, ◌==◌, true, true≢false, if◌then◌else◌, List, [], ◌∷◌, refl, sym, ap, ◌∙◌, arith, ne_eqb}
use Rattle.std.specs.Prelude.{◌&&◌, ◌||◌}
use Rattle.std.specs.List.{list_all}
use Rattle.std.proofs.lemmas.Bool.{and_parts}
use Rattle.patmos_instr.specs.Bundles.{PlainBundle}
use Rattle.patmos_instr.specs.Instructions.{is_long}
use Rattle.patmos_instr.specs.declared.instructions.Instr.{Instr}
use Rattle.patmos_instr.specs.declared.instructions.Op.{Op}
use Rattle.patmos_instr.specs.declared.instructions.Op.TheVariants.{Branch, Call, BranchFill, Return}
use Rattle.patmos_sem.specs.Bundles.{slot_write, slot_asked}
use Rattle.patmos_sem.specs.Effects.{write_of}
use Rattle.patmos_sem.specs.Operations.{alu_of, alu_value}
use Rattle.patmos_sem.specs.Registers.{Registers, word_in}
use Rattle.patmos_sem.specs.Writes.{register_after, pred_after, register_by, low_by, high_by, base_by, offset_by, renewed}
use Rattle.patmos_sem.specs.declared.pending.Pending.TheVariants as pending
use Rattle.patmos_sem.specs.declared.writes.Write.{Write}
use Rattle.patmos_sem.specs.declared.writes.Write.TheVariants as write
use Rattle.patmos_instr.specs.declared.functions.ImmFunc.TheVariants as imm
use Rattle.sp_shape.specs.Bundles.{is_idle_op}
use Rattle.sp_shape.specs.Formed.{is_flow, is_always}
use Rattle.sp_shape.specs.Run.{Run, IsWhole, Sources, effected, once}
use Rattle.sp_shape.specs.Small.{idle}
use Rattle.bundle_sched.specs.Operands.{reads, tests, results, flags, lacks, apart, spares}
use Rattle.bundle_sched.specs.Ordered.{without_nop}
use Rattle.bundle_sched.specs.Packed.{lone, is_nop}
use Rattle.bundle_sched.proofs.Freed.{without_nop_as, Leaving}
use Rattle.bundle_sched.proofs.Commute.{both_of, always_is, idle_op_is}
use Rattle.bundle_sched.proofs.Once.{with_regs, three, late_write, once_told}
use Rattle.bundle_sched.proofs.Swapping.{IsFree, joined_once}

-- ---- a second slot that does nothing

nop_is : (i : Instr) → is_nop i ≡ true → i ≡ idle.first
nop_is i h =
    let both = and_parts (is_always i.guard) (is_idle_op i.op) h in
    let g = always_is i.guard both.0 in
    let o = idle_op_is i.op both.1 in
    λ k. record { guard = g k; op = o k }

-- a write of register 0 between two others
zero_between : (v u : Write) (value : ℕ) (regs : Registers) → three v (write.Register 0 value) u regs
    ≡ three v write.Nothing u regs
zero_between v u value regs = λ k. record {
  general = renewed (λ r x. so r x k) regs.general;
  preds = renewed (pred_after (write.Nothing ∷ v ∷ write.Nothing ∷ u ∷ [])) regs.preds;
  sl = low_by u (low_by v regs.sl);
  sh = high_by u (high_by v regs.sh);
  srb = base_by u (base_by v regs.srb);
  sro = offset_by u (offset_by v regs.sro);
  pending = pending.Nothing;
}
  where
    so : (r x : ℕ) → register_after (write.Nothing ∷ v ∷ write.Register 0 value ∷ u ∷ []) r x
        ≡ register_after (write.Nothing ∷ v ∷ write.Nothing ∷ u ∷ []) r x
    so zero x = refl
    so (suc r) x = ap (λ b. if suc r == 0 then 0 else register_by (suc r) u (if b then value else register_by
        (suc r) v x)) (ne_eqb 0 (suc r) (λ e. omega (arith, e)))

nop_once : (from : Sources) (x : Instr) (m : Run) → IsWhole m → once from (both_of x idle.first) m
    ≡ once from (lone x) m
nop_once from x m whole =
    let out = effected from (slot_asked m.regs x) m in
    let v = slot_write m.st m.ss m.regs x in
    let u = late_write from x m in
    once_told from (both_of x idle.first) m whole
    ∙ ap (λ on. with_regs out (three v (if on then write_of m.st m.ss m.regs idle.first.op else write.Nothing) u
    m.regs)) whole.fits.always
    ∙ ap (with_regs out) (zero_between v u (alu_value (alu_of imm.Add) (word_in m.regs 0) 0) m.regs)
    ∙ sym (once_told from (lone x) m whole)

pub without_nop_once : (from : Sources) (b : PlainBundle) (m : Run) → IsWhole m → once from (without_nop b) m
    ≡ once from b m
without_nop_once from b m whole =
    without_nop_as (λ c b. once from c m ≡ once from b m) (λ b. refl)
    (λ b i is nop. sym (nop_once from b.first m whole) ∙ (λ k. once from (both_of b.first (sym (nop_is i nop) k)) m)
    ∙ (λ k. once from (record { first = b.first; second = sym is k }) m)) b

-- ---- an instruction beside a flow

lacks_none : (rs : List ℕ) → list_all (lacks []) rs ≡ true
lacks_none [] = refl
lacks_none (r ∷ rs) = lacks_none rs

-- a flow writes nothing
flow_free : (f i : Instr) → is_flow f.op ≡ true → IsFree f i
flow_free f i h = so f.op h
  where
    free : (op : Op) → results op ≡ [] → ((ps : List ℕ) → spares op ps ≡ list_all (lacks []) ps)
        → IsFree (record { guard = f.guard; op = op }) i
    free op none spare = record {
      words = ap (λ rs. list_all (lacks rs) (reads i.op)) none ∙ lacks_none (reads i.op);
      preds = all_spared (tests i);
      writes = ap (λ rs. apart rs (results i.op)) none ∙ lacks_none (results i.op);
      flags = spare (flags i.op) ∙ lacks_none (flags i.op);
    }
      where
        all_spared : (ps : List ℕ) → list_all (λ p. spares op (p ∷ [])) ps ≡ true
        all_spared [] = refl
        all_spared (p ∷ ps) = ap (λ s. s && list_all (λ q. spares op (q ∷ [])) ps) (spare (p ∷ [])) ∙ all_spared ps

    so : (op : Op) → is_flow op ≡ true → IsFree (record { guard = f.guard; op = op }) i
    so (Branch offset) h = free (Branch offset) refl (λ ps. refl)
    so (Call target) h = free (Call target) refl (λ ps. refl)
    so (BranchFill target) h = free (BranchFill target) refl (λ ps. refl)
    so Return h = free Return refl (λ ps. refl)
    so _ h = absurd (true≢false (sym h))

-- it may as well come after it
pub beside_once : (from : Sources) (flow last : PlainBundle) (i : Instr) (m : Run) → IsWhole m → Leaving flow i last
    → once from (lone i) (once from (lone flow.first) m) ≡ once from flow m
beside_once from flow last i m whole out =
    sym (joined_once from flow.first i m whole (ap (λ second. second || is_long i.op) out.kind)
    (flow_free flow.first i out.flows))
    ∙ (λ k. once from (record { first = flow.first; second = sym out.beside k }) m)
