-- What a bundle leaves that is read late, and what it leaves that is read at once.
use Rattle.std.proofs.Common.{◌≡◌, ℕ, zero, suc, ◌==◌, Bool, true, false, true≢false, if◌then◌else◌, [], ◌∷◌, refl, sym, ap, ◌∙◌, arith, ne_eqb}
use Rattle.patmos_instr.specs.Bundles.{PlainBundle}
use Rattle.patmos_instr.specs.declared.functions.ImmFunc.TheVariants as imm
use Rattle.patmos_instr.specs.declared.functions.StackFunc.TheVariants.{Sres, Sens, Sfree}
use Rattle.patmos_instr.specs.declared.instructions.Instr.{Instr}
use Rattle.patmos_instr.specs.declared.memories.Mem.TheVariants as mem
use Rattle.patmos_instr.specs.declared.instructions.Op.{Op}
use Rattle.patmos_instr.specs.declared.instructions.Op.TheVariants.{Load, Mul, Store, Stack}
use Rattle.patmos_sem.specs.Bundles.{slot_write, second_write, slot_begun, slot_asked}
use Rattle.patmos_sem.specs.Narrow.{picked}
use Rattle.patmos_sem.specs.Effects.{address_of, store_bytes, write_of, begun, asked}
use Rattle.patmos_sem.specs.Operations.{alu_of, alu_value}
use Rattle.patmos_sem.specs.Registers.{Registers, FitsRegisters, word_in, holds}
use Rattle.patmos_sem.specs.Writes.{after_writes, came, register_after, pred_after, register_by, low_by, high_by, base_by, offset_by, renewed}
use Rattle.patmos_sem.specs.declared.effects.Effect.{Effect}
use Rattle.patmos_sem.specs.declared.effects.Effect.TheVariants as effect
use Rattle.patmos_sem.specs.declared.pending.Pending.{Pending}
use Rattle.patmos_sem.specs.declared.pending.Pending.TheVariants as pending
use Rattle.patmos_sem.specs.declared.writes.Write.{Write}
use Rattle.patmos_sem.specs.declared.writes.Write.TheVariants as write
use Rattle.patmos_sem.proofs.Told.{kept_registers, kept_preds, after_writes-append}
use Rattle.sp_shape.proofs.Whole.{with_pending, stored_regs, stacked_regs, behind, late_fits}
use Rattle.sp_shape.specs.Run.{Run, IsWhole, Sources, word_given, effected, late, once, settled, with_settled}
use Rattle.sp_shape.specs.Small.{idle}
use Rattle.sp_shape.specs.Words.{is_late}

abbrev pub with_regs : Run → Registers → Run
with_regs m regs = record m { regs = regs }

-- ---- a bundle whose value does not come late

pub settled_same : (regs : Registers) → FitsRegisters regs → regs.pending ≡ pending.Nothing → settled regs ≡ regs
settled_same regs fits nothing =
    ap (λ p. with_pending (after_writes (came p ∷ []) regs) pending.Nothing) nothing
    ∙ (λ k. record {
      general = sym (kept_registers write.Nothing regs.general fits.zero (λ r old ne. refl)) k;
      preds = sym (kept_preds write.Nothing regs.preds fits.always (λ p old ne. refl)) k;
      sl = regs.sl;
      sh = regs.sh;
      srb = regs.srb;
      sro = regs.sro;
      pending = sym nothing k;
    })

-- an operation whose value does not come late leaves nothing pending, whether or not its guard is true
pub leaves_nothing : (from : Sources) (on : Bool) (op : Op) (regs : Registers) (m : Run) → is_late op ≡ false
    → m.regs.pending ≡ (if on then begun regs op else pending.Nothing)
    → (effected from (if on then asked regs op else effect.Nothing) m).regs.pending ≡ pending.Nothing
leaves_nothing from false op regs m early is = is
leaves_nothing from true (Load space width rd ra imm) regs m early is = absurd cc
leaves_nothing from true (Mul unsigned ra rb) regs m early is = absurd cc
leaves_nothing from true (Stack func count) regs m early is = ap (λ r. r.pending) (stacked_regs func count m) ∙ is
leaves_nothing from true (Store space width ra rs imm) regs m early is =
    ap (λ r. r.pending) (stored_regs space width (address_of (word_in regs ra) imm (store_bytes width))
    (word_in regs rs) m) ∙ is
leaves_nothing from true _ regs m early is = is

pub early_once : (from : Sources) (b : PlainBundle) (m : Run) → IsWhole m → is_late b.first.op ≡ false → late from b m
    ≡ once from b m
early_once from b m whole early =
    let nothing = leaves_nothing from (holds m.regs b.first.guard) b.first.op m.regs (behind b m) early refl in
    sym (ap (with_regs (late from b m)) (settled_same (late from b m).regs (late_fits from b m whole.fits) nothing))

-- ---- a bundle that does nothing, after one whose value comes late

-- a write of register 0
zero_kept : (w : Write) (v r x : ℕ) → register_after (w ∷ write.Register 0 v ∷ write.Nothing ∷ []) r x
    ≡ register_after (w ∷ []) r x
zero_kept w v zero x = refl
zero_kept w v (suc r) x = ap (λ b. if suc r == 0 then 0 else if b then v else register_by (suc r) w x)
    (ne_eqb 0 (suc r) (λ e. omega (arith, e)))

zero_written : (w : Write) (v : ℕ) (regs : Registers)
    → with_pending (after_writes (w ∷ write.Register 0 v ∷ write.Nothing ∷ []) regs) pending.Nothing
    ≡ with_pending (after_writes (w ∷ []) regs) pending.Nothing
zero_written w v regs = λ k. record {
  general = renewed (λ r x. zero_kept w v r x k) regs.general;
  preds = renewed (pred_after (w ∷ [])) regs.preds;
  sl = low_by w regs.sl;
  sh = high_by w regs.sh;
  srb = base_by w regs.srb;
  sro = offset_by w regs.sro;
  pending = pending.Nothing;
}

-- what was pending comes, and all else stays
pub idle_settles : (from : Sources) (m : Run) → FitsRegisters m.regs → late from idle m ≡ with_settled m
idle_settles from m fits =
    let written = λ (on : Bool). came m.regs.pending ∷ (if on then write_of m.st m.ss m.regs idle.first.op else
    write.Nothing) ∷ write.Nothing ∷ [] in
    ap (λ on. effected from (if on then effect.Nothing else effect.Nothing)
    (with_regs m (with_pending (after_writes (written on) m.regs)
    (if on then pending.Nothing else pending.Nothing)))) fits.always
    ∙ ap (with_regs m) (zero_written (came m.regs.pending) (alu_value (alu_of imm.Add) (word_in m.regs 0) 0) m.regs)

-- ---- a bundle read at once, as writes and what it asks for

-- what is pending after what is asked for: a load's value, or what was begun
abbrev pub left_pending : Sources → Effect → Run → Pending → Pending
left_pending from (effect.Load space width rd address) m p =
    pending.Value rd (picked width address (word_given from space address m))
left_pending from _ m p = p

-- what is asked for looks at no register
pub effect_regs : (from : Sources) (e : Effect) (m : Run) (regs : Registers) → effected from e (with_regs m regs)
    ≡ with_regs (effected from e m) (with_pending regs (left_pending from e m regs.pending))
effect_regs from (effect.Load mem.S width rd address) m regs = refl
effect_regs from (effect.Store mem.S width address value) m regs = refl
effect_regs from (effect.Store mem.L width address value) m regs = refl
effect_regs from (effect.Store mem.C width address value) m regs = refl
effect_regs from (effect.Store mem.M width address value) m regs = refl
effect_regs from (effect.StackOp Sres count) m regs = refl
effect_regs from (effect.StackOp Sens count) m regs = refl
effect_regs from (effect.StackOp Sfree count) m regs = refl
effect_regs from _ m regs = refl

pub pending_regs : (from : Sources) (e : Effect) (m : Run) (regs : Registers) (p : Pending)
    → left_pending from e (with_regs m regs) p ≡ left_pending from e m p
pending_regs from (effect.Load mem.S width rd address) m regs p = refl
pending_regs from (effect.Load _ width rd address) m regs p = refl
pending_regs from _ m regs p = refl

-- three writes, one after another
abbrev pub three : Write → Write → Write → Registers → Registers
three v w u regs = with_pending (after_writes (write.Nothing ∷ v ∷ w ∷ u ∷ []) regs) pending.Nothing

-- the write of what comes late of a slot
abbrev pub late_write : Sources → Instr → Run → Write
late_write from i m = came (left_pending from (slot_asked m.regs i) m (slot_begun m.regs i))

pub once_told : (from : Sources) (b : PlainBundle) (m : Run) → IsWhole m
    → once from b m ≡ with_regs (effected from (slot_asked m.regs b.first) m) (three
    (slot_write m.st m.ss m.regs b.first) (second_write m.st m.ss m.regs b.second)
    (late_write from b.first m) m.regs)
once_told from b m whole =
    let e = slot_asked m.regs b.first in
    let v = slot_write m.st m.ss m.regs b.first in
    let w = second_write m.st m.ss m.regs b.second in
    let u = late_write from b.first m in
    ap (λ t. with_regs t (with_pending (after_writes (came t.regs.pending ∷ []) t.regs) pending.Nothing))
    (effect_regs from e m (with_pending (after_writes (came m.regs.pending ∷ v ∷ w ∷ []) m.regs)
    (slot_begun m.regs b.first)))
    ∙ ap (λ regs. with_regs (effected from e m) (with_pending regs pending.Nothing)) (after_writes-append
    (came m.regs.pending ∷ v ∷ w ∷ []) (u ∷ []) m.regs)
    ∙ ap (λ p. with_regs (effected from e m) (with_pending (after_writes (came p ∷ v ∷ w ∷ u ∷ []) m.regs)
    pending.Nothing)) whole.pending

-- of a bundle whose value does not come late
late_nothing : (from : Sources) (i : Instr) (m : Run) → is_late i.op ≡ false → late_write from i m ≡ write.Nothing
late_nothing from i m early = so (holds m.regs i.guard) i.op early
  where
    so : (on : Bool) (op : Op) → is_late op ≡ false
        → came (left_pending from (if on then asked m.regs op else effect.Nothing) m
        (if on then begun m.regs op else pending.Nothing)) ≡ write.Nothing
    so false op early = refl
    so true (Load space width rd ra imm) early = absurd (true≢false early)
    so true (Mul unsigned ra rb) early = absurd (true≢false early)
    so true _ early = refl

pub early_told : (from : Sources) (b : PlainBundle) (m : Run) → IsWhole m → is_late b.first.op ≡ false
    → once from b m ≡ with_regs (effected from (slot_asked m.regs b.first) m) (three
    (slot_write m.st m.ss m.regs b.first) (second_write m.st m.ss m.regs b.second) write.Nothing m.regs)
early_told from b m whole early =
    once_told from b m whole
    ∙ ap (λ u. with_regs (effected from (slot_asked m.regs b.first) m) (three (slot_write m.st m.ss m.regs b.first)
    (second_write m.st m.ss m.regs b.second) u m.regs)) (late_nothing from b.first m early)
