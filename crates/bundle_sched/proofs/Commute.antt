-- Two bundles in one, and a bundle left out: what comes of them read at once is the same.
use Rattle.std.proofs.Common.{◌≡◌, ℕ, zero, suc, ◌==◌, Bool, true, false, not, true≢false, if◌then◌else◌, Option, Some, None, refl, sym, ap, ◌∙◌, arith, ne_eqb}
use Rattle.std.specs.Prelude.{◌&&◌, is_none}
use Rattle.std.proofs.lemmas.Bool.{and_parts, not-true}
use Rattle.patmos_instr.specs.Bundles.{PlainBundle}
use Rattle.patmos_instr.specs.declared.guards.Guard.{Guard}
use Rattle.patmos_instr.specs.declared.instructions.Instr.{Instr}
use Rattle.patmos_instr.specs.declared.instructions.Op.{Op}
use Rattle.patmos_instr.specs.declared.instructions.Op.TheVariants.{AluImm, AluReg, AluLong, Mul, Cmp, CmpImm, Comb, Load}
use Rattle.patmos_sem.specs.Bundles.{slot_write, second_write}
use Rattle.patmos_sem.specs.Effects.{asked}
use Rattle.patmos_sem.specs.Registers.{Registers, holds}
use Rattle.patmos_sem.specs.declared.effects.Effect.TheVariants as effect
use Rattle.patmos_instr.specs.declared.functions.ImmFunc.TheVariants as imm
use Rattle.patmos_sem.specs.declared.pending.Pending.TheVariants as pending
use Rattle.patmos_sem.specs.declared.writes.Write.{Write}
use Rattle.patmos_sem.specs.declared.writes.Write.TheVariants as write
use Rattle.patmos_sem.proofs.Told.{after_writes-append}
use Rattle.sp_shape.proofs.Whole.{with_pending}
use Rattle.sp_shape.specs.Run.{Run, IsWhole, Sources, effected, once}
use Rattle.sp_shape.specs.Bundles.{is_idle_op, is_idle}
use Rattle.sp_shape.specs.Formed.{is_always}
use Rattle.sp_shape.specs.Small.{always, idle}
use Rattle.sp_shape.specs.Words.{is_late}
use Rattle.bundle_sched.specs.Ordered.{is_plain_op}
use Rattle.bundle_sched.specs.Packed.{lone}
use Rattle.bundle_sched.proofs.Once.{with_regs, early_once, idle_settles, settled_same, three, early_told}
use Rattle.bundle_sched.proofs.Unwritten.{alone, after_one}

-- ---- a bundle that does nothing, left out

pub idle_once : (from : Sources) (m : Run) → IsWhole m → once from idle m ≡ m
idle_once from m whole =
    sym (early_once from idle m whole refl) ∙ idle_settles from m whole.fits
    ∙ ap (with_regs m) (settled_same m.regs whole.fits whole.pending)

-- ---- two in one

abbrev pub both_of : Instr → Instr → PlainBundle
both_of x y = record { first = x; second = Some y }

-- a plain instruction asks for nothing, and its value does not come late
plain_early : (op : Op) → is_plain_op op ≡ true → is_late op ≡ false
plain_early (Load space width rd ra imm) plain = absurd (true≢false (sym plain))
plain_early (Mul unsigned ra rb) plain = absurd (true≢false (sym plain))
plain_early _ plain = refl

plain_asked : (on : Bool) (op : Op) (regs : Registers) → is_plain_op op ≡ true
    → (if on then asked regs op else effect.Nothing) ≡ effect.Nothing
plain_asked false op regs plain = refl
plain_asked true (AluImm func rd ra imm) regs plain = refl
plain_asked true (AluReg func rd ra rb) regs plain = refl
plain_asked true (AluLong func rd ra constant) regs plain = refl
plain_asked true (Cmp func pd ra rb) regs plain = refl
plain_asked true (CmpImm func pd ra imm) regs plain = refl
plain_asked true (Comb func pd a b) regs plain = refl
plain_asked true _ regs plain = absurd (true≢false (sym plain))

pub plain_once : (from : Sources) (b : PlainBundle) (m : Run) → IsWhole m → is_plain_op b.first.op ≡ true
    → once from b m ≡ with_regs m (three (slot_write m.st m.ss m.regs b.first) (second_write m.st m.ss m.regs b.second)
    write.Nothing m.regs)
plain_once from b m whole plain =
    early_told from b m whole (plain_early b.first.op plain)
    ∙ ap (λ e. with_regs (effected from e m) (three (slot_write m.st m.ss m.regs b.first)
    (second_write m.st m.ss m.regs b.second) write.Nothing m.regs))
    (plain_asked (holds m.regs b.first.guard) b.first.op m.regs plain)

-- two writes at once, and one after the other
pub two_writes : (v w : Write) (regs : Registers) → after_one w (after_one v regs) ≡ three v w write.Nothing regs
two_writes v w regs = ap (λ r. with_pending r pending.Nothing) (after_writes-append (alone v) (alone w) regs)

pub no_second : (b : PlainBundle) → is_none b.second ≡ true → b ≡ lone b.first
no_second b none = so b.second none
  where
    so : (o : Option Instr) → is_none o ≡ true → record { first = b.first; second = o } ≡ lone b.first
    so None h = refl
    so (Some i) h = absurd (true≢false (sym h))

-- ---- the bundle that does nothing

is_zero : (n : ℕ) → (n == 0) ≡ true → n ≡ 0
is_zero zero h = refl
is_zero (suc n) h = absurd (true≢false (sym h ∙ ne_eqb (suc n) 0 (λ e. omega (arith, e))))

pub always_is : (g : Guard) → is_always g ≡ true → g ≡ always
always_is g h =
    let both = and_parts (g.pred == 0) (not g.negated) h in
    let p = is_zero g.pred both.0 in
    let n = not-true g.negated both.1 in
    λ k. record { negated = n k; pred = p k }

pub idle_op_is : (op : Op) → is_idle_op op ≡ true → op ≡ idle.first.op
idle_op_is (AluImm imm.Add rd ra n) h =
    let one = and_parts (rd == 0) ((ra == 0) && (n == 0)) h in
    let two = and_parts (ra == 0) (n == 0) one.1 in
    let p = is_zero rd one.0 in
    let q = is_zero ra two.0 in
    let r = is_zero n two.1 in
    λ k. AluImm imm.Add (p k) (q k) (r k)
idle_op_is _ h = absurd (true≢false (sym h))

pub idle_is : (b : PlainBundle) → is_idle b ≡ true → b ≡ idle
idle_is b h =
    let one = and_parts (is_always b.first.guard) (is_idle_op b.first.op && is_none b.second) h in
    let two = and_parts (is_idle_op b.first.op) (is_none b.second) one.1 in
    let g = always_is b.first.guard one.0 in
    let o = idle_op_is b.first.op two.0 in
    no_second b two.1 ∙ (λ k. lone (record { guard = g k; op = o k }))
