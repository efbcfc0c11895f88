-- A bundle that asks for a load begins no product.
use Rattle.std.proofs.Common.{◌≡◌, ◌≢◌, ℕ, Bool, true, false, if◌then◌else◌, refl}
use Rattle.patmos_instr.specs.declared.instructions.Instr.{Instr}
use Rattle.patmos_instr.specs.Bundles.{PlainBundle}
use Rattle.patmos_instr.specs.declared.instructions.Op.{Op}
use Rattle.patmos_instr.specs.declared.instructions.Op.TheVariants.{AluImm, AluReg, AluLong, Mul, Cmp, CmpImm, Comb, ToSpecial, FromSpecial, Stack, Load, Store, Branch, Call, BranchFill, Return}
use Rattle.patmos_sem.specs.declared.pending.Pending.{Pending}
use Rattle.patmos_sem.specs.declared.pending.Pending.TheVariants as pending
use Rattle.patmos_sem.specs.declared.effects.Effect.TheVariants as effect
use Rattle.patmos_sem.specs.Registers.{Registers, holds}
use Rattle.patmos_sem.specs.declared.writes.Write.TheVariants as write
use Rattle.patmos_sem.specs.Effects.{write_of, begun, asked}
use Rattle.patmos_sem.specs.Bundles.{slot_write, slot_begun, slot_asked, effect_of, OnLoad}

pub begins_nothing : (b : PlainBundle) (regs : Registers) (left : Pending) → left ≡ slot_begun regs b.first
    → OnLoad (effect_of b regs) (left ≡ pending.Nothing)
begins_nothing b regs left same = by (holds regs b.first.guard) b.first.op same
  where
    by : (guard : Bool) (op : Op) → left ≡ (if guard then begun regs op else pending.Nothing)
        → OnLoad (if guard then asked regs op else effect.Nothing) (left ≡ pending.Nothing)
    by false op h = tt
    by true (Load space width rd ra imm) h = h
    by true _ h = tt

-- an operation that is no product leaves nothing pending, whether or not its guard is true
pub none_begun : (regs : Registers) (i : Instr) → begun regs i.op ≡ pending.Nothing → slot_begun regs i
    ≡ pending.Nothing
none_begun regs i none = by (holds regs i.guard)
  where
    by : (guard : Bool) → (if guard then begun regs i.op else pending.Nothing) ≡ pending.Nothing
    by true = none
    by false = refl

-- an instruction that asks for something writes nothing and begins nothing
pub asking_writes : (st ss : ℕ) (regs : Registers) (i : Instr) → slot_asked regs i ≢ effect.Nothing
    → slot_write st ss regs i ≡ write.Nothing
asking_writes st ss regs i asks = by (holds regs i.guard) i.op asks
  where
    by : (guard : Bool) (op : Op) → (if guard then asked regs op else effect.Nothing) ≢ effect.Nothing
        → (if guard then write_of st ss regs op else write.Nothing) ≡ write.Nothing
    by false op h = refl
    by true (Mul unsigned ra rb) h = refl
    by true (Stack func count) h = refl
    by true (Load space width rd ra imm) h = refl
    by true (Store space width ra rs imm) h = refl
    by true (Branch offset) h = refl
    by true (Call target) h = refl
    by true (BranchFill target) h = refl
    by true Return h = refl
    by true _ h = absurd (h refl)

pub asking_begins : (regs : Registers) (i : Instr) → slot_asked regs i ≢ effect.Nothing → slot_begun regs i
    ≡ pending.Nothing
asking_begins regs i asks = by (holds regs i.guard) i.op asks
  where
    by : (guard : Bool) (op : Op) → (if guard then asked regs op else effect.Nothing) ≢ effect.Nothing
        → (if guard then begun regs op else pending.Nothing) ≡ pending.Nothing
    by false op h = refl
    by true (Mul unsigned ra rb) h = absurd (h refl)
    by true _ h = refl
