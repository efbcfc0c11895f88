-- To be believed. What an instruction gives from the registers that it reads: one equation for each kind (Patmos
-- Reference Handbook, instruction set). An instruction writes a register, or begins a product that
-- comes later, or asks for something outside the registers.
use Rattle.std.specs.Prelude.{ℕ, ◌+◌, ◌*◌, ◌%◌, ◌^◌, if◌then◌else◌}
use Rattle.tc_word.specs.Word.{product, low_word, high_word}
use Rattle.patmos_instr.specs.declared.specials.Special.{Special}
use Rattle.patmos_instr.specs.declared.specials.Special.TheVariants as special
use Rattle.patmos_instr.specs.declared.memories.Width.{Width}
use Rattle.patmos_instr.specs.declared.memories.Width.TheVariants as load
use Rattle.patmos_instr.specs.declared.memories.StoreWidth.{StoreWidth}
use Rattle.patmos_instr.specs.declared.memories.StoreWidth.TheVariants as store
use Rattle.patmos_instr.specs.declared.instructions.Op.{Op}
use Rattle.patmos_instr.specs.declared.instructions.Op.TheVariants.{AluImm, AluReg, AluLong, Mul, Cmp, CmpImm, Comb, ToSpecial, FromSpecial, Stack, Load, Store, Branch, Call, BranchFill, Return}
use Rattle.patmos_sem.specs.declared.pending.Pending.{Pending}
use Rattle.patmos_sem.specs.declared.pending.Pending.TheVariants as pending
use Rattle.patmos_sem.specs.declared.writes.Write.{Write}
use Rattle.patmos_sem.specs.declared.writes.Write.TheVariants as write
use Rattle.patmos_sem.specs.declared.effects.Effect.{Effect}
use Rattle.patmos_sem.specs.declared.effects.Effect.TheVariants as effect
use Rattle.patmos_sem.specs.declared.effects.FlowKind.TheVariants as flow
use Rattle.patmos_sem.specs.Operations.{alu_of, alu_value, compare_value, pred_value}
use Rattle.patmos_sem.specs.Registers.{Registers, word_in, holds, preds_number}

-- the word in a special register. st and ss are places of words of private memory, and told as byte
-- addresses
abbrev pub special_in : ℕ → ℕ → Registers → Special → ℕ
special_in st ss regs special.S0 = preds_number regs.preds
special_in st ss regs special.Sl = regs.sl
special_in st ss regs special.Sh = regs.sh
special_in st ss regs special.Srb = regs.srb
special_in st ss regs special.Sro = regs.sro
special_in st ss regs special.St = 4 * st % 2 ^ 32
special_in st ss regs special.Ss = 4 * ss % 2 ^ 32

-- the write of an instruction
abbrev pub write_of : ℕ → ℕ → Registers → Op → Write
write_of st ss regs (AluImm func rd ra imm) = write.Register rd (alu_value (alu_of func) (word_in regs ra) imm)
write_of st ss regs (AluReg func rd ra rb) = write.Register rd (alu_value func (word_in regs ra) (word_in regs rb))
write_of st ss regs (AluLong func rd ra constant) = write.Register rd (alu_value func (word_in regs ra) constant)
write_of st ss regs (Cmp func pd ra rb) = write.Predicate pd (compare_value func (word_in regs ra) (word_in regs rb))
write_of st ss regs (CmpImm func pd ra imm) = write.Predicate pd (compare_value func (word_in regs ra) imm)
write_of st ss regs (Comb func pd a b) = write.Predicate pd (pred_value func (holds regs a) (holds regs b))
write_of st ss regs (ToSpecial special ra) = write.Special special (word_in regs ra)
write_of st ss regs (FromSpecial rd special) = write.Register rd (special_in st ss regs special)
write_of _ _ _ _ = write.Nothing

-- the product that an instruction begins
abbrev pub begun : Registers → Op → Pending
begun regs (Mul unsigned ra rb) =
    let n = if unsigned then word_in regs ra * word_in regs rb else product (word_in regs ra) (word_in regs rb) in
    pending.Product (low_word n) (high_word n)
begun _ _ = pending.Nothing

-- the bytes of an access
abbrev pub width_bytes : Width → ℕ
width_bytes load.Word = 4
width_bytes load.Half = 2
width_bytes load.Byte = 1
width_bytes load.HalfUnsigned = 2
width_bytes load.ByteUnsigned = 1

abbrev pub store_bytes : StoreWidth → ℕ
store_bytes store.Word = 4
store_bytes store.Half = 2
store_bytes store.Byte = 1

-- an address: a register plus an immediate that counts in units of the access's bytes
abbrev pub address_of : ℕ → ℕ → ℕ → ℕ
address_of base imm bytes = (base + imm * bytes) % 2 ^ 32

-- what an instruction asks for
abbrev pub asked : Registers → Op → Effect
asked regs (Stack func count) = effect.StackOp func count
asked regs (Load space width rd ra imm) =
    effect.Load space width rd (address_of (word_in regs ra) imm (width_bytes width))
asked regs (Store space width ra rs imm) =
    effect.Store space width (address_of (word_in regs ra) imm (store_bytes width)) (word_in regs rs)
asked regs (Branch offset) = effect.Flow (flow.Branch offset)
asked regs (Call target) = effect.Flow (flow.Call target)
asked regs (BranchFill target) = effect.Flow (flow.BranchFill target)
asked regs Return = effect.Flow (flow.Return regs.srb regs.sro)
asked _ _ = effect.Nothing
