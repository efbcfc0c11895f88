-- To be believed. What the operations of an instruction make of words and predicates (Patmos Reference Handbook,
-- instruction set). A word is a number below 2^32, and sums and differences are taken modulo 2^32.
use Rattle.std.specs.Prelude.{ℕ, ◌+◌, ◌-◌, ◌*◌, ◌/◌, ◌%◌, ◌^◌, ◌==◌, Bool, not, ◌&&◌, ◌||◌, nat_lt, nat_le, if◌then◌else◌, bit_and, bit_or, bit_xor}
use Rattle.tc_word.specs.Word.{moved_up, moved_down, moved_down_signed, is_less}
use Rattle.patmos_instr.specs.declared.functions.ImmFunc.{ImmFunc}
use Rattle.patmos_instr.specs.declared.functions.ImmFunc.TheVariants as imm
use Rattle.patmos_instr.specs.declared.functions.AluFunc.{AluFunc}
use Rattle.patmos_instr.specs.declared.functions.AluFunc.TheVariants as alu
use Rattle.patmos_instr.specs.declared.functions.CmpFunc.{CmpFunc}
use Rattle.patmos_instr.specs.declared.functions.CmpFunc.TheVariants as cmp
use Rattle.patmos_instr.specs.declared.functions.PredFunc.{PredFunc}
use Rattle.patmos_instr.specs.declared.functions.PredFunc.TheVariants as comb

-- an operation with an immediate is the operation on two words of that name
abbrev pub alu_of : ImmFunc → AluFunc
alu_of imm.Add = alu.Add
alu_of imm.Sub = alu.Sub
alu_of imm.Xor = alu.Xor
alu_of imm.Sl = alu.Sl
alu_of imm.Sr = alu.Sr
alu_of imm.Sra = alu.Sra
alu_of imm.Or = alu.Or
alu_of imm.And = alu.And

-- an operation on two words; shifts take the second modulo 32
abbrev pub alu_value : AluFunc → ℕ → ℕ → ℕ
alu_value alu.Add a b = (a + b) % 2 ^ 32
alu_value alu.Sub a b = (a + (2 ^ 32 - b)) % 2 ^ 32
alu_value alu.Xor a b = bit_xor a b
alu_value alu.Sl a b = moved_up a b
alu_value alu.Sr a b = moved_down a b
alu_value alu.Sra a b = moved_down_signed a b
alu_value alu.Or a b = bit_or a b
alu_value alu.And a b = bit_and a b
alu_value alu.Nor a b = 2 ^ 32 - 1 - bit_or a b
alu_value alu.Shadd a b = (2 * a + b) % 2 ^ 32
alu_value alu.Shadd2 a b = (4 * a + b) % 2 ^ 32

-- bit k of a number is 1
abbrev pub has_bit : ℕ → ℕ → Bool
has_bit n k = n / 2 ^ k % 2 == 1

-- a compare of two words
abbrev pub compare_value : CmpFunc → ℕ → ℕ → Bool
compare_value cmp.Eq a b = a == b
compare_value cmp.Neq a b = not (a == b)
compare_value cmp.Lt a b = is_less a b
compare_value cmp.Le a b = not (is_less b a)
compare_value cmp.Ult a b = nat_lt a b
compare_value cmp.Ule a b = nat_le a b
compare_value cmp.Btest a b = has_bit a (b % 32)

-- a combination of two predicates
abbrev pub pred_value : PredFunc → Bool → Bool → Bool
pred_value comb.Por a b = a || b
pred_value comb.Pand a b = a && b
pred_value comb.Pxor a b = if a then not b else b
