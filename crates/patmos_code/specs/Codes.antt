-- To be believed. The words of a bundle: each field of an instruction times the power of two of its place (Patmos
-- Reference Handbook, instruction formats and opcodes; TP1, our profile, has no other instructions).
use Rattle.std.specs.Prelude.{◌≡◌, ℕ, ◌+◌, ◌*◌, ◌^◌, List, [], ◌∷◌, Option, Some, None, if◌then◌else◌, nat_lt, MatchOption}
use Rattle.patmos_instr.specs.Bundles.{PlainBundle, FitsBundle}
use Rattle.patmos_instr.specs.Fields.{offset_bits}
use Rattle.patmos_instr.specs.Functions.{imm_func_number, alu_func_number, cmp_func_number, pred_func_number, stack_func_number}
use Rattle.patmos_instr.specs.Guards.{guard_number}
use Rattle.patmos_instr.specs.Memories.{mem_number, width_number, store_width_number}
use Rattle.patmos_instr.specs.Specials.{special_number, writable_special_number}
use Rattle.patmos_instr.specs.declared.instructions.Instr.{Instr}
use Rattle.patmos_instr.specs.declared.instructions.Op.{Op}
use Rattle.patmos_instr.specs.declared.instructions.Op.TheVariants.{AluImm, AluReg, AluLong, Mul, Cmp, CmpImm, Comb, ToSpecial, FromSpecial, Stack, Load, Store, Branch, Call, BranchFill, Return}

-- an operation in the low 27 bits of a word: the opcode from bit 22 on, and the fields below. The kind
-- of a load or a store is the memory's number and 4 times the width's
abbrev pub op_code : Op → ℕ
op_code (AluImm func rd ra imm) = imm_func_number func * 2 ^ 22 + rd * 2 ^ 17 + ra * 2 ^ 12 + imm
op_code (AluReg func rd ra rb) = 8 * 2 ^ 22 + rd * 2 ^ 17 + ra * 2 ^ 12 + rb * 2 ^ 7 + alu_func_number func
op_code (Mul unsigned ra rb) = 9 * 2 ^ 22 + ra * 2 ^ 12 + rb * 2 ^ 7 + (if unsigned then 1 else 0)
op_code (Cmp func pd ra rb) = 10 * 2 ^ 22 + pd * 2 ^ 17 + ra * 2 ^ 12 + rb * 2 ^ 7 + cmp_func_number func
op_code (CmpImm func pd ra imm) = 11 * 2 ^ 22 + pd * 2 ^ 17 + ra * 2 ^ 12 + imm * 2 ^ 7 + cmp_func_number func
op_code (Comb func pd a b) =
    12 * 2 ^ 22 + pd * 2 ^ 17 + guard_number a * 2 ^ 13 + guard_number b * 2 ^ 9 + pred_func_number func
op_code (ToSpecial special ra) = 13 * 2 ^ 22 + ra * 2 ^ 12 + writable_special_number special
op_code (FromSpecial rd special) = 14 * 2 ^ 22 + rd * 2 ^ 17 + special_number special
op_code (Stack func count) = 15 * 2 ^ 22 + stack_func_number func * 2 ^ 18 + count
op_code (Load space width rd ra imm) =
    16 * 2 ^ 22 + rd * 2 ^ 17 + ra * 2 ^ 12 + (mem_number space + 4 * width_number width) * 2 ^ 7 + imm
op_code (Store space width ra rs imm) =
    17 * 2 ^ 22 + (mem_number space + 4 * store_width_number width) * 2 ^ 17 + ra * 2 ^ 12 + rs * 2 ^ 7 + imm
op_code (Branch offset) = 18 * 2 ^ 22 + offset_bits offset
op_code (Call target) = 19 * 2 ^ 22 + target
op_code (BranchFill target) = 20 * 2 ^ 22 + target
op_code Return = 21 * 2 ^ 22
op_code (AluLong func rd ra _) = 22 * 2 ^ 22 + rd * 2 ^ 17 + ra * 2 ^ 12 + alu_func_number func

-- an instruction in the low 31 bits of a word: the guard above the operation
abbrev pub instr_code : Instr → ℕ
instr_code i = guard_number i.guard * 2 ^ 27 + op_code i.op

-- what stands in a bundle's second word, where it has one: the second instruction, or the constant of a
-- long immediate operation
abbrev pub second_word : Op → Option Instr → Option ℕ
second_word _ (Some i) = Some (instr_code i)
second_word (AluLong _ _ _ constant) None = Some constant
second_word _ None = None

-- the first word alone, or both, with bit 31 set in the first
abbrev pub words : ℕ → Option ℕ → List ℕ
words first None = first ∷ []
words first (Some second) = (2 ^ 31 + first) ∷ second ∷ []

-- the code of a bundle: its words, one or two
unfoldable pub code : PlainBundle → List ℕ
code b = words (instr_code b.first) (second_word b.first.op b.second)

-- two words stand for a bundle: the first has bit 31 clear and is the bundle's code, or it has bit 31
-- set and both are the bundle's code
abbrev pub StandFor : ℕ → ℕ → PlainBundle → Type 0
StandFor first second b = code b ≡ (if nat_lt first (2 ^ 31) then first ∷ [] else first ∷ second ∷ [])

-- an answer is exact: it is the bundle for which two words stand, or None where they stand for none. In
-- a contract a field is a plain number, so a bundle is one whose fields are in their ranges
abbrev pub Decodes : ℕ → ℕ → Option PlainBundle → Type 0
Decodes first second answer =
    MatchOption answer ((b : PlainBundle) → FitsBundle b → ¬ StandFor first second b)
    (λ b. FitsBundle b × StandFor first second b)
