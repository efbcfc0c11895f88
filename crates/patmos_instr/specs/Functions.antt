-- To be believed. The numbers that functions have in an instruction's word, and each list in the order of its numbers
-- (Patmos Reference Handbook, instruction opcodes).
use Rattle.std.specs.Prelude.{ℕ, List, [], ◌∷◌}
use Rattle.patmos_instr.specs.declared.functions.ImmFunc.{ImmFunc}
use Rattle.patmos_instr.specs.declared.functions.ImmFunc.TheVariants as imm
use Rattle.patmos_instr.specs.declared.functions.AluFunc.{AluFunc}
use Rattle.patmos_instr.specs.declared.functions.AluFunc.TheVariants as alu
use Rattle.patmos_instr.specs.declared.functions.CmpFunc.{CmpFunc}
use Rattle.patmos_instr.specs.declared.functions.CmpFunc.TheVariants as cmp
use Rattle.patmos_instr.specs.declared.functions.PredFunc.{PredFunc}
use Rattle.patmos_instr.specs.declared.functions.PredFunc.TheVariants as comb
use Rattle.patmos_instr.specs.declared.functions.StackFunc.{StackFunc}
use Rattle.patmos_instr.specs.declared.functions.StackFunc.TheVariants as stack

-- an operation with an immediate: the list of the handbook
abbrev pub imm_func_number : ImmFunc → ℕ
imm_func_number imm.Add = 0
imm_func_number imm.Sub = 1
imm_func_number imm.Xor = 2
imm_func_number imm.Sl = 3
imm_func_number imm.Sr = 4
imm_func_number imm.Sra = 5
imm_func_number imm.Or = 6
imm_func_number imm.And = 7

abbrev pub imm_funcs : List ImmFunc
imm_funcs = imm.Add ∷ imm.Sub ∷ imm.Xor ∷ imm.Sl ∷ imm.Sr ∷ imm.Sra ∷ imm.Or ∷ imm.And ∷ []

-- an operation on two words: the same list, and three more
abbrev pub alu_func_number : AluFunc → ℕ
alu_func_number alu.Add = 0
alu_func_number alu.Sub = 1
alu_func_number alu.Xor = 2
alu_func_number alu.Sl = 3
alu_func_number alu.Sr = 4
alu_func_number alu.Sra = 5
alu_func_number alu.Or = 6
alu_func_number alu.And = 7
alu_func_number alu.Nor = 8
alu_func_number alu.Shadd = 9
alu_func_number alu.Shadd2 = 10

abbrev pub alu_funcs : List AluFunc
alu_funcs =
    alu.Add ∷ alu.Sub ∷ alu.Xor ∷ alu.Sl ∷ alu.Sr ∷ alu.Sra ∷ alu.Or ∷ alu.And ∷ alu.Nor ∷ alu.Shadd ∷ alu.Shadd2 ∷ []

-- a compare
abbrev pub cmp_func_number : CmpFunc → ℕ
cmp_func_number cmp.Eq = 0
cmp_func_number cmp.Neq = 1
cmp_func_number cmp.Lt = 2
cmp_func_number cmp.Le = 3
cmp_func_number cmp.Ult = 4
cmp_func_number cmp.Ule = 5
cmp_func_number cmp.Btest = 6

abbrev pub cmp_funcs : List CmpFunc
cmp_funcs = cmp.Eq ∷ cmp.Neq ∷ cmp.Lt ∷ cmp.Le ∷ cmp.Ult ∷ cmp.Ule ∷ cmp.Btest ∷ []

-- a combination of predicates
abbrev pub pred_func_number : PredFunc → ℕ
pred_func_number comb.Por = 0
pred_func_number comb.Pand = 1
pred_func_number comb.Pxor = 2

abbrev pub pred_funcs : List PredFunc
pred_funcs = comb.Por ∷ comb.Pand ∷ comb.Pxor ∷ []

-- an operation of the stack cache
abbrev pub stack_func_number : StackFunc → ℕ
stack_func_number stack.Sres = 0
stack_func_number stack.Sens = 1
stack_func_number stack.Sfree = 2

abbrev pub stack_funcs : List StackFunc
stack_funcs = stack.Sres ∷ stack.Sens ∷ stack.Sfree ∷ []
