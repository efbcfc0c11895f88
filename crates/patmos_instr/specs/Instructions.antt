-- To be believed. The kinds of instruction: which one fills a bundle by itself, which ones the second slot takes, and
-- the ranges of their fields (Patmos Reference Handbook, bundle and instruction formats; TP1, our
-- profile, says what the second slot takes).
use Rattle.std.specs.Prelude.{Bool, true, false, ◌^◌, ◌<◌}
use Rattle.patmos_instr.specs.Fields.{FitsReg, FitsPred, FitsImm5, FitsImm7, FitsImm12, FitsAddr22, FitsOff22}
use Rattle.patmos_instr.specs.Guards.{FitsGuard}
use Rattle.patmos_instr.specs.declared.functions.ImmFunc.TheVariants as imm_func
use Rattle.patmos_instr.specs.declared.instructions.Instr.{Instr}
use Rattle.patmos_instr.specs.declared.instructions.Op.{Op}
use Rattle.patmos_instr.specs.declared.instructions.Op.TheVariants.{AluImm, AluReg, AluLong, Mul, Cmp, CmpImm, Comb, ToSpecial, FromSpecial, Stack, Load, Store, Branch, Call, BranchFill, Return}

-- a long immediate operation, whose constant is the bundle's second word
abbrev pub is_long : Op → Bool
is_long (AluLong _ _ _ _) = true
is_long _ = false

-- the second slot takes operations on registers and with short immediates, compares, and combinations
-- of predicates
abbrev pub is_second_kind : Op → Bool
is_second_kind (AluImm _ _ _ _) = true
is_second_kind (AluReg _ _ _ _) = true
is_second_kind (Cmp _ _ _ _) = true
is_second_kind (CmpImm _ _ _ _) = true
is_second_kind (Comb _ _ _ _) = true
is_second_kind _ = false

-- each field is in its range
abbrev pub FitsOp : Op → Type 0
FitsOp (AluImm _ rd ra imm) = FitsReg rd × FitsReg ra × FitsImm12 imm
FitsOp (AluReg _ rd ra rb) = FitsReg rd × FitsReg ra × FitsReg rb
FitsOp (AluLong _ rd ra constant) = FitsReg rd × FitsReg ra × (constant < 2 ^ 32)
FitsOp (Mul _ ra rb) = FitsReg ra × FitsReg rb
FitsOp (Cmp _ pd ra rb) = FitsPred pd × FitsReg ra × FitsReg rb
FitsOp (CmpImm _ pd ra imm) = FitsPred pd × FitsReg ra × FitsImm5 imm
FitsOp (Comb _ pd a b) = FitsPred pd × FitsGuard a × FitsGuard b
FitsOp (ToSpecial _ ra) = FitsReg ra
FitsOp (FromSpecial rd _) = FitsReg rd
FitsOp (Stack _ count) = FitsImm12 count
FitsOp (Load _ _ rd ra imm) = FitsReg rd × FitsReg ra × FitsImm7 imm
FitsOp (Store _ _ ra rs imm) = FitsReg ra × FitsReg rs × FitsImm7 imm
FitsOp (Branch offset) = FitsOff22 offset
FitsOp (Call target) = FitsAddr22 target
FitsOp (BranchFill target) = FitsAddr22 target
FitsOp Return = Unit {0}

abbrev pub FitsInstr : Instr → Type 0
FitsInstr i = FitsGuard i.guard × FitsOp i.op

-- the instruction that does nothing: (p0) addi r0 = r0, 0
abbrev pub nop : Instr
nop = record { guard = record { negated = false; pred = 0 }; op = AluImm imm_func.Add 0 0 0 }
