-- To be believed. Expressions whose code ends in one instruction, which gives the value and has no predicate of its own: so
-- that instruction may be done under one. A load from memory is none of these.
use Rattle.std.specs.Prelude.{ℕ, ◌+◌, nat_lt, if◌then◌else◌, Option, None, Some, option_map}
use Rattle.patmos_instr.specs.declared.functions.AluFunc.{AluFunc}
use Rattle.patmos_instr.specs.declared.functions.AluFunc.TheVariants as alu
use Rattle.patmos_instr.specs.declared.functions.ImmFunc.{ImmFunc}
use Rattle.patmos_instr.specs.declared.functions.ImmFunc.TheVariants as imm
use Rattle.patmos_instr.specs.declared.instructions.Op.{Op}
use Rattle.patmos_instr.specs.declared.instructions.Op.TheVariants.{AluImm, AluReg}
use Rattle.sp_tree.specs.Need.{need}
use Rattle.sp_tree.specs.Plain.{PlainSp, constant, frame_word, before_one, between_two}
use Rattle.sp_tree.specs.declared.operators.SpBinary.{SpBinary}
use Rattle.sp_tree.specs.declared.operators.SpBinary.TheVariants as binary
use Rattle.sp_tree.specs.declared.operators.SpUnary.{SpUnary}
use Rattle.sp_tree.specs.declared.operators.SpUnary.TheVariants as unary
use Rattle.sp_emit.specs.Expressions.{is_immediate, number_of, value_at}
use Rattle.sp_emit.specs.Instructions.{number_op}
use Rattle.sp_emit.specs.Places.{flag_of, in_register}
use Rattle.sp_emit.specs.declared.stands.Homes.{Homes}

-- operators that are one instruction: on two registers, and on a register and a number
abbrev pub alu_of : SpBinary → Option AluFunc
alu_of binary.BitOr = Some alu.Or
alu_of binary.BitXor = Some alu.Xor
alu_of binary.BitAnd = Some alu.And
alu_of binary.ShiftLeft = Some alu.Sl
alu_of binary.ShiftRight = Some alu.Sra
alu_of binary.ShiftRightUnsigned = Some alu.Sr
alu_of binary.Plus = Some alu.Add
alu_of binary.Minus = Some alu.Sub
alu_of _ = None

abbrev pub imm_of : SpBinary → Option ImmFunc
imm_of binary.BitOr = Some imm.Or
imm_of binary.BitXor = Some imm.Xor
imm_of binary.BitAnd = Some imm.And
imm_of binary.ShiftLeft = Some imm.Sl
imm_of binary.ShiftRight = Some imm.Sra
imm_of binary.ShiftRightUnsigned = Some imm.Sr
imm_of binary.Plus = Some imm.Add
imm_of binary.Minus = Some imm.Sub
imm_of _ = None

abbrev pub unary_op : SpUnary → ℕ → ℕ → Option Op
unary_op unary.Minus to ra = Some (AluReg alu.Sub to 0 ra)
unary_op unary.Complement to ra = Some (AluReg alu.Nor to ra 0)
unary_op unary.Not to ra = None

abbrev pub binary_op : SpBinary → ℕ → ℕ → ℕ → Option Op
binary_op op to ra rb = option_map (λ func. AluReg func to ra rb) (alu_of op)

abbrev pub held_op : SpBinary → ℕ → ℕ → ℕ → Option Op
held_op op to ra n = option_map (λ func. AluImm func to ra n) (imm_of op)

-- and a word of the frame in a register
abbrev pub home_op : Option ℕ → ℕ → ℕ → ℕ → Option Op
home_op (Some p) homes slot to = None
home_op None homes slot to = if in_register homes slot then Some (AluImm imm.Add to (homes + slot) 0) else None

-- the instruction, where the operands stand as after their code and the value goes to a register
abbrev pub last_op : Homes → PlainSp → ℕ → ℕ → Option Op
last_op homes (constant n) rd to = Some (number_op to n)
last_op homes (frame_word slot) rd to = home_op (flag_of homes.flags slot) homes.first slot to
last_op homes (before_one op of) rd to = unary_op op to (value_at homes of rd)
last_op homes (between_two op a b) rd to =
    if is_immediate op b then held_op op to (value_at homes a rd) (number_of b)
    else if nat_lt (need a) (need b) then binary_op op to (value_at homes a (rd + 1)) (value_at homes b rd)
    else binary_op op to (value_at homes a rd) (value_at homes b (rd + 1))
last_op homes _ rd to = None
