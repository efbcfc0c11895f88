-- To be believed. The forms of an instruction: its mnemonics, its operands, and the operation that they are.
use Rattle.std.specs.Prelude.{ℕ, ◌^◌, ◌==◌, nat_lt, false, true, if◌then◌else◌, List, [], ◌∷◌, ◌++◌, map, bytes_eq, codes, slice_get, Option, Some, None, Result, Ok, Err}
use Rattle.std.specs.Option.{ok_or, option_map, option_and_then}
use Rattle.patmos_forms.specs.Readers.{sign_at}
use Rattle.std.specs.List.{find, flat_map}
use Rattle.patmos_instr.specs.Functions.{imm_funcs, alu_funcs, cmp_funcs, pred_funcs, stack_funcs}
use Rattle.patmos_instr.specs.Memories.{mems, widths, store_widths}
use Rattle.patmos_instr.specs.Specials.{specials, writable_specials}
use Rattle.patmos_instr.specs.declared.functions.ImmFunc.{ImmFunc}
use Rattle.patmos_instr.specs.declared.functions.ImmFunc.TheVariants as imm
use Rattle.patmos_instr.specs.declared.functions.AluFunc.{AluFunc}
use Rattle.patmos_instr.specs.declared.functions.AluFunc.TheVariants as alu
use Rattle.patmos_instr.specs.declared.functions.CmpFunc.{CmpFunc}
use Rattle.patmos_instr.specs.declared.functions.CmpFunc.TheVariants as cmp
use Rattle.patmos_instr.specs.declared.functions.PredFunc.{PredFunc}
use Rattle.patmos_instr.specs.declared.functions.PredFunc.TheVariants as comb
use Rattle.patmos_instr.specs.declared.functions.StackFunc.{StackFunc}
use Rattle.patmos_instr.specs.declared.functions.StackFunc.TheVariants as stack
use Rattle.patmos_instr.specs.declared.memories.Mem.{Mem}
use Rattle.patmos_instr.specs.declared.memories.Mem.TheVariants as mem
use Rattle.patmos_instr.specs.declared.memories.Width.{Width}
use Rattle.patmos_instr.specs.declared.memories.Width.TheVariants as load
use Rattle.patmos_instr.specs.declared.memories.StoreWidth.{StoreWidth}
use Rattle.patmos_instr.specs.declared.memories.StoreWidth.TheVariants as store
use Rattle.patmos_instr.specs.declared.guards.Guard.{Guard}
use Rattle.patmos_instr.specs.declared.instructions.Op.{Op}
use Rattle.patmos_instr.specs.declared.instructions.Op.TheVariants as op
use Rattle.patmos_forms.specs.declared.forms.JumpKind.{JumpKind}
use Rattle.patmos_forms.specs.declared.forms.JumpKind.TheVariants.{Branch, Call, BranchFill}
use Rattle.patmos_forms.specs.declared.forms.Form.{Form}
use Rattle.patmos_forms.specs.declared.forms.Form.TheVariants.{AluReg, AluImm, AluLong, Mul, Cmp, CmpImm, Comb, ToSpecial, FromSpecial, Stack, Load, Store, Return, Nop}
use Rattle.patmos_forms.specs.declared.faults.AsmKind.{AsmKind}
use Rattle.patmos_forms.specs.declared.faults.AsmKind.TheVariants.{Operand, Range}
use Rattle.patmos_forms.specs.Faults.{◌>>=◌}
use Rattle.patmos_forms.specs.Operands.{Token, register, predicate, negation, number, offset, special, writable, sign, negation_at, numbered_at, read}

abbrev pub imm_name : ImmFunc → List ℕ
imm_name imm.Add = codes "add"
imm_name imm.Sub = codes "sub"
imm_name imm.Xor = codes "xor"
imm_name imm.Sl = codes "sl"
imm_name imm.Sr = codes "sr"
imm_name imm.Sra = codes "sra"
imm_name imm.Or = codes "or"
imm_name imm.And = codes "and"

abbrev pub alu_name : AluFunc → List ℕ
alu_name alu.Add = codes "add"
alu_name alu.Sub = codes "sub"
alu_name alu.Xor = codes "xor"
alu_name alu.Sl = codes "sl"
alu_name alu.Sr = codes "sr"
alu_name alu.Sra = codes "sra"
alu_name alu.Or = codes "or"
alu_name alu.And = codes "and"
alu_name alu.Nor = codes "nor"
alu_name alu.Shadd = codes "shadd"
alu_name alu.Shadd2 = codes "shadd2"

-- a compare of two registers, and of a register and a number
abbrev pub cmp_name : CmpFunc → List ℕ
cmp_name cmp.Eq = codes "cmpeq"
cmp_name cmp.Neq = codes "cmpneq"
cmp_name cmp.Lt = codes "cmplt"
cmp_name cmp.Le = codes "cmple"
cmp_name cmp.Ult = codes "cmpult"
cmp_name cmp.Ule = codes "cmpule"
cmp_name cmp.Btest = codes "btest"

abbrev pub cmp_imm_name : CmpFunc → List ℕ
cmp_imm_name cmp.Eq = codes "cmpieq"
cmp_imm_name cmp.Neq = codes "cmpineq"
cmp_imm_name cmp.Lt = codes "cmpilt"
cmp_imm_name cmp.Le = codes "cmpile"
cmp_imm_name cmp.Ult = codes "cmpiult"
cmp_imm_name cmp.Ule = codes "cmpiule"
cmp_imm_name cmp.Btest = codes "btesti"

abbrev pub pred_name : PredFunc → List ℕ
pred_name comb.Por = codes "por"
pred_name comb.Pand = codes "pand"
pred_name comb.Pxor = codes "pxor"

abbrev pub stack_name : StackFunc → List ℕ
stack_name stack.Sres = codes "sres"
stack_name stack.Sens = codes "sens"
stack_name stack.Sfree = codes "sfree"

-- a load and a store, to which the letter of the memory is added
abbrev pub load_name : Width → List ℕ
load_name load.Word = codes "lw"
load_name load.Half = codes "lh"
load_name load.Byte = codes "lb"
load_name load.HalfUnsigned = codes "lhu"
load_name load.ByteUnsigned = codes "lbu"

abbrev pub store_name : StoreWidth → List ℕ
store_name store.Word = codes "sw"
store_name store.Half = codes "sh"
store_name store.Byte = codes "sb"

abbrev pub mem_name : Mem → List ℕ
mem_name mem.S = codes "s"
mem_name mem.L = codes "l"
mem_name mem.C = codes "c"
mem_name mem.M = codes "m"

abbrev pub flow_name : JumpKind → List ℕ
flow_name Branch = codes "br"
flow_name Call = codes "call"
flow_name BranchFill = codes "brcf"

-- the mnemonic of each form
abbrev pub mnemonic : Form → List ℕ
mnemonic (AluReg f) = alu_name f
mnemonic (AluImm f) = imm_name f ++ codes "i"
mnemonic (AluLong f) = alu_name f ++ codes "l"
mnemonic (Mul false) = codes "mul"
mnemonic (Mul true) = codes "mulu"
mnemonic (Cmp f) = cmp_name f
mnemonic (CmpImm f) = cmp_imm_name f
mnemonic (Comb f) = pred_name f
mnemonic ToSpecial = codes "mts"
mnemonic FromSpecial = codes "mfs"
mnemonic (Stack f) = stack_name f
mnemonic (Load w m) = load_name w ++ mem_name m
mnemonic (Store w m) = store_name w ++ mem_name m
mnemonic Return = codes "ret"
mnemonic Nop = codes "nop"

abbrev pub forms : List Form
forms =
    map AluReg alu_funcs ++ map AluImm imm_funcs ++ map AluLong alu_funcs ++ Mul false ∷ Mul true ∷ []
    ++ map Cmp cmp_funcs ++ map CmpImm cmp_funcs ++ map Comb pred_funcs ++ ToSpecial ∷ FromSpecial ∷ []
    ++ map Stack stack_funcs ++ flat_map (λ w. map (Load w) mems) widths
    ++ flat_map (λ w. map (Store w) mems) store_widths
    ++ Return ∷ Nop ∷ []

-- the jump of a mnemonic, and the form
abbrev pub flow_of : List ℕ → Option JumpKind
flow_of word = find (λ flow. bytes_eq word (flow_name flow)) (Branch ∷ Call ∷ BranchFill ∷ [])

abbrev pub form_of : List ℕ → Option Form
form_of word = find (λ form. bytes_eq word (mnemonic form)) forms

-- the operands of each form, in the order in which they stand
abbrev pub operands : Form → List Token
operands (AluReg _) = register ∷ sign 61 ∷ register ∷ sign 44 ∷ register ∷ []
operands (AluImm _) = register ∷ sign 61 ∷ register ∷ sign 44 ∷ number ∷ []
operands (AluLong _) = register ∷ sign 61 ∷ register ∷ sign 44 ∷ number ∷ []
operands (Mul _) = register ∷ sign 44 ∷ register ∷ []
operands (Cmp _) = predicate ∷ sign 61 ∷ register ∷ sign 44 ∷ register ∷ []
operands (CmpImm _) = predicate ∷ sign 61 ∷ register ∷ sign 44 ∷ number ∷ []
operands (Comb _) = predicate ∷ sign 61 ∷ negation ∷ predicate ∷ sign 44 ∷ negation ∷ predicate ∷ []
operands ToSpecial = writable ∷ sign 61 ∷ register ∷ []
operands FromSpecial = register ∷ sign 61 ∷ special ∷ []
operands (Stack _) = number ∷ []
operands (Load _ _) = register ∷ sign 61 ∷ sign 91 ∷ register ∷ offset ∷ sign 93 ∷ []
operands (Store _ _) = sign 91 ∷ register ∷ offset ∷ sign 93 ∷ sign 61 ∷ register ∷ []
operands Return = []
operands Nop = []

-- the number, where it is below the limit of its field
abbrev pub below : ℕ → ℕ → Result ℕ AsmKind
below limit n = if nat_lt n limit then Ok n else Err Range

-- a predicate or its negation
abbrev pub guard_of : ℕ → ℕ → Result Guard AsmKind
guard_of negated p = below 8 p >>= λ q. Ok (record { negated = negated == 1; pred = q })

-- the operation of each form with these numbers, where each of them fits its field
abbrev pub op_of : Form → List ℕ → Result Op AsmKind
op_of (AluReg f) (d ∷ a ∷ b ∷ []) = do
  rd ← below 32 d
  ra ← below 32 a
  rb ← below 32 b
  Ok (op.AluReg f rd ra rb)
op_of (AluImm f) (d ∷ a ∷ n ∷ []) = do
  rd ← below 32 d
  ra ← below 32 a
  imm ← below 4096 n
  Ok (op.AluImm f rd ra imm)
op_of (AluLong f) (d ∷ a ∷ n ∷ []) = do
  rd ← below 32 d
  ra ← below 32 a
  constant ← below (2 ^ 32) n
  Ok (op.AluLong f rd ra constant)
op_of (Mul unsigned) (a ∷ b ∷ []) = do
  ra ← below 32 a
  rb ← below 32 b
  Ok (op.Mul unsigned ra rb)
op_of (Cmp f) (d ∷ a ∷ b ∷ []) = do
  pd ← below 8 d
  ra ← below 32 a
  rb ← below 32 b
  Ok (op.Cmp f pd ra rb)
op_of (CmpImm f) (d ∷ a ∷ n ∷ []) = do
  pd ← below 8 d
  ra ← below 32 a
  imm ← below 32 n
  Ok (op.CmpImm f pd ra imm)
op_of (Comb f) (d ∷ m ∷ a ∷ n ∷ b ∷ []) = do
  pd ← below 8 d
  ga ← guard_of m a
  gb ← guard_of n b
  Ok (op.Comb f pd ga gb)
op_of ToSpecial (s ∷ a ∷ []) = do
  special_register ← ok_or (slice_get writable_specials s) Range
  ra ← below 32 a
  Ok (op.ToSpecial special_register ra)
op_of FromSpecial (d ∷ s ∷ []) = do
  rd ← below 32 d
  special_register ← ok_or (slice_get specials s) Range
  Ok (op.FromSpecial rd special_register)
op_of (Stack f) (n ∷ []) = do
  count ← below 4096 n
  Ok (op.Stack f count)
op_of (Load w m) (d ∷ a ∷ n ∷ []) = do
  rd ← below 32 d
  ra ← below 32 a
  imm ← below 128 n
  Ok (op.Load m w rd ra imm)
op_of (Store w m) (a ∷ n ∷ s ∷ []) = do
  ra ← below 32 a
  imm ← below 128 n
  rs ← below 32 s
  Ok (op.Store m w ra rs imm)
op_of Return [] = Ok op.Return
op_of Nop [] = Ok (op.AluImm imm.Add 0 0 0)
op_of _ _ = Err Range

-- the operation of a form whose operands are written so
abbrev pub op_in : Form → List ℕ → Result Op AsmKind
op_in form text = ok_or (read (operands form) text) Operand >>= op_of form

-- a guard in front of an instruction: the numbers of its negation and its predicate, both 0 where none is
-- written, and what stands after it
abbrev pub guard_at : List ℕ → Option (ℕ × ℕ × List ℕ)
guard_at text = behind text (sign_at 40 text)
  where
    behind : List ℕ → Option (List ℕ) → Option (ℕ × ℕ × List ℕ)
    behind text None = Some (0, 0, text)
    behind text (Some rest) =
        option_and_then (λ p. option_map (λ r. ((negation_at rest).0, p.0, r)) (sign_at 41 p.1))
        (numbered_at 112 (negation_at rest).1)
