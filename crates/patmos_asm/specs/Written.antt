-- To be believed. How statements are written: a function or a label on a line of its own, and each bundle on a line
-- of its own after two spaces, with numbers in decimal.
use Rattle.std.specs.Prelude.{ℕ, ◌==◌, Bool, false, not, ◌&&◌, if◌then◌else◌, List, [], ◌∷◌, ◌++◌, codes, slice_index_or, Option, Some, None}
use Rattle.std.specs.Fmt.{decimal}
use Rattle.patmos_instr.specs.Specials.{special_number, writable_special_number}
use Rattle.patmos_instr.specs.declared.functions.ImmFunc.TheVariants as imm
use Rattle.patmos_instr.specs.declared.guards.Guard.{Guard}
use Rattle.patmos_instr.specs.declared.instructions.Instr.{Instr}
use Rattle.patmos_instr.specs.declared.instructions.Op.{Op}
use Rattle.patmos_instr.specs.declared.instructions.Op.TheVariants as op
use Rattle.patmos_forms.specs.declared.forms.Form.{Form}
use Rattle.patmos_forms.specs.declared.forms.Form.TheVariants.{AluReg, AluImm, AluLong, Mul, Cmp, CmpImm, Comb, ToSpecial, FromSpecial, Stack, Load, Store}
use Rattle.patmos_forms.specs.Operands.{Token, register, predicate, negation, number, offset, special, writable, sign, special_names}
use Rattle.patmos_forms.specs.Forms.{mnemonic, operands, flow_name}
use Rattle.patmos_syntax.specs.Drafts.{Draft, ready, to, DraftInstr, DraftBundle}

abbrev pub sign_text : ℕ → List ℕ
sign_text s = if s == 61 then codes " = " else if s == 44 then codes ", " else s ∷ []

abbrev pub token_text : Token → ℕ → List ℕ
token_text register n = codes "r" ++ decimal n
token_text predicate n = codes "p" ++ decimal n
token_text negation n = if n == 1 then codes "!" else []
token_text number n = decimal n
token_text offset n = codes " + " ++ decimal n
token_text special n = slice_index_or special_names n []
token_text writable n = slice_index_or special_names n []
token_text (sign s) n = sign_text s

-- pieces with these numbers, one after another
abbrev pub written : List Token → List ℕ → List ℕ
written [] vs = []
written (sign s ∷ ts) vs = sign_text s ++ written ts vs
written (t ∷ ts) [] = []
written (t ∷ ts) (v ∷ vs) = token_text t v ++ written ts vs

abbrev pub form_text : Form → List ℕ → List ℕ
form_text form values = mnemonic form ++ codes " " ++ written (operands form) values

-- 1 where it holds
abbrev pub flag : Bool → ℕ
flag b = if b then 1 else 0

-- an operation; a jump is written with a name instead
abbrev pub op_text : Op → List ℕ
op_text (op.AluReg f rd ra rb) = form_text (AluReg f) (rd ∷ ra ∷ rb ∷ [])
op_text (op.AluImm f rd ra n) = form_text (AluImm f) (rd ∷ ra ∷ n ∷ [])
op_text (op.AluLong f rd ra n) = form_text (AluLong f) (rd ∷ ra ∷ n ∷ [])
op_text (op.Mul unsigned ra rb) = form_text (Mul unsigned) (ra ∷ rb ∷ [])
op_text (op.Cmp f pd ra rb) = form_text (Cmp f) (pd ∷ ra ∷ rb ∷ [])
op_text (op.CmpImm f pd ra n) = form_text (CmpImm f) (pd ∷ ra ∷ n ∷ [])
op_text (op.Comb f pd a b) = form_text (Comb f) (pd ∷ flag a.negated ∷ a.pred ∷ flag b.negated ∷ b.pred ∷ [])
op_text (op.ToSpecial s ra) = form_text ToSpecial (writable_special_number s ∷ ra ∷ [])
op_text (op.FromSpecial rd s) = form_text FromSpecial (rd ∷ special_number s ∷ [])
op_text (op.Stack f n) = form_text (Stack f) (n ∷ [])
op_text (op.Load m w rd ra n) = form_text (Load w m) (rd ∷ ra ∷ n ∷ [])
op_text (op.Store m w ra rs n) = form_text (Store w m) (ra ∷ n ∷ rs ∷ [])
op_text op.Return = codes "ret"
op_text _ = []

abbrev pub draft_text : Draft → List ℕ
draft_text (ready o) = op_text o
draft_text (to flow name) = flow_name flow ++ codes " " ++ name

-- a guard, which is left out where it is (p0)
abbrev pub guard_text : Guard → List ℕ
guard_text g =
    if not g.negated && g.pred == 0 then []
    else codes "(" ++ (if g.negated then codes "!" else []) ++ codes "p" ++ decimal g.pred ++ codes ") "

-- the instruction whose code is 0
abbrev pub is_nop : Guard → Draft → Bool
is_nop g (ready (op.AluImm imm.Add rd ra n)) = not g.negated && g.pred == 0 && rd == 0 && ra == 0 && n == 0
is_nop g _ = false

abbrev pub instr_text : DraftInstr → List ℕ
instr_text i = if is_nop i.guard i.draft then codes "nop" else guard_text i.guard ++ draft_text i.draft

abbrev pub plain_text : Instr → List ℕ
plain_text i = instr_text (record { guard = i.guard; draft = ready i.op })

abbrev pub second_text : DraftInstr → Option Instr → List ℕ
second_text first None = instr_text first
second_text first (Some i) = codes "{ " ++ instr_text first ++ codes " ; " ++ plain_text i ++ codes " }"

unfoldable pub bundle_text : DraftBundle → List ℕ
bundle_text b = second_text b.first b.second
