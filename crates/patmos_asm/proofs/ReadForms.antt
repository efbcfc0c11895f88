-- Printed mnemonics and operations are read back.
use Rattle.std.proofs.Common.{arith, ◌≡◌, ◌∙◌, ℕ, ◌^◌, ◌<◌, ◌≤◌, ◌==◌, ◌&&◌, Bool, true, false, cond, List, [], ◌∷◌, ◌++◌, length, refl, ap, append_assoc, Option, Some, None, Ok, codes}
use Rattle.std.specs.List.{list_all}
use Rattle.std.specs.Option.{ok_or}
use Rattle.std.proofs.lemmas.Bool.Decides.{nat_tests}
use Rattle.std.proofs.lemmas.Bool.{and_parts}
use Rattle.patmos_instr.specs.Instructions.{FitsOp}
use Rattle.patmos_instr.specs.Specials.{special_number, writable_special_number}
use Rattle.patmos_instr.specs.declared.functions.ImmFunc.TheVariants as imm
use Rattle.patmos_instr.specs.declared.functions.AluFunc.TheVariants as alu
use Rattle.patmos_instr.specs.declared.functions.CmpFunc.TheVariants as cmp
use Rattle.patmos_instr.specs.declared.functions.PredFunc.TheVariants as comb
use Rattle.patmos_instr.specs.declared.functions.StackFunc.TheVariants as stack
use Rattle.patmos_instr.specs.declared.memories.Mem.TheVariants as mem
use Rattle.patmos_instr.specs.declared.memories.Width.TheVariants as load
use Rattle.patmos_instr.specs.declared.memories.StoreWidth.TheVariants as store
use Rattle.patmos_instr.specs.declared.guards.Guard.{Guard}
use Rattle.patmos_instr.specs.declared.instructions.Op.{Op}
use Rattle.patmos_instr.specs.declared.instructions.Op.TheVariants as op
use Rattle.patmos_forms.specs.declared.faults.AsmKind.TheVariants.{Operand}
use Rattle.patmos_forms.specs.declared.forms.JumpKind.{JumpKind}
use Rattle.patmos_forms.specs.declared.forms.JumpKind.TheVariants.{Branch, Call, BranchFill}
use Rattle.patmos_forms.specs.declared.forms.Form.{Form}
use Rattle.patmos_forms.specs.declared.forms.Form.TheVariants.{AluReg, AluImm, AluLong, Mul, Cmp, CmpImm, Comb, ToSpecial, FromSpecial, Stack, Load, Store, Return, Nop}
use Rattle.patmos_forms.specs.Faults.{◌>>=◌}
use Rattle.patmos_forms.specs.Readers.{is_in_word, begins_name, is_in_name, is_name, word_at, at_end}
use Rattle.patmos_syntax.specs.Drafts.{Draft, ready, to, name_in, draft_in}
use Rattle.patmos_forms.specs.Operands.{Token, register, predicate, negation, number, offset, special, writable, sign, read}
use Rattle.patmos_forms.specs.Forms.{mnemonic, flow_name, flow_of, form_of, operands, below, guard_of, op_of, op_in}
use Rattle.patmos_asm.specs.Written.{written, form_text, op_text, draft_text, flag}
use Rattle.patmos_asm.proofs.Lines.{is_harmless}
use Rattle.patmos_asm.proofs.ReadWords.{ends_word, some_word_read}
use Rattle.patmos_asm.proofs.ReadOperands.{is_row, AreValues, read_written}
use Rattle.patmos_code.proofs.Numbers.{special_small, special_back, writable_special_small, writable_special_back}

-- an operation that is written with a name
abbrev pub is_flow : Op → Bool
is_flow (op.Branch _) = true
is_flow (op.Call _) = true
is_flow (op.BranchFill _) = true
is_flow _ = false

-- a mnemonic is a word, no jump, and that of its form
pub record IsMnemonic (form : Form) : Type 0 where
  pub word : list_all is_in_word (mnemonic form) ≡ true
  pub some : 0 < length (mnemonic form)
  pub harmless : list_all is_harmless (mnemonic form) ≡ true
  pub no_jump : flow_of (mnemonic form) ≡ None
  pub back : form_of (mnemonic form) ≡ Some form

found : (form : Form) → list_all is_in_word (mnemonic form) ≡ true → list_all is_harmless (mnemonic form) ≡ true
    → 0 < length (mnemonic form) → flow_of (mnemonic form) ≡ None → form_of (mnemonic form) ≡ Some form
    → IsMnemonic form
found form w h s n b = record { word = w; harmless = h; some = s; no_jump = n; back = b }

pub is_mnemonic : (form : Form) → IsMnemonic form
is_mnemonic (AluReg f) = elim f as (λ y. IsMnemonic (AluReg y)) [
  | alu.Add ↦ found (AluReg alu.Add) refl refl
      (omega arith) refl refl
  | alu.Sub ↦ found (AluReg alu.Sub) refl refl (omega arith) refl refl
  | alu.Xor ↦ found
      (AluReg alu.Xor) refl refl (omega arith) refl refl
  | alu.Sl ↦ found (AluReg alu.Sl) refl refl (omega arith) refl
      refl
  | alu.Sr ↦ found (AluReg alu.Sr) refl refl (omega arith) refl refl
  | alu.Sra ↦ found (AluReg alu.Sra)
      refl refl (omega arith) refl refl
  | alu.Or ↦ found (AluReg alu.Or) refl refl (omega arith) refl
      refl
  | alu.And ↦ found (AluReg alu.And) refl refl (omega arith) refl refl
  | alu.Nor ↦ found
      (AluReg alu.Nor) refl refl (omega arith) refl refl
  | alu.Shadd ↦ found (AluReg alu.Shadd) refl
      refl (omega arith) refl refl
  | alu.Shadd2 ↦ found (AluReg alu.Shadd2) refl refl
      (omega arith) refl refl
]
is_mnemonic (AluImm f) = elim f as (λ y. IsMnemonic (AluImm y)) [
  | imm.Add ↦ found (AluImm imm.Add) refl refl
      (omega arith) refl refl
  | imm.Sub ↦ found (AluImm imm.Sub) refl refl (omega arith) refl refl
  | imm.Xor ↦ found
      (AluImm imm.Xor) refl refl (omega arith) refl refl
  | imm.Sl ↦ found (AluImm imm.Sl) refl refl (omega arith) refl
      refl
  | imm.Sr ↦ found (AluImm imm.Sr) refl refl (omega arith) refl refl
  | imm.Sra ↦ found (AluImm imm.Sra)
      refl refl (omega arith) refl refl
  | imm.Or ↦ found (AluImm imm.Or) refl refl (omega arith) refl
      refl
  | imm.And ↦ found (AluImm imm.And) refl refl (omega arith) refl refl
]
is_mnemonic (AluLong f) = elim f as (λ y. IsMnemonic (AluLong y)) [
  | alu.Add ↦ found (AluLong alu.Add) refl refl
      (omega arith) refl refl
  | alu.Sub ↦ found (AluLong alu.Sub) refl refl (omega arith) refl refl
  | alu.Xor ↦ found
      (AluLong alu.Xor) refl refl (omega arith) refl refl
  | alu.Sl ↦ found (AluLong alu.Sl) refl refl
      (omega arith) refl refl
  | alu.Sr ↦ found (AluLong alu.Sr) refl refl (omega arith) refl refl
  | alu.Sra ↦
      found (AluLong alu.Sra) refl refl (omega arith) refl refl
  | alu.Or ↦ found (AluLong alu.Or) refl refl
      (omega arith) refl refl
  | alu.And ↦ found (AluLong alu.And) refl refl (omega arith) refl
      refl
  | alu.Nor ↦ found (AluLong alu.Nor) refl refl (omega arith) refl refl
  | alu.Shadd ↦ found
      (AluLong alu.Shadd) refl refl (omega arith) refl refl
  | alu.Shadd2 ↦ found
      (AluLong alu.Shadd2) refl refl (omega arith) refl refl
]
is_mnemonic (Mul unsigned) = elim unsigned as (λ y. IsMnemonic (Mul y)) [
  | true ↦ found (Mul true) refl refl
      (omega arith) refl refl
  | false ↦ found (Mul false) refl refl (omega arith) refl refl
]
is_mnemonic (Cmp f) = elim f as (λ y. IsMnemonic (Cmp y)) [
  | cmp.Eq ↦ found (Cmp cmp.Eq) refl refl (omega arith) refl
      refl
  | cmp.Neq ↦ found (Cmp cmp.Neq) refl refl (omega arith) refl refl
  | cmp.Lt ↦ found (Cmp cmp.Lt) refl refl
      (omega arith) refl refl
  | cmp.Le ↦ found (Cmp cmp.Le) refl refl (omega arith) refl refl
  | cmp.Ult ↦ found
      (Cmp cmp.Ult) refl refl (omega arith) refl refl
  | cmp.Ule ↦ found (Cmp cmp.Ule) refl refl (omega arith) refl
      refl
  | cmp.Btest ↦ found (Cmp cmp.Btest) refl refl (omega arith) refl refl
]
is_mnemonic (CmpImm f) = elim f as (λ y. IsMnemonic (CmpImm y)) [
  | cmp.Eq ↦ found (CmpImm cmp.Eq) refl refl
      (omega arith) refl refl
  | cmp.Neq ↦ found (CmpImm cmp.Neq) refl refl (omega arith) refl refl
  | cmp.Lt ↦ found
      (CmpImm cmp.Lt) refl refl (omega arith) refl refl
  | cmp.Le ↦ found (CmpImm cmp.Le) refl refl (omega arith) refl
      refl
  | cmp.Ult ↦ found (CmpImm cmp.Ult) refl refl (omega arith) refl refl
  | cmp.Ule ↦ found (CmpImm cmp.Ule)
      refl refl (omega arith) refl refl
  | cmp.Btest ↦ found (CmpImm cmp.Btest) refl refl
      (omega arith) refl refl
]
is_mnemonic (Comb f) = elim f as (λ y. IsMnemonic (Comb y)) [
  | comb.Por ↦ found (Comb comb.Por) refl refl
      (omega arith) refl refl
  | comb.Pand ↦ found (Comb comb.Pand) refl refl (omega arith) refl refl
  | comb.Pxor ↦ found
      (Comb comb.Pxor) refl refl (omega arith) refl refl
]
is_mnemonic (Stack f) = elim f as (λ y. IsMnemonic (Stack y)) [
  | stack.Sres ↦ found (Stack stack.Sres) refl refl
      (omega arith) refl refl
  | stack.Sens ↦ found (Stack stack.Sens) refl refl (omega arith) refl refl
  | stack.Sfree ↦
      found (Stack stack.Sfree) refl refl (omega arith) refl refl
]
is_mnemonic (Load w m) = elim w as (λ y. IsMnemonic (Load y m)) [
  | load.Word ↦ elim m as (λ y. IsMnemonic (Load load.Word y)) [
    | mem.S ↦ found (Load load.Word mem.S) refl refl
        (omega arith) refl refl
    | mem.L ↦ found (Load load.Word mem.L) refl refl (omega arith) refl refl
    | mem.C ↦ found
        (Load load.Word mem.C) refl refl (omega arith) refl refl
    | mem.M ↦ found (Load load.Word mem.M) refl refl
        (omega arith) refl refl
  ]
  | load.Half ↦ elim m as (λ y. IsMnemonic (Load load.Half y)) [
    | mem.S ↦ found
        (Load load.Half mem.S) refl refl (omega arith) refl refl
    | mem.L ↦ found (Load load.Half mem.L) refl
        refl (omega arith) refl refl
    | mem.C ↦ found (Load load.Half mem.C) refl refl (omega arith) refl
        refl
    | mem.M ↦ found (Load load.Half mem.M) refl refl (omega arith) refl
        refl
  ]
  | load.Byte ↦ elim m as (λ y. IsMnemonic (Load load.Byte y)) [
    | mem.S ↦ found
        (Load load.Byte mem.S) refl refl (omega arith) refl refl
    | mem.L ↦ found
        (Load load.Byte mem.L) refl refl (omega arith) refl refl
    | mem.C ↦ found
        (Load load.Byte mem.C) refl refl (omega arith) refl refl
    | mem.M ↦ found
        (Load load.Byte mem.M) refl refl (omega arith) refl
        refl
  ]
  | load.HalfUnsigned ↦
      elim m as (λ y. IsMnemonic (Load load.HalfUnsigned y)) [
        | mem.S ↦ found (Load load.HalfUnsigned mem.S) refl refl
            (omega arith) refl refl
        | mem.L ↦ found
            (Load load.HalfUnsigned mem.L) refl refl
            (omega arith) refl refl
        | mem.C ↦ found
            (Load load.HalfUnsigned mem.C) refl refl
            (omega arith) refl refl
        | mem.M ↦ found
            (Load load.HalfUnsigned mem.M) refl
            refl (omega arith) refl
            refl
      ]
  | load.ByteUnsigned ↦
      elim m as (λ y.
      IsMnemonic (Load
      load.ByteUnsigned y)) [
        | mem.S ↦ found (Load load.ByteUnsigned mem.S) refl refl (omega arith) refl refl
        | mem.L ↦
            found (Load load.ByteUnsigned mem.L) refl refl (omega arith) refl refl
        | mem.C ↦ found
            (Load load.ByteUnsigned mem.C) refl refl (omega arith) refl refl
        | mem.M ↦ found
            (Load load.ByteUnsigned mem.M) refl refl (omega arith) refl refl
      ]
]
is_mnemonic (Store w m) = elim w as (λ y. IsMnemonic (Store y m)) [
  | store.Word ↦
      elim m as (λ y. IsMnemonic (Store store.Word y)) [
        | mem.S ↦ found (Store store.Word mem.S) refl refl
            (omega arith) refl refl
        | mem.L ↦ found (Store store.Word mem.L) refl refl (omega arith) refl refl
        | mem.C ↦
            found (Store store.Word mem.C) refl refl (omega arith) refl refl
        | mem.M ↦ found (Store store.Word mem.M)
            refl refl (omega arith) refl refl
      ]
  | store.Half ↦ elim m as (λ y. IsMnemonic (Store store.Half y)) [
    | mem.S ↦ found (Store store.Half mem.S) refl refl (omega arith) refl refl
    | mem.L ↦ found
        (Store store.Half mem.L) refl refl (omega arith) refl refl
    | mem.C ↦ found
        (Store store.Half mem.C) refl refl (omega arith) refl refl
    | mem.M ↦ found
        (Store store.Half mem.M) refl refl (omega arith) refl refl
  ]
  | store.Byte ↦
      elim m as (λ y. IsMnemonic (Store store.Byte y)) [
        | mem.S ↦ found
            (Store store.Byte mem.S) refl refl (omega arith) refl refl
        | mem.L ↦ found
            (Store store.Byte mem.L) refl refl (omega arith) refl refl
        | mem.C ↦ found
            (Store store.Byte mem.C) refl refl (omega arith) refl refl
        | mem.M ↦
            found (Store store.Byte mem.M) refl refl (omega arith) refl refl
      ]
]
is_mnemonic other = found other refl refl (omega arith) refl refl

pub flow_back : (f : JumpKind) → (list_all is_in_word (flow_name f) ≡ true) × (0 < length (flow_name f))
    × (flow_of (flow_name f) ≡ Some f)
flow_back Branch = (refl, omega arith, refl)
flow_back Call = (refl, omega arith, refl)
flow_back BranchFill = (refl, omega arith, refl)

-- numbers that fit their fields
below_fits : (limit n : ℕ) → n < limit → below limit n ≡ Ok n
below_fits limit n h = grind (arith, nat_tests)

flag_back : (b : Bool) → flag b == 1 ≡ b
flag_back true = refl
flag_back false = refl

flag_small : (b : Bool) → flag b < 2
flag_small true = omega arith
flag_small false = omega arith

pub guard_back : (g : Guard) → g.pred < 8 → guard_of (flag g.negated) g.pred ≡ Ok g
guard_back g h = rw (below_fits 8 g.pred h, flag_back g.negated) refl

-- what stands after a mnemonic, where nothing but blanks follows it
pub record Trails (trail : List ℕ) : Type 0 where
  pub end : at_end trail ≡ true
  pub word : ends_word trail ≡ true

-- the operation that a form with such operands is
op_read : (trail : List ℕ) (form : Form) (values : List ℕ) (o : Op)
    → read (operands form) (32 ∷ (written (operands form) values ++ trail)) ≡ Some values → op_of form values ≡ Ok o →
    op_in form (32 ∷ (written (operands form) values ++ trail)) ≡ Ok o
op_read trail form values o r e = ap (λ (x : Option (List ℕ)). ok_or x Operand >>= op_of form) r ∙ e

wide : (n limit : ℕ) → limit ≤ 2 ^ 32 → n < limit → n < 2 ^ 32
wide n limit l h = omega arith

-- an instruction's text is a word and what stands after it, from which this is read
pub record IsRead (trail text : List ℕ) (d : Draft) : Type 0 where
  pub word : List ℕ
  pub tail : List ℕ
  pub split : text ++ trail ≡ word ++ tail
  pub some : 0 < length word
  pub all : list_all is_in_word word ≡ true
  pub ends : ends_word tail ≡ true
  pub draft : draft_in word tail ≡ Ok d

regroup : (a b c d : List ℕ) → ((a ++ b) ++ c) ++ d ≡ a ++ (b ++ (c ++ d))
regroup a b c d = simp append_assoc

plain_read : (form : Form) (tail : List ℕ) (o : Op) → op_in form tail ≡ Ok o → draft_in (mnemonic form) tail
    ≡ Ok (ready o)
unfolding draft_in
plain_read form tail o e = let m = is_mnemonic form in rw (m.no_jump, m.back, e) refl

form_read : (trail : List ℕ) (form : Form) (values : List ℕ) (o : Op)
    → op_in form (32 ∷ (written (operands form) values ++ trail)) ≡ Ok o
    → IsRead trail (form_text form values) (ready o)
form_read trail form values o e =
    let m = is_mnemonic form in
    record {
      word = mnemonic form;
      tail = 32 ∷ (written (operands form) values ++ trail);
      split = regroup (mnemonic form) (32 ∷ []) (written (operands form) values) trail;
      some = m.some;
      all = m.word;
      ends = refl;
      draft = plain_read form (32 ∷ (written (operands form) values ++ trail)) o e;
    }

row_read : (trail : List ℕ) (form : Form) (t : Token) (ts : List Token) (vs : List ℕ) (o : Op) → operands form ≡ t ∷ ts
    → Trails trail → is_row (t ∷ ts) ≡ true → AreValues (t ∷ ts) vs → op_of form vs ≡ Ok o →
    IsRead trail (form_text form vs) (ready o)
row_read trail form t ts vs o is tr r f e =
    let read_back : read (operands form) (32 ∷ (written (operands form) vs ++ trail)) ≡ Some vs =
    rw is (read_written trail t ts vs tr.end tr.word r f) in
    form_read trail form vs o (op_read trail form vs o read_back e)

pub op_back : (trail : List ℕ) (o : Op) → Trails trail → FitsOp o → is_flow o ≡ false
    → IsRead trail (op_text o) (ready o)
op_back trail (op.AluReg f d a b) t h j =
    row_read trail (AluReg f) register (sign 61 ∷ register ∷ sign 44 ∷ register ∷ []) (d ∷ a ∷ b ∷ [])
    (op.AluReg f d a b) refl t refl
    (wide d 32 (omega arith) h.0, (wide a 32 (omega arith) h.1, (wide b 32 (omega arith) h.2, tt)))
    (rw (below_fits 32 d h.0, below_fits 32 a h.1, below_fits 32 b h.2) refl)
op_back trail (op.AluImm f d a n) t h j =
    row_read trail (AluImm f) register (sign 61 ∷ register ∷ sign 44 ∷ number ∷ []) (d ∷ a ∷ n ∷ [])
    (op.AluImm f d a n) refl t refl
    (wide d 32 (omega arith) h.0, (wide a 32 (omega arith) h.1, (wide n 4096 (omega arith) h.2, tt)))
    (rw (below_fits 32 d h.0, below_fits 32 a h.1, below_fits 4096 n h.2) refl)
op_back trail (op.AluLong f d a n) t h j =
    row_read trail (AluLong f) register (sign 61 ∷ register ∷ sign 44 ∷ number ∷ []) (d ∷ a ∷ n ∷ [])
    (op.AluLong f d a n) refl t refl
    (wide d 32 (omega arith) h.0, (wide a 32 (omega arith) h.1, (h.2, tt)))
    (rw (below_fits 32 d h.0, below_fits 32 a h.1, below_fits (2 ^ 32) n h.2) refl)
op_back trail (op.Mul u a b) t h j =
    row_read trail (Mul u) register (sign 44 ∷ register ∷ []) (a ∷ b ∷ []) (op.Mul u a b) refl t refl
    (wide a 32 (omega arith) h.0, (wide b 32 (omega arith) h.1, tt))
    (rw (below_fits 32 a h.0, below_fits 32 b h.1) refl)
op_back trail (op.Cmp f d a b) t h j =
    row_read trail (Cmp f) predicate (sign 61 ∷ register ∷ sign 44 ∷ register ∷ []) (d ∷ a ∷ b ∷ [])
    (op.Cmp f d a b) refl t refl
    (wide d 8 (omega arith) h.0, (wide a 32 (omega arith) h.1, (wide b 32 (omega arith) h.2, tt)))
    (rw (below_fits 8 d h.0, below_fits 32 a h.1, below_fits 32 b h.2) refl)
op_back trail (op.CmpImm f d a n) t h j =
    row_read trail (CmpImm f) predicate (sign 61 ∷ register ∷ sign 44 ∷ number ∷ []) (d ∷ a ∷ n ∷ [])
    (op.CmpImm f d a n) refl t refl
    (wide d 8 (omega arith) h.0, (wide a 32 (omega arith) h.1, (wide n 32 (omega arith) h.2, tt)))
    (rw (below_fits 8 d h.0, below_fits 32 a h.1, below_fits 32 n h.2) refl)
op_back trail (op.Comb f d a b) t h j =
    row_read trail (Comb f) predicate (sign 61 ∷ negation ∷ predicate ∷ sign 44 ∷ negation ∷ predicate ∷ [])
    (d ∷ flag a.negated ∷ a.pred ∷ flag b.negated ∷ b.pred ∷ []) (op.Comb f d a b) refl t refl (
      wide d 8 (omega arith) h.0,
      (
        flag_small a.negated,
        (
          wide a.pred 8 (omega arith) h.1,
          (flag_small b.negated, (wide b.pred 8 (omega arith) h.2, tt)),
        ),
      ),
    )
    (rw (below_fits 8 d h.0, guard_back a h.1, guard_back b h.2) refl)
op_back trail (op.ToSpecial s a) t h j =
    row_read trail ToSpecial writable (sign 61 ∷ register ∷ []) (writable_special_number s ∷ a ∷ [])
    (op.ToSpecial s a) refl t refl
    (writable_special_small s, (wide a 32 (omega arith) h, tt)) (rw (writable_special_back s, below_fits 32 a h) refl)
op_back trail (op.FromSpecial d s) t h j =
    row_read trail FromSpecial register (sign 61 ∷ special ∷ []) (d ∷ special_number s ∷ [])
    (op.FromSpecial d s) refl t refl
    (wide d 32 (omega arith) h, (special_small s, tt)) (rw (below_fits 32 d h, special_back s) refl)
op_back trail (op.Stack f n) t h j =
    row_read trail (Stack f) number [] (n ∷ []) (op.Stack f n) refl t refl (wide n 4096 (omega arith) h, tt)
    (rw (below_fits 4096 n h) refl)
op_back trail (op.Load m w d a n) t h j =
    row_read trail (Load w m) register (sign 61 ∷ sign 91 ∷ register ∷ offset ∷ sign 93 ∷ []) (d ∷ a ∷ n ∷ [])
    (op.Load m w d a n) refl t refl
    (wide d 32 (omega arith) h.0, (wide a 32 (omega arith) h.1, (wide n 128 (omega arith) h.2, tt)))
    (rw (below_fits 32 d h.0, below_fits 32 a h.1, below_fits 128 n h.2) refl)
op_back trail (op.Store m w a s n) t h j =
    row_read trail (Store w m) (sign 91) (register ∷ offset ∷ sign 93 ∷ sign 61 ∷ register ∷ []) (a ∷ n ∷ s ∷ [])
    (op.Store m w a s n) refl t refl
    (wide a 32 (omega arith) h.0, (wide n 128 (omega arith) h.2, (wide s 32 (omega arith) h.1, tt)))
    (rw (below_fits 32 a h.0, below_fits 128 n h.2, below_fits 32 s h.1) refl)
op_back trail op.Return t h j =
    record {
      word = codes "ret";
      tail = trail;
      split = refl;
      some = omega arith;
      all = refl;
      ends = t.word;
      draft = plain_read Return trail op.Return (let end = t.end in rw end refl);
    }
op_back trail _ t h j = cc

-- so is a jump to a name
first_in_word : (b : ℕ) → begins_name b ≡ true → is_in_word b ≡ true
first_in_word b e = grind (arith, nat_tests)

next_in_word : (b : ℕ) → is_in_name b ≡ true → is_in_word b ≡ true
next_in_word b e = grind (arith, nat_tests)

all_in_word : (bs : List ℕ) → list_all is_in_name bs ≡ true → list_all is_in_word bs ≡ true
all_in_word [] e = refl
all_in_word (b ∷ bs) e =
    let t = and_parts (is_in_name b) (list_all is_in_name bs) e in rw (next_in_word b t.0, all_in_word bs t.1) refl

pub name_words : (name : List ℕ) → is_name name ≡ true → (list_all is_in_word name ≡ true) × (0 < length name)
name_words [] e = cc
name_words (b ∷ bs) e =
    let t = and_parts (begins_name b) (list_all is_in_name bs) e in
    (rw (first_in_word b t.0, all_in_word bs t.1) refl, omega arith)

jump_read : (trail : List ℕ) (flow : JumpKind) (name : List ℕ) → Trails trail → is_name name ≡ true
    → draft_in (flow_name flow) (32 ∷ (name ++ trail)) ≡ Ok (to flow name)
unfolding draft_in
jump_read trail flow name t e =
    let f = flow_back flow in
    let n = name_words name e in
    let w : word_at (name ++ trail) ≡ (name, trail) = some_word_read name trail n.1 n.0 t.word in
    let named : name_in (32 ∷ (name ++ trail)) ≡ Some name =
    ap (λ (x : List ℕ × List ℕ). cond (is_name x.0 && at_end x.1) (Some x.0) None) w ∙ rw (e, t.end) refl in
    rw (f.2, named) refl

pub draft_back : (trail : List ℕ) (flow : JumpKind) (name : List ℕ) → Trails trail → is_name name ≡ true
    → IsRead trail (draft_text (to flow name)) (to flow name)
draft_back trail flow name t e =
    let f = flow_back flow in
    record {
      word = flow_name flow;
      tail = 32 ∷ (name ++ trail);
      split = regroup (flow_name flow) (32 ∷ []) name trail;
      some = f.1;
      all = f.0;
      ends = refl;
      draft = jump_read trail flow name t e;
    }
