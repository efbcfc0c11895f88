-- Printed instructions hold no byte that means something to the cutting of a text.
use Rattle.std.proofs.Common.{arith, ◌≡◌, ℕ, ◌^◌, ◌<◌, ◌==◌, ◌&&◌, not, Bool, true, false, cond, List, [], ◌∷◌, ◌++◌, refl, codes, slice_index_or}
use Rattle.std.specs.Fmt.{decimal}
use Rattle.std.specs.List.{list_all}
use Rattle.std.proofs.lemmas.Bool.Decides.{nat_tests}
use Rattle.std.proofs.lemmas.List.Folds.{list_all-append}
use Rattle.std.proofs.lemmas.Bool.{and_parts}
use Rattle.patmos_instr.specs.Specials.{special_number, writable_special_number}
use Rattle.patmos_instr.specs.Instructions.{FitsOp}
use Rattle.patmos_instr.specs.declared.specials.Special.{Special}
use Rattle.patmos_instr.specs.declared.specials.Special.TheVariants as special_register
use Rattle.patmos_instr.specs.declared.specials.WritableSpecial.{WritableSpecial}
use Rattle.patmos_instr.specs.declared.specials.WritableSpecial.TheVariants as writable_register
use Rattle.patmos_instr.specs.declared.guards.Guard.{Guard}
use Rattle.patmos_instr.specs.declared.instructions.Op.{Op}
use Rattle.patmos_instr.specs.declared.instructions.Op.TheVariants as op
use Rattle.patmos_forms.specs.declared.forms.JumpKind.{JumpKind}
use Rattle.patmos_forms.specs.declared.forms.JumpKind.TheVariants.{Branch, Call, BranchFill}
use Rattle.patmos_forms.specs.declared.forms.Form.{Form}
use Rattle.patmos_forms.specs.declared.forms.Form.TheVariants.{AluReg, AluImm, AluLong, Mul, Cmp, CmpImm, Comb, ToSpecial, FromSpecial, Stack, Load, Store}
use Rattle.patmos_forms.specs.Readers.{is_digit, begins_name, is_in_name, is_name}
use Rattle.patmos_forms.specs.Operands.{Token, register, predicate, negation, number, offset, special, writable, sign, special_names}
use Rattle.patmos_forms.specs.Forms.{mnemonic, flow_name, operands}
use Rattle.patmos_syntax.specs.Drafts.{to, DraftInstr}
use Rattle.patmos_asm.specs.Written.{sign_text, token_text, written, form_text, flag, op_text, draft_text, guard_text, is_nop, instr_text}
use Rattle.patmos_asm.proofs.Lines.{is_harmless}
use Rattle.patmos_asm.proofs.ReadWords.{IsNumeral, decimal_numeral}
use Rattle.patmos_asm.proofs.ReadForms.{is_mnemonic}

abbrev pub AreHarmless : List ℕ → Type 0
AreHarmless text = list_all is_harmless text ≡ true

joined : (a b : List ℕ) → AreHarmless a → AreHarmless b → AreHarmless (a ++ b)
joined a b h k = rw (list_all-append is_harmless a b, h, k) refl

digit_harmless : (b : ℕ) → is_digit b ≡ true → is_harmless b ≡ true
digit_harmless b e = grind (arith, nat_tests)

digits_harmless : (ds : List ℕ) → list_all is_digit ds ≡ true → AreHarmless ds
digits_harmless [] e = refl
digits_harmless (b ∷ ds) e =
    let t = and_parts (is_digit b) (list_all is_digit ds) e in rw (digit_harmless b t.0, digits_harmless ds t.1) refl

pub decimal_harmless : (n : ℕ) → n < 2 ^ 64 → AreHarmless (decimal n)
decimal_harmless n h = let p : IsNumeral n (decimal n) = decimal_numeral n h in digits_harmless (decimal n) p.digits

first_harmless : (b : ℕ) → begins_name b ≡ true → is_harmless b ≡ true
first_harmless b e = grind (arith, nat_tests)

next_harmless : (b : ℕ) → is_in_name b ≡ true → is_harmless b ≡ true
next_harmless b e = grind (arith, nat_tests)

rest_harmless : (bs : List ℕ) → list_all is_in_name bs ≡ true → AreHarmless bs
rest_harmless [] e = refl
rest_harmless (b ∷ bs) e =
    let t = and_parts (is_in_name b) (list_all is_in_name bs) e in rw (next_harmless b t.0, rest_harmless bs t.1) refl

pub name_harmless : (name : List ℕ) → is_name name ≡ true → AreHarmless name
name_harmless [] e = cc
name_harmless (b ∷ bs) e = let t = and_parts (begins_name b) (list_all is_in_name bs) e in
    rw (first_harmless b t.0, rest_harmless bs t.1) refl

-- the texts of the numbers of a row can be written
abbrev AreWritable : List Token → List ℕ → Type 0
AreWritable [] vs = Unit {0}
AreWritable (sign s ∷ ts) vs = AreHarmless (sign_text s) × AreWritable ts vs
AreWritable (t ∷ ts) [] = Unit {0}
AreWritable (t ∷ ts) (v ∷ vs) = AreHarmless (token_text t v) × AreWritable ts vs

written_harmless : (ts : List Token) (vs : List ℕ) → AreWritable ts vs → AreHarmless (written ts vs)
written_harmless [] vs f = refl
written_harmless (sign s ∷ ts) vs f = joined (sign_text s) (written ts vs) f.0 (written_harmless ts vs f.1)
written_harmless (register ∷ ts) [] f = refl
written_harmless (predicate ∷ ts) [] f = refl
written_harmless (negation ∷ ts) [] f = refl
written_harmless (number ∷ ts) [] f = refl
written_harmless (offset ∷ ts) [] f = refl
written_harmless (special ∷ ts) [] f = refl
written_harmless (writable ∷ ts) [] f = refl
written_harmless (register ∷ ts) (v ∷ vs) f =
    joined (token_text register v) (written ts vs) f.0 (written_harmless ts vs f.1)
written_harmless (predicate ∷ ts) (v ∷ vs) f =
    joined (token_text predicate v) (written ts vs) f.0 (written_harmless ts vs f.1)
written_harmless (negation ∷ ts) (v ∷ vs) f =
    joined (token_text negation v) (written ts vs) f.0 (written_harmless ts vs f.1)
written_harmless (number ∷ ts) (v ∷ vs) f =
    joined (token_text number v) (written ts vs) f.0 (written_harmless ts vs f.1)
written_harmless (offset ∷ ts) (v ∷ vs) f =
    joined (token_text offset v) (written ts vs) f.0 (written_harmless ts vs f.1)
written_harmless (special ∷ ts) (v ∷ vs) f =
    joined (token_text special v) (written ts vs) f.0 (written_harmless ts vs f.1)
written_harmless (writable ∷ ts) (v ∷ vs) f =
    joined (token_text writable v) (written ts vs) f.0 (written_harmless ts vs f.1)

form_harmless : (form : Form) (vs : List ℕ) → AreWritable (operands form) vs → AreHarmless (form_text form vs)
form_harmless form vs f =
    joined (mnemonic form ++ codes " ") (written (operands form) vs) (joined (mnemonic form) (codes " ")
    (is_mnemonic form).harmless refl) (written_harmless (operands form) vs f)

reg : (n : ℕ) → n < 2 ^ 64 → AreHarmless (codes "r" ++ decimal n)
reg n h = joined (codes "r") (decimal n) refl (decimal_harmless n h)

pred : (n : ℕ) → n < 2 ^ 64 → AreHarmless (codes "p" ++ decimal n)
pred n h = joined (codes "p") (decimal n) refl (decimal_harmless n h)

off : (n : ℕ) → n < 2 ^ 64 → AreHarmless (codes " + " ++ decimal n)
off n h = joined (codes " + ") (decimal n) refl (decimal_harmless n h)

neg : (b : Bool) → AreHarmless (token_text negation (flag b))
neg true = refl
neg false = refl

special_harmless : (s : Special) → AreHarmless (slice_index_or special_names (special_number s) [])
special_harmless s = elim s as (λ y. AreHarmless (slice_index_or special_names (special_number y) []))
    [ special_register.S0 ↦ refl | _ ↦ refl ]

writable_harmless : (s : WritableSpecial) → AreHarmless (slice_index_or special_names (writable_special_number s) [])
writable_harmless s = elim s as (λ y. AreHarmless (slice_index_or special_names (writable_special_number y) []))
    [ writable_register.S0 ↦ refl | _ ↦ refl ]

pub op_harmless : (o : Op) → FitsOp o → AreHarmless (op_text o)
op_harmless (op.AluReg f d a b) h =
    form_harmless (AluReg f) (d ∷ a ∷ b ∷ []) (
      reg d (omega (arith, h.0)),
      (refl, (reg a (omega (arith, h.1)), (refl, (reg b (omega (arith, h.2)), tt)))),
    )
op_harmless (op.AluImm f d a n) h =
    form_harmless (AluImm f) (d ∷ a ∷ n ∷ []) (
      reg d (omega (arith, h.0)),
      (refl, (reg a (omega (arith, h.1)), (refl, (decimal_harmless n (omega (arith, h.2)), tt)))),
    )
op_harmless (op.AluLong f d a n) h =
    form_harmless (AluLong f) (d ∷ a ∷ n ∷ []) (
      reg d (omega (arith, h.0)),
      (refl, (reg a (omega (arith, h.1)), (refl, (decimal_harmless n (omega (arith, h.2)), tt)))),
    )
op_harmless (op.Mul u a b) h =
    form_harmless (Mul u) (a ∷ b ∷ []) (reg a (omega (arith, h.0)), (refl, (reg b (omega (arith, h.1)), tt)))
op_harmless (op.Cmp f d a b) h =
    form_harmless (Cmp f) (d ∷ a ∷ b ∷ []) (
      pred d (omega (arith, h.0)),
      (refl, (reg a (omega (arith, h.1)), (refl, (reg b (omega (arith, h.2)), tt)))),
    )
op_harmless (op.CmpImm f d a n) h =
    form_harmless (CmpImm f) (d ∷ a ∷ n ∷ []) (
      pred d (omega (arith, h.0)),
      (refl, (reg a (omega (arith, h.1)), (refl, (decimal_harmless n (omega (arith, h.2)), tt)))),
    )
op_harmless (op.Comb f d a b) h =
    form_harmless (Comb f) (d ∷ flag a.negated ∷ a.pred ∷ flag b.negated ∷ b.pred ∷ []) (
      pred d (omega (arith, h.0)),
      (
        refl,
        (
          neg a.negated,
          (
            pred a.pred (omega (arith, h.1)),
            (refl, (neg b.negated, (pred b.pred (omega (arith, h.2)), tt))),
          ),
        ),
      ),
    )
op_harmless (op.ToSpecial s a) h = form_harmless ToSpecial (writable_special_number s ∷ a ∷ []) (
  writable_harmless s,
  (refl, (reg a (omega (arith, h)), tt)),
)
op_harmless (op.FromSpecial d s) h =
    form_harmless FromSpecial (d ∷ special_number s ∷ []) (reg d (omega (arith, h)), (refl, (special_harmless s, tt)))
op_harmless (op.Stack f n) h = form_harmless (Stack f) (n ∷ []) (decimal_harmless n (omega (arith, h)), tt)
op_harmless (op.Load m w d a n) h =
    form_harmless (Load w m) (d ∷ a ∷ n ∷ []) (
      reg d (omega (arith, h.0)),
      (refl, (refl, (reg a (omega (arith, h.1)), (off n (omega (arith, h.2)), (refl, tt))))),
    )
op_harmless (op.Store m w a s n) h =
    form_harmless (Store w m) (a ∷ n ∷ s ∷ []) (
      refl,
      (
        reg a (omega (arith, h.0)),
        (
          off n (omega (arith, h.2)),
          (refl, (refl, (reg s (omega (arith, h.1)), tt))),
        ),
      ),
    )
op_harmless _ h = refl

flow_harmless : (f : JumpKind) → AreHarmless (flow_name f)
flow_harmless Branch = refl
flow_harmless Call = refl
flow_harmless BranchFill = refl

pub jump_harmless : (f : JumpKind) (name : List ℕ) → is_name name ≡ true → AreHarmless (draft_text (to f name))
jump_harmless f name e = joined (flow_name f ++ codes " ") name (joined (flow_name f) (codes " ") (flow_harmless f)
    refl) (name_harmless name e)

guard_harmless : (g : Guard) → g.pred < 8 → AreHarmless (guard_text g)
guard_harmless g h = by_guard g.negated g.pred h
  where
    by_guard : (n : Bool) (p : ℕ) → p < 8
        → AreHarmless (cond (not n && p == 0) [] (codes "(" ++ cond n (codes "!") [] ++ codes "p" ++ decimal p
        ++ codes ") "))
    by_guard n p h = by_test (not n && p == 0) n p h
      where
        by_test : (t n : Bool) (p : ℕ) → p < 8
            → AreHarmless (cond t [] (codes "(" ++ cond n (codes "!") [] ++ codes "p" ++ decimal p ++ codes ") "))
        by_test true n p h = refl
        by_test false true p h = joined (codes "(!p" ++ decimal p) (codes ") ")
            (joined (codes "(!p") (decimal p) refl (decimal_harmless p (omega arith))) refl
        by_test false false p h = joined (codes "(p" ++ decimal p) (codes ") ")
            (joined (codes "(p") (decimal p) refl (decimal_harmless p (omega arith))) refl

instr_when : (b : Bool) (g : Guard) (text : List ℕ) → g.pred < 8 → AreHarmless text
    → AreHarmless (cond b (codes "nop") (guard_text g ++ text))
instr_when true g text h e = refl
instr_when false g text h e = joined (guard_text g) text (guard_harmless g h) e

pub instr_harmless : (i : DraftInstr) → i.guard.pred < 8 → AreHarmless (draft_text i.draft) → AreHarmless (instr_text i)
instr_harmless i h e = instr_when (is_nop i.guard i.draft) i.guard (draft_text i.draft) h e
