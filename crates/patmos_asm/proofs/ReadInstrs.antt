-- Printed instructions are read back.
use Rattle.std.proofs.Common.{arith, ◌≡◌, ◌∙◌, ℕ, ◌<◌, ◌==◌, ◌&&◌, not, Bool, true, false, cond, List, [], ◌∷◌, ◌++◌, length, refl, ap, append_assoc, Option, Some, None, option_map, Result, Ok, codes}
use Rattle.std.specs.Fmt.{decimal}
use Rattle.std.specs.List.{list_all}
use Rattle.std.specs.Option.{ok_or, option_and_then}
use Rattle.std.proofs.lemmas.Bool.Decides.{nat_tests}
use Rattle.std.proofs.lemmas.Bool.{and_parts}
use Rattle.patmos_instr.specs.declared.functions.ImmFunc.TheVariants as imm
use Rattle.patmos_instr.specs.declared.guards.Guard.{Guard}
use Rattle.patmos_instr.specs.declared.instructions.Op.TheVariants as op
use Rattle.patmos_forms.specs.declared.faults.AsmKind.{AsmKind}
use Rattle.patmos_forms.specs.declared.faults.AsmKind.TheVariants.{Mnemonic}
use Rattle.patmos_forms.specs.Faults.{◌>>=◌}
use Rattle.patmos_forms.specs.Readers.{is_blank, is_in_word, word_at, sign_at}
use Rattle.patmos_forms.specs.Operands.{numbered_at}
use Rattle.patmos_forms.specs.Forms.{guard_at, guard_of}
use Rattle.patmos_syntax.specs.Drafts.{Draft, ready, DraftInstr, draft_in, instr_of}
use Rattle.patmos_asm.specs.Written.{draft_text, guard_text, is_nop, instr_text, flag}
use Rattle.patmos_asm.proofs.ReadWords.{some_word_read, numbered_at-read}
use Rattle.patmos_asm.proofs.ReadForms.{IsRead, Trails, guard_back}

-- a word begins with no bracket
no_sign : (sign b : ℕ) → is_in_word b ≡ true → is_in_word sign ≡ false → (is_blank b ≡ false) × (b == sign ≡ false)
no_sign sign b e f = (grind (arith, nat_tests), by_test (b == sign) refl)
  where
    by_test : (t : Bool) → b == sign ≡ t → t ≡ false
    by_test true h = let k : b ≡ sign = grind (arith, nat_tests) in cc
    by_test false h = refl

pub word_no_sign : (sign : ℕ) (word tail : List ℕ) → is_in_word sign ≡ false → 0 < length word
    → list_all is_in_word word ≡ true → sign_at sign (word ++ tail) ≡ None
word_no_sign sign [] tail f some all = absurd (omega arith)
word_no_sign sign (b ∷ w) tail f some all =
    let t = and_parts (is_in_word b) (list_all is_in_word w) all in
    let n = no_sign sign b t.0 f in
    rw (n.0, n.1) refl

in_brackets : (neg p : ℕ) (text : List ℕ) → p < 8 →
    option_and_then {U = ℕ × ℕ × List ℕ} (λ (x : ℕ × List ℕ). option_map {U = ℕ × ℕ × List ℕ} (λ r. (neg, x.0, r))
    (sign_at 41 x.1)) (numbered_at 112 (112 ∷ ((decimal p ++ 41 ∷ 32 ∷ []) ++ text))) ≡ Some (neg, p, 32 ∷ text)
in_brackets neg p text h =
    ap (λ t. option_and_then {U = ℕ × ℕ × List ℕ} (λ (x : ℕ × List ℕ). option_map {U = ℕ × ℕ × List ℕ}
    (λ r. (neg, x.0, r)) (sign_at 41 x.1)) (numbered_at 112 (112 ∷ t)))
    (append_assoc (decimal p) (41 ∷ 32 ∷ []) text)
    ∙ ap (option_and_then {U = ℕ × ℕ × List ℕ} (λ (x : ℕ × List ℕ). option_map {U = ℕ × ℕ × List ℕ} (λ r. (neg, x.0, r))
    (sign_at 41 x.1))) (numbered_at-read 112 p (41 ∷ 32 ∷ text) refl (omega arith) refl)

-- the numbers of a printed guard, and the text after it
pub record ReadsGuard (g : Guard) (text : List ℕ) : Type 0 where
  pub rest : List ℕ
  pub guard : guard_at (guard_text g ++ text) ≡ Some (flag g.negated, g.pred, rest)
  pub word : word_at rest ≡ word_at text

plain_when : (zero_pred : Bool) (p : ℕ) (text : List ℕ) → p == 0 ≡ zero_pred → p < 8 → sign_at 40 text ≡ None
    → ReadsGuard (record { negated = false; pred = p }) text
plain_when true p text z h none =
    record { rest = text; guard = let k : p ≡ 0 = grind (arith, nat_tests) in rw (k, none) refl; word = refl }
plain_when false p text z h none = record { rest = 32 ∷ text; guard = rw z (in_brackets 0 p text h); word = refl }

guard_when : (n : Bool) (p : ℕ) (text : List ℕ) → p < 8 → sign_at 40 text ≡ None
    → ReadsGuard (record { negated = n; pred = p }) text
guard_when true p text h none = record { rest = 32 ∷ text; guard = in_brackets 1 p text h; word = refl }
guard_when false p text h none = plain_when (p == 0) p text refl h none

pub guard_read : (g : Guard) (text : List ℕ) → g.pred < 8 → sign_at 40 text ≡ None → ReadsGuard g text
guard_read g text h none = guard_when g.negated g.pred text h none

instr_steps : (text : List ℕ) (neg p : ℕ) (rest word tail : List ℕ) (d : Draft) (g : Guard) → guard_at text
    ≡ Some (neg, p, rest) → word_at rest ≡ (word, tail) →
    draft_in word tail ≡ Ok d → guard_of neg p ≡ Ok g → instr_of text ≡ Ok (record { guard = g; draft = d })
unfolding instr_of
instr_steps text neg p rest word tail d g read_guard read_word read_draft fits =
    ap (λ (o : Option (ℕ × ℕ × List ℕ)). ok_or o Mnemonic >>= λ x. draft_in (word_at x.2).0 (word_at x.2).1 >>= λ draft.
    guard_of x.0 x.1 >>= λ guard. Ok (record { guard = guard; draft = draft })) read_guard
    ∙ ap (λ (x : List ℕ × List ℕ). draft_in x.0 x.1 >>= λ draft. guard_of neg p >>= λ guard. Ok
    (record { guard = guard; draft = draft })) read_word
    ∙ ap (λ (x : Result Draft AsmKind). x >>= λ draft. guard_of neg p >>= λ guard. Ok
    (record { guard = guard; draft = draft })) read_draft
    ∙ ap (λ (x : Result Guard AsmKind). x >>= λ guard. Ok (record { guard = guard; draft = d })) fits

-- an instruction that is no nop
plain_instr : (trail : List ℕ) (i : DraftInstr) → i.guard.pred < 8 → IsRead trail (draft_text i.draft) i.draft
    → instr_of ((guard_text i.guard ++ draft_text i.draft) ++ trail) ≡ Ok i
plain_instr trail i h r =
    let none : sign_at 40 (r.word ++ r.tail) ≡ None = word_no_sign 40 r.word r.tail refl r.some r.all in
    let g : ReadsGuard i.guard (r.word ++ r.tail) = guard_read i.guard (r.word ++ r.tail) h none in
    let whole : (guard_text i.guard ++ draft_text i.draft) ++ trail ≡ guard_text i.guard ++ (r.word ++ r.tail) =
    append_assoc (guard_text i.guard) (draft_text i.draft) trail ∙ ap (λ t. guard_text i.guard ++ t) r.split in
    instr_steps ((guard_text i.guard ++ draft_text i.draft) ++ trail) (flag i.guard.negated) i.guard.pred g.rest r.word
    r.tail i.draft i.guard
    (ap guard_at whole ∙ g.guard) (g.word ∙ some_word_read r.word r.tail r.some r.all r.ends) r.draft
    (guard_back i.guard h)

five : (a b c d e : Bool) → a && b && c && d && e ≡ true → (a ≡ true) × (b ≡ true) × (c ≡ true)
    × (d ≡ true) × (e ≡ true)
five true true true true true h = (refl, refl, refl, refl, refl)
five true true true true false h = cc
five true true true false e h = cc
five true true false d e h = cc
five true false c d e h = cc
five false b c d e h = cc

is_zero : (n : ℕ) → n == 0 ≡ true → 0 ≡ n
is_zero n e = grind (arith, nat_tests)

is_false : (b : Bool) → not b ≡ true → false ≡ b
is_false true e = cc
is_false false e = refl

nop_draft : (trail : List ℕ) → Trails trail → draft_in (codes "nop") trail ≡ Ok (ready (op.AluImm imm.Add 0 0 0))
unfolding draft_in
nop_draft trail t = let end = t.end in rw end refl

nop_read : (trail : List ℕ) → Trails trail → instr_of (codes "nop" ++ trail)
    ≡ Ok (record { guard = record { negated = false; pred = 0 }; draft = ready (op.AluImm imm.Add 0 0 0) })
nop_read trail t =
    instr_steps (codes "nop" ++ trail) 0 0 (codes "nop" ++ trail) (codes "nop") trail (ready (op.AluImm imm.Add 0 0 0))
    (record { negated = false; pred = 0 }) refl
    (some_word_read (codes "nop") trail (omega arith) refl t.word) (nop_draft trail t) refl

-- the instruction that is printed as nop
nop_instr : (trail : List ℕ) (g : Guard) (d : Draft) → Trails trail → is_nop g d ≡ true
    → instr_of (codes "nop" ++ trail) ≡ Ok (record { guard = g; draft = d })
nop_instr trail g (ready (op.AluImm imm.Add rd ra n)) t e =
    let z = five (not g.negated) (g.pred == 0) (rd == 0) (ra == 0) (n == 0) e in
    nop_read trail t ∙ λ i. Ok (record {
      guard = record { negated = is_false g.negated z.0 i; pred = is_zero g.pred z.1 i };
      draft = ready (op.AluImm imm.Add (is_zero rd z.2 i) (is_zero ra z.3 i) (is_zero n z.4 i));
    })
nop_instr trail g _ t e = cc

instr_when : (b : Bool) (trail : List ℕ) (i : DraftInstr) → is_nop i.guard i.draft ≡ b → Trails trail → i.guard.pred < 8
    → IsRead trail (draft_text i.draft) i.draft →
    instr_of (cond b (codes "nop") (guard_text i.guard ++ draft_text i.draft) ++ trail) ≡ Ok i
instr_when true trail i e t h r = nop_instr trail i.guard i.draft t e
instr_when false trail i e t h r = plain_instr trail i h r

-- a printed instruction is read back
pub instr_back : (trail : List ℕ) (i : DraftInstr) → Trails trail → i.guard.pred < 8
    → IsRead trail (draft_text i.draft) i.draft → instr_of (instr_text i ++ trail) ≡ Ok i
instr_back trail i t h r = instr_when (is_nop i.guard i.draft) trail i refl t h r

blank_when : (o : Option (List ℕ)) (text : List ℕ) → sign_at 40 text ≡ o → instr_of (32 ∷ text) ≡ instr_of text
unfolding instr_of
blank_when None text e = rw e refl
blank_when (Some rest) text e = rw e refl

-- a blank in front changes nothing
pub blank_same : (text : List ℕ) → instr_of (32 ∷ text) ≡ instr_of text
blank_same text = blank_when (sign_at 40 text) text refl
