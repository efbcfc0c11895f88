-- Printed bundles are read back.
use Rattle.std.proofs.Common.{arith, ◌≡◌, ◌∙◌, ℕ, ◌<◌, ◌==◌, not, Bool, true, false, List, [], ◌∷◌, ◌++◌, refl, sym, ap, append_assoc, Option, Some, None, Ok, codes}
use Rattle.std.proofs.lemmas.Bool.Decides.{nat_tests}
use Rattle.std.proofs.lemmas.List.{append-nil}
use Rattle.std.proofs.lemmas.List.Folds.{list_all-append}
use Rattle.std.proofs.lemmas.Bool.{and_parts}
use Rattle.patmos_instr.specs.Instructions.{FitsOp, is_second_kind}
use Rattle.patmos_instr.specs.declared.instructions.Instr.{Instr}
use Rattle.patmos_instr.specs.declared.instructions.Op.{Op}
use Rattle.patmos_instr.specs.declared.instructions.Op.TheVariants as op
use Rattle.patmos_forms.specs.Readers.{is_name, sign_at}
use Rattle.patmos_syntax.specs.Drafts.{Draft, ready, to, DraftInstr, DraftBundle, instr_of, is_long_draft, pair_of, cut_at, parts_of, braces_of, bundle_of}
use Rattle.patmos_asm.specs.Written.{draft_text, instr_text, plain_text, bundle_text}
use Rattle.patmos_asm.proofs.Lines.{lacks, harmless_lacks, lacks_sign}
use Rattle.patmos_asm.proofs.Harmless.{AreHarmless, op_harmless, jump_harmless, instr_harmless}
use Rattle.patmos_asm.proofs.ReadForms.{IsRead, Trails, is_flow, op_back, draft_back}
use Rattle.patmos_asm.proofs.ReadInstrs.{instr_back, blank_same}

-- what can be printed so that it is read back
abbrev pub IsPrintableDraft : Draft → Type 0
IsPrintableDraft (ready o) = FitsOp o × (is_flow o ≡ false)
IsPrintableDraft (to flow name) = is_name name ≡ true

abbrev pub IsPrintableSecond : Draft → Option Instr → Type 0
IsPrintableSecond first None = Unit {0}
IsPrintableSecond first (Some i) =
    (i.guard.pred < 8) × FitsOp i.op × (is_second_kind i.op ≡ true) × (is_long_draft first ≡ false)

pub record IsPrintable (b : DraftBundle) : Type 0 where
  pub guard : b.first.guard.pred < 8
  pub draft : IsPrintableDraft b.first.draft
  pub second : IsPrintableSecond b.first.draft b.second

pub nothing_trails : Trails []
nothing_trails = record { end = refl; word = refl }

blank_trails : Trails (32 ∷ [])
blank_trails = record { end = refl; word = refl }

pub draft_read : (trail : List ℕ) (d : Draft) → Trails trail → IsPrintableDraft d → IsRead trail (draft_text d) d
draft_read trail (ready o) t f = op_back trail o t f.0 f.1
draft_read trail (to flow name) t f = draft_back trail flow name t f

draft_harmless : (d : Draft) → IsPrintableDraft d → AreHarmless (draft_text d)
draft_harmless (ready o) f = op_harmless o f.0
draft_harmless (to flow name) f = jump_harmless flow name f

first_read : (trail : List ℕ) (i : DraftInstr) → Trails trail → i.guard.pred < 8 → IsPrintableDraft i.draft
    → instr_of (instr_text i ++ trail) ≡ Ok i
first_read trail i t h f = instr_back trail i t h (draft_read trail i.draft t f)

pub first_harmless : (i : DraftInstr) → i.guard.pred < 8 → IsPrintableDraft i.draft → AreHarmless (instr_text i)
first_harmless i h f = instr_harmless i h (draft_harmless i.draft f)

pub second_no_flow : (o : Op) → is_second_kind o ≡ true → is_flow o ≡ false
second_no_flow (op.Branch z) e = cc
second_no_flow (op.Call n) e = cc
second_no_flow (op.BranchFill n) e = cc
second_no_flow _ e = refl

abbrev pub drafted : Instr → DraftInstr
drafted i = record { guard = i.guard; draft = ready i.op }

-- where a text is cut
cut_prefix : (s : ℕ) (prefix rest : List ℕ) → lacks s prefix ≡ true → cut_at s (prefix ++ s ∷ rest)
    ≡ (prefix, Some rest)
cut_prefix s [] rest e = let same : s == s ≡ true = grind (arith, nat_tests) in rw same refl
cut_prefix s (b ∷ bs) rest e =
    let t = and_parts (not (b == s)) (lacks s bs) e in
    rw (not_true (b == s) t.0, cut_prefix s bs rest t.1) refl
  where
    not_true : (a : Bool) → not a ≡ true → a ≡ false
    not_true true h = cc
    not_true false h = refl

one_part_only : (part : List ℕ) → lacks 59 part ≡ true → parts_of part ≡ part ∷ []
one_part_only [] e = refl
one_part_only (b ∷ bs) e =
    let t = and_parts (not (b == 59)) (lacks 59 bs) e in
    let n : b == 59 ≡ false = not_true (b == 59) t.0 in
    rw (n, one_part_only bs t.1) refl
  where
    not_true : (a : Bool) → not a ≡ true → a ≡ false
    not_true true h = cc
    not_true false h = refl

two_parts_only : (one two : List ℕ) → lacks 59 one ≡ true → lacks 59 two ≡ true → parts_of (one ++ 59 ∷ two)
    ≡ one ∷ two ∷ []
two_parts_only [] two e f = ap (λ ps. [] ∷ ps) (one_part_only two f)
two_parts_only (b ∷ bs) two e f =
    let t = and_parts (not (b == 59)) (lacks 59 bs) e in
    let n : b == 59 ≡ false = not_true (b == 59) t.0 in
    rw (n, two_parts_only bs two t.1 f) refl
  where
    not_true : (a : Bool) → not a ≡ true → a ≡ false
    not_true true h = cc
    not_true false h = refl

-- the text of a part between braces
abbrev pub part_text : List ℕ → List ℕ
part_text text = 32 ∷ (text ++ 32 ∷ [])

pub part_lacks : (s : ℕ) (text : List ℕ) → not (32 == s) ≡ true → lacks s text ≡ true → lacks s (part_text text) ≡ true
part_lacks s text e f = rw (e, list_all-append (λ b. not (b == s)) text (32 ∷ []), f, e) refl

pub braces_text : (a b : List ℕ) → codes "{ " ++ a ++ codes " ; " ++ b ++ codes " }"
    ≡ 123 ∷ ((part_text a ++ 59 ∷ part_text b) ++ 125 ∷ [])
braces_text a b = simp append_assoc

braces_steps : (one two : List ℕ) (first second : DraftInstr) → lacks 125 (one ++ 59 ∷ two) ≡ true → lacks 59 one ≡ true
    → lacks 59 two ≡ true →
    instr_of one ≡ Ok first → instr_of two ≡ Ok second → braces_of ((one ++ 59 ∷ two) ++ 125 ∷ [])
    ≡ pair_of first second
unfolding braces_of
braces_steps one two first second c e f r s =
    rw (cut_prefix 125 (one ++ 59 ∷ two) [] c, two_parts_only one two e f, r, s) refl

braced : (text : List ℕ) → bundle_of (123 ∷ text) ≡ braces_of text
unfolding bundle_of
braced text = refl

alone : (text : List ℕ) (i : DraftInstr) → sign_at 123 text ≡ None → instr_of text ≡ Ok i → bundle_of text
    ≡ Ok (record { first = i; second = None })
unfolding bundle_of
alone text i e r = rw (e, r) refl

pair_back : (first : DraftInstr) (i : Instr) → is_second_kind i.op ≡ true → is_long_draft first.draft ≡ false
    → pair_of first (drafted i) ≡ Ok (record { first = first; second = Some i })
pair_back first i e f = rw (f, e) refl

second_back : (first : DraftInstr) (second : Option Instr) → first.guard.pred < 8 → IsPrintableDraft first.draft
    → IsPrintableSecond first.draft second →
    bundle_of (bundle_text (record { first = first; second = second })) ≡ Ok (record { first = first; second = second })
unfolding bundle_text
second_back first None h f s =
    let r : instr_of (instr_text first) ≡ Ok first =
    ap instr_of (sym (append-nil (instr_text first))) ∙ first_read [] first nothing_trails h f in
    alone (instr_text first) first (lacks_sign 123 (instr_text first) (harmless_lacks 123 (instr_text first) refl
    (first_harmless first h f))) r
second_back first (Some i) h f s =
    let a : List ℕ = instr_text first in
    let b : List ℕ = plain_text i in
    let fits : IsPrintableDraft (ready i.op) = (s.1, second_no_flow i.op s.2) in
    let ha : AreHarmless a = first_harmless first h f in
    let hb : AreHarmless b = first_harmless (drafted i) s.0 fits in
    let ra : instr_of (part_text a) ≡ Ok first =
    blank_same (a ++ 32 ∷ []) ∙ first_read (32 ∷ []) first blank_trails h f in
    let rb : instr_of (part_text b) ≡ Ok (drafted i) =
    blank_same (b ++ 32 ∷ []) ∙ first_read (32 ∷ []) (drafted i) blank_trails s.0 fits in
    let none : lacks 125 (part_text a ++ 59 ∷ part_text b) ≡ true =
    rw (
      list_all-append (λ c. not (c == 125)) (part_text a) (59 ∷ part_text b),
      part_lacks 125 a refl
          (harmless_lacks 125 a refl ha),
      part_lacks 125 b refl (harmless_lacks 125 b refl hb),
    ) refl in
    ap bundle_of (braces_text a b) ∙ braced ((part_text a ++ 59 ∷ part_text b) ++ 125 ∷ [])
    ∙ braces_steps (part_text a) (part_text b) first (drafted i) none (part_lacks 59 a refl
    (harmless_lacks 59 a refl ha)) (part_lacks 59 b refl (harmless_lacks 59 b refl hb)) ra rb
    ∙ pair_back first i s.2 s.3

-- a printed bundle is read back
pub bundle_back : (b : DraftBundle) → IsPrintable b → bundle_of (bundle_text b) ≡ Ok b
bundle_back b p = second_back b.first b.second p.guard p.draft p.second
