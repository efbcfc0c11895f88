-- Lines whose statements stand for bundles: what they have in the assembler's eyes.
use Rattle.std.proofs.Common.{arith, ◌≡◌, ◌∙◌, ℕ, ◌+◌, ◌^◌, ◌<◌, ◌≤◌, ◌==◌, not, Bool, true, false, List, [], ◌∷◌, ◌++◌, length, refl, sym, ap, subst, append_assoc, Option, Some, None, IsTrue, ◌&&◌}
use Rattle.std.specs.List.{All}
use Rattle.std.proofs.lemmas.List.Elements.{All-head, All-tail}
use Rattle.patmos_instr.specs.Bundles.{PlainBundle, FitsBundle}
use Rattle.patmos_instr.specs.Instructions.{is_long, is_second_kind, FitsOp}
use Rattle.patmos_instr.specs.declared.guards.Guard.{Guard}
use Rattle.patmos_forms.specs.declared.forms.JumpKind.TheVariants.{Branch, Call, BranchFill}
use Rattle.patmos_instr.specs.declared.instructions.Instr.{Instr}
use Rattle.patmos_code.specs.Codes.{code}
use Rattle.patmos_forms.specs.Readers.{is_name}
use Rattle.patmos_syntax.specs.Drafts.{Draft, ready, to, DraftBundle, size_of}
use Rattle.patmos_syntax.specs.Items.{Item, label, bundle}
use Rattle.patmos_asm.specs.Assembly.{Lookup, Before, size_from, functions_from, names_from, is_among, is_known, no_function, fault_of, after, first_fault, placed_op, placed, words_from}
use Rattle.patmos_asm.specs.Printed.{label_name}
use Rattle.patmos_asm.proofs.Lines.{lacks}
use Rattle.patmos_asm.proofs.ReadForms.{is_flow}
use Rattle.patmos_asm.proofs.ReadBundles.{IsPrintable, IsPrintableDraft, IsPrintableSecond}
use Rattle.patmos_asm.proofs.Unfaulted.{AreFree, free_noted, none_first, label_none, bundle_none}
use Rattle.sp_shape.specs.Words.{bundle_words, bundles_words}
use Rattle.tc_link.specs.Placed.{codes}
use Rattle.code_text.specs.Lines.{Line, remark, begins, marks, does}
use Rattle.code_text.proofs.Reading.{AreReadable, items_at}

-- what the operation of a bundle may be so that it is read back
abbrev pub IsNamed : Draft → Type 0
IsNamed (ready o) = is_flow o ≡ false
IsNamed (to flow name) = is_name name ≡ true

-- the bundle of a line is this one, once names have their places
pub record StandsFor (functions labels : Lookup) (at : ℕ) (b : DraftBundle) (s : PlainBundle) : Type 0 where
  pub is : placed functions labels at b ≡ s
  pub known : is_known functions labels b.first.draft ≡ true
  pub named : IsNamed b.first.draft
  pub size : size_of b ≡ bundle_words s

-- lines of a function at an offset stand for these bundles
abbrev pub Stand : Lookup → Lookup → ℕ → List Line → List PlainBundle → Type 0
Stand functions labels at [] [] = Unit {0}
Stand functions labels at [] (s ∷ bs) = ⊥
Stand functions labels at (remark note ∷ ls) bs = Stand functions labels at ls bs
Stand functions labels at (begins name ∷ ls) bs = ⊥
Stand functions labels at (marks loop ∷ ls) bs = Stand functions labels at ls bs
Stand functions labels at (does b note ∷ ls) [] = ⊥
Stand functions labels at (does b note ∷ ls) (s ∷ bs) =
    StandsFor functions labels at b s × Stand functions labels (at + bundle_words s) ls bs

pub stand_both : (functions labels : Lookup) (at : ℕ) (ls ms : List Line) (bs cs : List PlainBundle)
    → Stand functions labels at ls bs → Stand functions labels (at + bundles_words bs) ms cs
    → Stand functions labels at (ls ++ ms) (bs ++ cs)
stand_both functions labels at [] ms [] cs s t = subst (λ n. Stand functions labels n ms cs) (omega arith) t
stand_both functions labels at (remark note ∷ ls) ms bs cs s t = stand_both functions labels at ls ms bs cs s t
stand_both functions labels at (marks loop ∷ ls) ms bs cs s t = stand_both functions labels at ls ms bs cs s t
stand_both functions labels at (does b note ∷ ls) ms (x ∷ bs) cs s t = (
  s.0,
  stand_both functions labels (at + bundle_words x) ls ms bs cs s.1 (subst (λ n. Stand functions labels n ms cs)
      (omega arith) t),
)
stand_both functions labels at [] ms (x ∷ bs) cs s t = absurd s
stand_both functions labels at (begins name ∷ ls) ms bs cs s t = absurd s
stand_both functions labels at (does b note ∷ ls) ms [] cs s t = absurd s

-- ---- sizes, functions, names, words

module _ (functions labels : Lookup) (rest : List Item) where
  pub stand_size : (line at : ℕ) (ls : List Line) (bs : List PlainBundle) → Stand functions labels at ls bs
      → size_from (items_at line ls ++ rest) ≡ bundles_words bs + size_from rest
  stand_size line at [] [] s = omega arith
  stand_size line at [] (x ∷ bs) s = absurd s
  stand_size line at (remark note ∷ ls) bs s = stand_size (line + 1) at ls bs s
  stand_size line at (begins name ∷ ls) bs s = absurd s
  stand_size line at (marks loop ∷ ls) bs s = stand_size (line + 1) at ls bs s
  stand_size line at (does b note ∷ ls) [] s = absurd s
  stand_size line at (does b note ∷ ls) (x ∷ bs) s = let size = s.0.size in let more = stand_size (line + 1)
      (at + bundle_words x) ls bs s.1 in omega (arith, size, more)

  pub stand_names : (line at : ℕ) (ls : List Line) (bs : List PlainBundle) → Stand functions labels at ls bs
      → names_from (items_at line ls ++ rest) ≡ names_from rest
  stand_names line at [] [] s = refl
  stand_names line at [] (x ∷ bs) s = absurd s
  stand_names line at (remark note ∷ ls) bs s = stand_names (line + 1) at ls bs s
  stand_names line at (begins name ∷ ls) bs s = absurd s
  stand_names line at (marks loop ∷ ls) bs s = stand_names (line + 1) at ls bs s
  stand_names line at (does b note ∷ ls) [] s = absurd s
  stand_names line at (does b note ∷ ls) (x ∷ bs) s = stand_names (line + 1) (at + bundle_words x) ls bs s.1

  pub stand_functions : (line at place : ℕ) (ls : List Line) (bs : List PlainBundle) → Stand functions labels at ls bs
      → functions_from place (items_at line ls ++ rest) ≡ functions_from (place + bundles_words bs) rest
  stand_functions line at place [] [] s = ap (λ n. functions_from n rest) (omega arith)
  stand_functions line at place [] (x ∷ bs) s = absurd s
  stand_functions line at place (remark note ∷ ls) bs s = stand_functions (line + 1) at place ls bs s
  stand_functions line at place (begins name ∷ ls) bs s = absurd s
  stand_functions line at place (marks loop ∷ ls) bs s = stand_functions (line + 1) at place ls bs s
  stand_functions line at place (does b note ∷ ls) [] s = absurd s
  stand_functions line at place (does b note ∷ ls) (x ∷ bs) s =
      stand_functions (line + 1) (at + bundle_words x) (place + size_of b) ls bs s.1
      ∙ ap (λ n. functions_from n rest) (let size = s.0.size in omega (arith, size))

  pub stand_words : (line at : ℕ) (ls : List Line) (bs : List PlainBundle) → Stand functions labels at ls bs
      → words_from functions labels at (items_at line ls ++ rest) ≡ codes bs
      ++ words_from functions labels (at + bundles_words bs) rest
  stand_words line at [] [] s = ap (λ n. words_from functions labels n rest) (omega arith)
  stand_words line at [] (x ∷ bs) s = absurd s
  stand_words line at (remark note ∷ ls) bs s = stand_words (line + 1) at ls bs s
  stand_words line at (begins name ∷ ls) bs s = absurd s
  stand_words line at (marks loop ∷ ls) bs s = stand_words (line + 1) at ls bs s
  stand_words line at (does b note ∷ ls) [] s = absurd s
  stand_words line at (does b note ∷ ls) (x ∷ bs) s =
      ap (λ y. code y ++ words_from functions labels (at + size_of b) (items_at (line + 1) ls ++ rest)) s.0.is
      ∙ ap (λ n. code x ++ words_from functions labels (at + n) (items_at (line + 1) ls ++ rest)) s.0.size
      ∙ ap (λ ws. code x ++ ws) (stand_words (line + 1) (at + bundle_words x) ls bs s.1)
      ∙ sym (append_assoc (code x) (codes bs) (words_from functions labels
      (at + bundle_words x + bundles_words bs) rest))
      ∙ ap (λ n. codes (x ∷ bs) ++ words_from functions labels n rest) (omega arith)

-- ---- labels

-- the numbers of labels rise from this one on
abbrev pub Rise : ℕ → List Line → Type 0
Rise n [] = Unit {0}
Rise n (remark note ∷ ls) = Rise n ls
Rise n (begins name ∷ ls) = Rise n ls
Rise n (marks loop ∷ ls) = (n ≤ loop) × (loop < 2 ^ 63) × Rise (loop + 1) ls
Rise n (does b note ∷ ls) = Rise n ls

-- ---- faults

some_function : (before : Before) → length before.functions == 0 ≡ false → no_function before ≡ None
some_function before e = rw e refl

-- lines have no fault where the statements after them have none
pub stand_faultless : (functions labels : Lookup) (rest : List Item) (line at n : ℕ) (before : Before) (ls : List Line)
    (bs : List PlainBundle) → Stand functions labels at ls bs → Rise n ls
    → before.size ≡ at → before.size + bundles_words bs ≤ 4096 → before.image + bundles_words bs ≤ 32768
    → length before.functions == 0 ≡ false → AreFree n before.labels
    → ((later : Before) → later.functions ≡ before.functions → later.size ≡ before.size + bundles_words bs → later.image
    ≡ before.image + bundles_words bs → first_fault functions labels later rest ≡ None)
    → first_fault functions labels before (items_at line ls ++ rest) ≡ None
stand_faultless functions labels rest line at n before [] [] s r e small large some free end =
    end before refl (omega arith) (omega arith)
stand_faultless functions labels rest line at n before [] (x ∷ bs) s r e small large some free end = absurd s
stand_faultless functions labels rest line at n before (remark note ∷ ls) bs s r e small large some free end =
    stand_faultless functions labels rest (line + 1) at n before ls bs s r e small large some free end
stand_faultless functions labels rest line at n before (begins name ∷ ls) bs s r e small large some free end = absurd s
stand_faultless functions labels rest line at n before (marks loop ∷ ls) bs s r e small large some free end =
    none_first (label line (label_name loop)) (fault_of functions labels before (label line (label_name loop))) _
    (label_none (is_among (label_name loop) before.labels) (length before.functions == 0)
    (free loop r.0 (omega (arith, r.1))) some)
    (stand_faultless functions labels rest (line + 1) at (loop + 1) (after before (label line (label_name loop))) ls bs
    s r.2 e small large some
    (free_noted loop before.labels r.1 (λ m h k. free m (omega (arith, h, r.0)) k)) end)
stand_faultless functions labels rest line at n before (does b note ∷ ls) [] s r e small large some free end = absurd s
stand_faultless functions labels rest line at n before (does b note ∷ ls) (x ∷ bs) s r e small large some free end =
    let size = s.0.size in
    none_first (bundle line b) (fault_of functions labels before (bundle line b)) _
    (bundle_none (is_known functions labels b.first.draft) (before.size + size_of b) (before.image + size_of b)
    (no_function before) s.0.known (omega (arith, size, small)) (omega (arith, size, large))
    (some_function before some))
    (stand_faultless functions labels rest (line + 1) (at + bundle_words x) n (after before (bundle line b)) ls bs s.1 r
    (omega (arith, size, e)) (omega (arith, size, small)) (omega (arith, size, large)) some free
    (λ later f z i. end later f (omega (arith, z, size)) (omega (arith, i, size))))

-- ---- what can be read back

fits_first : (d : Draft) (functions labels : Lookup) (at : ℕ) → FitsOp (placed_op functions labels at d) → IsNamed d
    → IsPrintableDraft d
fits_first (ready o) functions labels at f n = (f, n)
fits_first (to flow name) functions labels at f n = n

both_true : (a b : Bool) → IsTrue (not a && b) → (a ≡ false) × (b ≡ true)
both_true a b h = grind (arith, h)

fits_second : (functions labels : Lookup) (at : ℕ) (g : Guard) (d : Draft) (second : Option Instr)
    → FitsBundle (record { first = record { guard = g; op = placed_op functions labels at d }; second = second })
    → IsPrintableSecond d second
fits_second functions labels at g d None f = tt
fits_second functions labels at g (ready o) (Some i) f =
    let legal = both_true (is_long o) (is_second_kind i.op) f.legal in
    (f.second.0, f.second.1, legal.1, legal.0)
fits_second functions labels at g (to Branch name) (Some i) f =
    (f.second.0, f.second.1, (both_true false (is_second_kind i.op) f.legal).1, refl)
fits_second functions labels at g (to Call name) (Some i) f =
    (f.second.0, f.second.1, (both_true false (is_second_kind i.op) f.legal).1, refl)
fits_second functions labels at g (to BranchFill name) (Some i) f =
    (f.second.0, f.second.1, (both_true false (is_second_kind i.op) f.legal).1, refl)

-- a bundle whose fields are in their ranges
printable : (functions labels : Lookup) (at : ℕ) (b : DraftBundle) (s : PlainBundle) → StandsFor functions labels at b s
    → FitsBundle s → IsPrintable b
printable functions labels at b s stands fits =
    let f : FitsBundle (placed functions labels at b) = subst FitsBundle (sym stands.is) fits in
    record {
      guard = f.first.0;
      draft = fits_first b.first.draft functions labels at f.first.1 stands.named;
      second = fits_second functions labels at b.first.guard b.first.draft b.second f;
    }

-- comments end on their line
abbrev pub IsInline : Line → Type 0
IsInline (remark note) = lacks 10 note ≡ true
IsInline (begins name) = is_name name ≡ true
IsInline (marks loop) = Unit {0}
IsInline (does b note) = lacks 10 note ≡ true

abbrev pub AreInline : List Line → Type 0
AreInline [] = Unit {0}
AreInline (l ∷ ls) = IsInline l × AreInline ls

pub inline_both : (ls ms : List Line) → AreInline ls → AreInline ms → AreInline (ls ++ ms)
inline_both [] ms a b = b
inline_both (l ∷ ls) ms a b = (a.0, inline_both ls ms a.1 b)

pub readable_both : (ls ms : List Line) → AreReadable ls → AreReadable ms → AreReadable (ls ++ ms)
readable_both [] ms a b = b
readable_both (l ∷ ls) ms a b = (a.0, readable_both ls ms a.1 b)

pub stand_readable : (functions labels : Lookup) (at n : ℕ) (ls : List Line) (bs : List PlainBundle)
    → Stand functions labels at ls bs → All FitsBundle bs → AreInline ls → Rise n ls → AreReadable ls
stand_readable functions labels at n [] bs s f i r = tt
stand_readable functions labels at n (remark note ∷ ls) bs s f i r =
    (i.0, stand_readable functions labels at n ls bs s f i.1 r)
stand_readable functions labels at n (begins name ∷ ls) bs s f i r = absurd s
stand_readable functions labels at n (marks loop ∷ ls) bs s f i r =
    (omega (arith, r.1), stand_readable functions labels at (loop + 1) ls bs s f i.1 r.2)
stand_readable functions labels at n (does b note ∷ ls) [] s f i r = absurd s
stand_readable functions labels at n (does b note ∷ ls) (x ∷ bs) s f i r = (
  (printable functions labels at b x s.0 (All-head FitsBundle x bs f), i.0),
  stand_readable functions labels
      (at + bundle_words x) n ls bs s.1 (All-tail FitsBundle x bs f) i.1 r,
)
