-- The words of statements without a fault are an image.
use Rattle.std.proofs.Common.{arith, ◌≡◌, ◌∙◌, ℕ, zero, suc, ◌+◌, ◌<◌, ◌≤◌, true, false, ◌||◌, List, [], ◌∷◌, ◌++◌, length, map, refl, sym, ap, subst, Option, Some, None, is_some, Ok, add-zero, length-append, if◌then◌else◌}
use Rattle.std.specs.List.{All}
use Rattle.std.proofs.lemmas.List.Elements.{All-cons}
use Rattle.std.proofs.lemmas.List.{length-map}
use Rattle.patmos_instr.specs.Instructions.{is_long}
use Rattle.patmos_instr.specs.declared.guards.Guard.{Guard}
use Rattle.patmos_instr.specs.declared.instructions.Instr.{Instr}
use Rattle.patmos_instr.specs.declared.instructions.Op.{Op}
use Rattle.patmos_instr.specs.declared.instructions.Op.TheVariants.{AluLong}
use Rattle.patmos_code.specs.Codes.{code, words, second_word, instr_code}
use Rattle.patmos_code.specs.Images as images
use Rattle.patmos_asm.specs.declared.faults.AsmFault.{AsmFault}
use Rattle.patmos_forms.specs.declared.forms.JumpKind.TheVariants.{Branch, Call, BranchFill}
use Rattle.patmos_syntax.specs.Items.{Item, function, label, bundle, faulty, items_of}
use Rattle.patmos_syntax.specs.Drafts.{Draft, ready, to, DraftBundle, is_long_draft, size_of}
use Rattle.patmos_asm.specs.Assembly.{Lookup, Before, nothing, place_of, labels_from, size_from, functions_from, is_among, is_known, no_function, fault_of, after, first_fault, placed, words_from, CodeParts, parts_in, code_or, code_in, code_of}
use Rattle.patmos_asm.specs.SomeText.{IsCode}
use Rattle.patmos_asm.proofs.Faultless.{no_fault_first, bundle_small, function_small, size_left}

-- the codes of a bundle with places have as many words as the bundle
two_or_one : (op : Op) (first : ℕ) → length (words first (second_word op None)) ≡ (if is_long op || false then 2 else 1)
two_or_one (AluLong f rd ra c) first = refl
two_or_one _ first = refl

with_second : (op : Op) (first : ℕ) (i : Instr) → length (words first (second_word op (Some i)))
    ≡ (if is_long op || true then 2 else 1)
with_second (AluLong f rd ra c) first i = refl
with_second op first i = grind arith

draft_size : (functions labels : Lookup) (at : ℕ) (guard : Guard) (draft : Draft) (second : Option Instr) →
    length (code (placed functions labels at (record {
      first = record { guard = guard; draft = draft };
      second = second;
    })))
    ≡ (if is_long_draft draft || is_some second then 2 else 1)
unfolding code
draft_size functions labels at guard (ready op) None = two_or_one op (instr_code (record { guard = guard; op = op }))
draft_size functions labels at guard (ready op) (Some i) =
    with_second op (instr_code (record { guard = guard; op = op })) i
draft_size functions labels at guard (to Branch name) None = refl
draft_size functions labels at guard (to Call name) None = refl
draft_size functions labels at guard (to BranchFill name) None = refl
draft_size functions labels at guard (to Branch name) (Some i) = refl
draft_size functions labels at guard (to Call name) (Some i) = refl
draft_size functions labels at guard (to BranchFill name) (Some i) = refl

pub code_size : (functions labels : Lookup) (at : ℕ) (b : DraftBundle) → length (code (placed functions labels at b))
    ≡ size_of b
code_size functions labels at b = draft_size functions labels at b.first.guard b.first.draft b.second

-- the walk over an image's words skips the words of a function
skip_starts : (prefix rest : List ℕ) (at n k : ℕ) → n ≡ length prefix + k → images.starts_from at n (prefix ++ rest)
    ≡ images.starts_from (at + length prefix) k rest
skip_starts [] rest at n k e = let z : n ≡ k = omega (arith, e) in rw (z, add-zero) refl
skip_starts (w ∷ ws) rest at zero k e = absurd (omega arith)
skip_starts (w ∷ ws) rest at (suc n) k e =
    skip_starts ws rest (at + 1) n k (omega (arith, e)) ∙ ap (λ a. images.starts_from a k rest) (omega arith)

skip_lacking : (prefix rest : List ℕ) (n k : ℕ) → n ≡ length prefix + k → images.lacking_from n (prefix ++ rest)
    ≡ images.lacking_from k rest
skip_lacking [] rest n k e = let z : n ≡ k = omega (arith, e) in rw z refl
skip_lacking (w ∷ ws) rest zero k e = absurd (omega arith)
skip_lacking (w ∷ ws) rest (suc n) k e = skip_lacking ws rest n k (omega (arith, e))

skip_sizes : (prefix rest : List ℕ) (n k : ℕ) → n ≡ length prefix + k → images.sizes_from n (prefix ++ rest)
    ≡ images.sizes_from k rest
skip_sizes [] rest n k e = let z : n ≡ k = omega (arith, e) in rw z refl
skip_sizes (w ∷ ws) rest zero k e = absurd (omega arith)
skip_sizes (w ∷ ws) rest (suc n) k e = skip_sizes ws rest n k (omega (arith, e))

-- the words of statements as a part of an image, the first `skip` of which end a function
pub record IsPart (at skip : ℕ) (ws starts : List ℕ) : Type 0 where
  pub starts_are : images.starts_from at skip ws ≡ starts
  pub whole : images.lacking_from skip ws ≡ 0
  pub small : All (λ size. size ≤ 4096) (images.sizes_from skip ws)
  pub within : at + length ws ≤ 32768

part_behind : (prefix rest : List ℕ) (at n k : ℕ) (starts : List ℕ) → n ≡ length prefix + k
    → IsPart (at + length prefix) k rest starts → IsPart at n (prefix ++ rest) starts
part_behind prefix rest at n k starts e p = record {
  starts_are = skip_starts prefix rest at n k e ∙ p.starts_are;
  whole = skip_lacking prefix rest n k e ∙ p.whole;
  small = subst (All (λ size. size ≤ 4096)) (sym (skip_sizes prefix rest n k e)) p.small;
  within = omega (arith, p.within, length-append prefix rest);
}

part_of_function : (at size : ℕ) (rest starts : List ℕ) → size ≤ 4096 → IsPart (at + 1) size rest starts
    → IsPart at 0 (size ∷ rest) ((at + 1) ∷ starts)
part_of_function at size rest starts small p = record {
  starts_are = ap (λ s. (at + 1) ∷ s) p.starts_are;
  whole = p.whole;
  small = All-cons (λ size. size ≤ 4096) size (images.sizes_from size rest) small p.small;
  within = omega (arith, p.within);
}

pub is_part : (functions labels : Lookup) (before : Before) (is : List Item) → first_fault functions labels before is
    ≡ None → before.size ≤ 4096 → before.image ≤ 32768 →
    IsPart before.image (size_from is) (words_from functions labels before.size is)
    (map (λ f. f.1) (functions_from before.image is))
is_part functions labels before [] e small large =
    record { starts_are = refl; whole = refl; small = λ k d h. omega arith; within = omega arith }
is_part functions labels before (function line n ∷ is) e small large =
    let t = no_fault_first (function line n) (fault_of functions labels before (function line n)) _ e in
    let s = function_small (is_among n before.functions) (before.image + 1) t.0 in
    let next : Before = after before (function line n) in
    part_of_function before.image (size_from is) (words_from functions (place_of (labels_from 0 is)) 0 is)
    (map (λ f. f.1) (functions_from (before.image + 1) is))
    (omega (arith, size_left functions (place_of (labels_from 0 is)) next is t.1 (omega arith)))
    (is_part functions (place_of (labels_from 0 is)) next is t.1 (omega arith) s.1)
is_part functions labels before (label line n ∷ is) e small large =
    let t = no_fault_first (label line n) (fault_of functions labels before (label line n)) _ e in
    is_part functions labels (after before (label line n)) is t.1 small large
is_part functions labels before (bundle line b ∷ is) e small large =
    let t = no_fault_first (bundle line b) (fault_of functions labels before (bundle line b)) _ e in
    let s = bundle_small (is_known functions labels b.first.draft) (before.size + size_of b) (before.image + size_of b)
    (no_function before) t.0 in
    let size : length (code (placed functions labels before.size b)) ≡ size_of b =
    code_size functions labels before.size b in
    part_behind (code (placed functions labels before.size b)) (words_from functions labels (before.size + size_of b)
    is) before.image (size_of b + size_from is) (size_from is)
    (map (λ f. f.1) (functions_from (before.image + size_of b) is)) (omega (arith, size))
    (rw size (is_part functions labels (after before (bundle line b)) is t.1 s.1 s.2))
is_part functions labels before (faulty line fault ∷ is) e small large = cc

-- a text without a fault begins with a function
pub first_is_function : (functions : Lookup) (is : List Item) → first_fault functions (place_of []) nothing is ≡ None
    → 0 < length is →
    (0 < length (functions_from 0 is)) × (size_from is ≡ 0)
first_is_function functions [] e some = absurd (omega arith)
first_is_function functions (function line n ∷ is) e some = (omega arith, refl)
first_is_function functions (label line n ∷ is) e some = cc
first_is_function functions (bundle line b ∷ is) e some =
    let t = no_fault_first (bundle line b) (fault_of functions (place_of []) nothing (bundle line b)) _ e in
    let s = bundle_small (is_known functions (place_of []) b.first.draft) (0 + size_of b) (0 + size_of b)
    (no_function nothing) t.0 in
    let none = s.3 in cc
first_is_function functions (faulty line fault ∷ is) e some = cc

told_none : (o : Option AsmFault) (parts p : CodeParts) → code_or o parts ≡ Ok p → (o ≡ None) × (parts ≡ p)
told_none None parts p e = (refl, cc)
told_none (Some fault) parts p e = cc

image_of_part : (is : List Item) (p : CodeParts) → parts_in is ≡ p → 0 < length (functions_from 0 is)
    → size_from is ≡ 0 →
    IsPart 0 (size_from is) (words_from (place_of (functions_from 0 is)) (place_of []) 0 is)
    (map (λ f. f.1) (functions_from 0 is)) →
    images.IsImage (images.parts p.words p.starts [] 4 4096)
image_of_part is p e some none part =
    subst (λ (q : CodeParts). images.IsImage (images.parts q.words q.starts [] 4 4096)) e (record {
      starts = sym part.starts_are ∙ ap (λ n. images.starts_from 0 n (words_from (place_of (functions_from 0 is))
          (place_of []) 0 is)) none;
      some = omega (arith, length-map (functions_from 0 is) (λ f. f.1));
      whole = sym (ap (λ n. images.lacking_from n (words_from (place_of (functions_from 0 is)) (place_of []) 0 is))
          none)
          ∙ part.whole;
      small = subst (λ n. All (λ size. size ≤ 4096) (images.sizes_from n (words_from (place_of (functions_from 0 is))
          (place_of []) 0 is))) none part.small;
      within = omega (arith, part.within);
      initial = omega arith;
      input_from = omega arith;
      input_room = omega arith;
    })

-- what has a code has no fault
pub no_fault : (is : List Item) (p : CodeParts) → code_in is ≡ Ok p →
    (first_fault (place_of (functions_from 0 is)) (place_of []) nothing is ≡ None) × (parts_in is ≡ p) × (0 < length is)
unfolding code_in
no_fault [] p e = cc
no_fault (i ∷ is) p e = let t = told_none (first_fault (place_of (functions_from 0 (i ∷ is))) (place_of []) nothing
    (i ∷ is)) (parts_in (i ∷ is)) p e in (t.0, t.1, omega arith)

-- the code of a text is an image
pub code_is_image : (p : CodeParts) → IsCode p → images.IsImage (images.parts p.words p.starts [] 4 4096)
unfolding code_of
code_is_image p c =
    let t = no_fault (items_of c.text) p c.is in
    let functions : Lookup = place_of (functions_from 0 (items_of c.text)) in
    let part : IsPart 0 (size_from (items_of c.text)) (words_from functions (place_of []) 0 (items_of c.text))
    (map (λ f. f.1) (functions_from 0 (items_of c.text))) =
    is_part functions (place_of []) nothing (items_of c.text) t.0 (omega arith) (omega arith) in
    let f : (0 < length (functions_from 0 (items_of c.text))) × (size_from (items_of c.text) ≡ 0) =
    first_is_function functions (items_of c.text) t.0 t.2 in
    image_of_part (items_of c.text) p t.1 f.0 f.1 part
