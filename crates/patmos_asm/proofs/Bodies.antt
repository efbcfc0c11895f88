-- The words of a function, decoded bundle by bundle.
use Rattle.std.proofs.Common.{arith, ◌≡◌, ◌∙◌, ℕ, ℤ, pos, negsuc, zero, suc, ◌+◌, ◌-ℤ◌, ◌+ℤ◌, ◌^◌, ◌<◌, ◌≤◌, true, false, if◌then◌else◌, nat_lt, List, [], ◌∷◌, ◌++◌, length, take, refl, ap, length-append, Option, Some, None, unwrap_or, ◌≤ℤ◌}
use Rattle.std.proofs.lemmas.Bool.Decides.{nat_tests}
use Rattle.std.proofs.lemmas.Int.{ints}
use Rattle.patmos_instr.specs.Fields.{FitsOff22}
use Rattle.patmos_instr.specs.Instructions.{FitsOp, is_long}
use Rattle.patmos_instr.specs.Bundles.{PlainBundle, FitsBundle}
use Rattle.patmos_instr.specs.declared.guards.Guard.{Guard}
use Rattle.patmos_instr.specs.declared.instructions.Instr.{Instr}
use Rattle.patmos_instr.specs.declared.instructions.Op.{Op}
use Rattle.patmos_code.specs.Codes.{code, words, second_word, instr_code}
use Rattle.patmos_code.specs.Decoding.{bundle_at}
use Rattle.patmos_code.proofs.Instructions.{instr_small}
use Rattle.patmos_code.proofs.Bundles.{bundle_back}
use Rattle.patmos_forms.specs.declared.forms.JumpKind.TheVariants.{Branch, Call, BranchFill}
use Rattle.patmos_syntax.specs.Drafts.{Draft, ready, to, DraftBundle, is_long_draft, size_of}
use Rattle.patmos_syntax.specs.Items.{Item, function, label, bundle, faulty}
use Rattle.patmos_asm.specs.Assembly.{Lookup, size_from, place_of, labels_from, placed_op, placed, words_from}
use Rattle.patmos_asm.specs.Bounds.{InBounds}
use Rattle.patmos_asm.specs.Printed.{Placed, bundles_from}
use Rattle.patmos_asm.proofs.Images.{code_size}
use Rattle.patmos_asm.proofs.Faultless.{Faultless, rest_faultless}
use Rattle.patmos_asm.proofs.ReadBundles.{IsPrintable, IsPrintableDraft, IsPrintableSecond}
use Rattle.patmos_asm.proofs.ParsedItems.{FitAll}

-- the words of a bundle stand for it
shape : (w : ℕ) (o : Option ℕ) (off : ℕ) (b : PlainBundle) (rest : List ℕ) → w < 2 ^ 31
    → ((first second : ℕ) → words w o
    ≡ (if nat_lt first (2 ^ 31) then first ∷ [] else first ∷ second ∷ []) → bundle_at first second ≡ Some b) →
    bundles_from off (words w o ++ rest) ≡ (off, b) ∷ bundles_from (off + length (words w o)) rest
shape w None off b [] h back =
    let lt : nat_lt w (2 ^ 31) ≡ true = grind (arith, nat_tests) in
    let e : bundle_at w 0 ≡ Some b = back w 0 (rw lt refl) in
    rw e refl
shape w None off b (v ∷ ws) h back =
    let lt : nat_lt w (2 ^ 31) ≡ true = grind (arith, nat_tests) in
    let e : bundle_at w v ≡ Some b = back w v (rw lt refl) in
    rw (e, lt) refl
shape w (Some v) off b rest h back =
    let lt : nat_lt (2 ^ 31 + w) (2 ^ 31) ≡ false = grind (arith, nat_tests) in
    let e : bundle_at (2 ^ 31 + w) v ≡ Some b = back (2 ^ 31 + w) v (rw lt refl) in
    rw (e, lt) refl

pub code_first : (off : ℕ) (b : PlainBundle) (rest : List ℕ) → FitsBundle b → bundles_from off (code b ++ rest)
    ≡ (off, b) ∷ bundles_from (off + length (code b)) rest
unfolding code
code_first off b rest f = shape (instr_code b.first) (second_word b.first.op b.second) off b rest
    (instr_small b.first f.first) (λ first second e. bundle_back b f first second e)

-- a bundle with places in their limits is one
near_fits : (z : ℤ) → z ≤ℤ pos 4096 → pos 0 ≤ℤ (z +ℤ pos 4096) → FitsOff22 z
near_fits (pos n) h k = omega (arith, ints)
near_fits (negsuc n) h k = omega (arith, ints)

way_fits : (p at : ℕ) → p ≤ 4096 → at ≤ 4096 → FitsOff22 (pos p -ℤ pos at)
way_fits p at h k = near_fits (pos p -ℤ pos at) (omega (arith, ints)) (omega (arith, ints))

place_small : (o : Option ℕ) (limit : ℕ) → ((place : ℕ) → o ≡ Some place → place ≤ limit) → unwrap_or o 0 ≤ limit
place_small None limit f = omega arith
place_small (Some p) limit f = f p refl

op_placed : (functions labels : Lookup) (at : ℕ) (d : Draft) → InBounds functions labels at → IsPrintableDraft d →
    FitsOp (placed_op functions labels at d) × (is_long (placed_op functions labels at d) ≡ is_long_draft d)
op_placed functions labels at (ready o) i p = (p.0, refl)
op_placed functions labels at (to Branch name) i p =
    (way_fits (unwrap_or (labels name) 0) at (place_small (labels name) 4096 (i.in_function name)) i.offset, refl)
op_placed functions labels at (to Call name) i p = (
  let s : unwrap_or (functions name) 0 ≤ 32768 = place_small (functions name) 32768 (i.in_image name) in
      omega arith,
  refl,
)
op_placed functions labels at (to BranchFill name) i p = (
  let s : unwrap_or (functions name) 0 ≤ 32768 = place_small (functions name) 32768 (i.in_image name) in
      omega arith,
  refl,
)

second_placed : (g : Guard) (o : Op) (d : Draft) (second : Option Instr) → g.pred < 8 → FitsOp o → is_long o
    ≡ is_long_draft d → IsPrintableSecond d second →
    FitsBundle (record { first = record { guard = g; op = o }; second = second })
second_placed g o d None h f l s = record { legal = refl; first = (h, f); second = tt }
second_placed g o d (Some i) h f l s = record { legal = rw (l, s.3, s.2) refl; first = (h, f); second = (s.0, s.1) }

pub placed_fits : (functions labels : Lookup) (at : ℕ) (b : DraftBundle) → InBounds functions labels at → IsPrintable b
    → FitsBundle (placed functions labels at b)
placed_fits functions labels at b i p =
    let t = op_placed functions labels at b.first.draft i p.draft in
    second_placed b.first.guard (placed_op functions labels at b.first.draft) b.first.draft b.second p.guard
    t.0 t.1 p.second

-- the words of a function up to its end
abbrev pub body_from : Lookup → Lookup → ℕ → List Item → List ℕ
body_from functions labels off [] = []
body_from functions labels off (function _ _ ∷ is) = []
body_from functions labels off (label _ _ ∷ is) = body_from functions labels off is
body_from functions labels off (bundle _ b ∷ is) =
    code (placed functions labels off b) ++ body_from functions labels (off + size_of b) is
body_from functions labels off (faulty _ _ ∷ is) = body_from functions labels off is

-- and its bundles
abbrev pub bundles_in : Lookup → Lookup → ℕ → List Item → List Placed
bundles_in functions labels off [] = []
bundles_in functions labels off (function _ _ ∷ is) = []
bundles_in functions labels off (label _ _ ∷ is) = bundles_in functions labels off is
bundles_in functions labels off (bundle _ b ∷ is) =
    (off, placed functions labels off b) ∷ bundles_in functions labels (off + size_of b) is
bundles_in functions labels off (faulty _ _ ∷ is) = bundles_in functions labels off is

take_more : (a w : List ℕ) (n k : ℕ) → n ≡ length a + k → take n (a ++ w) ≡ a ++ take k w
take_more [] w n k e = let z : n ≡ k = omega (arith, e) in rw z refl
take_more (x ∷ xs) w zero k e = absurd (omega arith)
take_more (x ∷ xs) w (suc n) k e = ap (λ t. x ∷ t) (take_more xs w n k (omega (arith, e)))

take_none : (w : List ℕ) → take 0 w ≡ []
take_none [] = refl
take_none (x ∷ xs) = refl

pub body_taken : (functions labels : Lookup) (off : ℕ) (is : List Item)
    → take (size_from is) (words_from functions labels off is) ≡ body_from functions labels off is
body_taken functions labels off [] = refl
body_taken functions labels off (function l n ∷ is) =
    take_none (size_from is ∷ words_from functions (place_of (labels_from 0 is)) 0 is)
body_taken functions labels off (label l n ∷ is) = body_taken functions labels off is
body_taken functions labels off (bundle l b ∷ is) =
    let s : length (code (placed functions labels off b)) ≡ size_of b = code_size functions labels off b in
    take_more (code (placed functions labels off b)) (words_from functions labels (off + size_of b) is)
    (size_of b + size_from is) (size_from is) (omega (arith, s))
    ∙ ap (λ t. code (placed functions labels off b) ++ t) (body_taken functions labels (off + size_of b) is)
body_taken functions labels off (faulty l f ∷ is) = body_taken functions labels off is

pub body_size : (functions labels : Lookup) (off : ℕ) (is : List Item) → length (body_from functions labels off is)
    ≡ size_from is
body_size functions labels off [] = refl
body_size functions labels off (function l n ∷ is) = refl
body_size functions labels off (label l n ∷ is) = body_size functions labels off is
body_size functions labels off (bundle l b ∷ is) =
    omega (
      arith,
      length-append (code (placed functions labels off b)) (body_from functions labels (off + size_of b)
          is),
      code_size functions labels off b,
      body_size functions labels (off + size_of b) is,
    )
body_size functions labels off (faulty l f ∷ is) = body_size functions labels off is

-- the words of a function are decoded to its bundles
pub body_decoded : (functions labels : Lookup) (off : ℕ) (is : List Item) → Faultless functions labels off is
    → FitAll is →
    bundles_from off (body_from functions labels off is) ≡ bundles_in functions labels off is
body_decoded functions labels off [] f h = refl
body_decoded functions labels off (function l n ∷ is) f h = refl
body_decoded functions labels off (label l n ∷ is) f h =
    body_decoded functions labels off is (rest_faultless functions labels off (label l n) is f) h.1
body_decoded functions labels off (bundle l b ∷ is) f h =
    let fits : FitsBundle (placed functions labels off b) = placed_fits functions labels off b f.within h.0 in
    code_first off (placed functions labels off b) (body_from functions labels (off + size_of b) is) fits
    ∙ ap (λ n. (off, placed functions labels off b) ∷ bundles_from (off + n) (body_from functions labels
    (off + size_of b) is)) (code_size functions labels off b)
    ∙ ap (λ bs. (off, placed functions labels off b) ∷ bs) (body_decoded functions labels (off + size_of b) is
    (rest_faultless functions labels off (bundle l b) is f) h.1)
body_decoded functions labels off (faulty l k ∷ is) f h = let e = f.none in cc
