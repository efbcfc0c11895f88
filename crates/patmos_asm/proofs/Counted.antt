-- What the printed statements have in common with those that they are printed of.
use Rattle.std.proofs.Common.{arith, ◌≡◌, ◌≢◌, ◌∙◌, ℕ, ◌+◌, ◌^◌, ◌<◌, ◌==◌, ◌||◌, Bool, true, false, cond, List, [], ◌∷◌, ◌++◌, refl, sym, ap, Option, Some, is_some, bytes_eq}
use Rattle.std.specs.List.{list_all}
use Rattle.std.specs.Fmt.{decimal}
use Rattle.std.proofs.lemmas.Bool.Decides.{nat_tests}
use Rattle.std.proofs.lemmas.Bool.{and_parts}
use Rattle.patmos_instr.specs.Instructions.{is_long}
use Rattle.patmos_instr.specs.declared.instructions.Op.{Op}
use Rattle.patmos_instr.specs.declared.instructions.Op.TheVariants as op
use Rattle.patmos_forms.specs.declared.forms.JumpKind.TheVariants.{Branch, Call, BranchFill}
use Rattle.patmos_forms.specs.Readers.{is_digit, is_in_name, is_name}
use Rattle.patmos_syntax.specs.Drafts.{Draft, ready, to, DraftBundle, is_long_draft, size_of}
use Rattle.patmos_syntax.specs.Items.{Item, function, label, bundle, faulty}
use Rattle.patmos_asm.specs.Assembly.{Lookup, size_from, place_of, labels_from, functions_from, names_from, placed_op, placed}
use Rattle.patmos_asm.specs.Printed.{label_name, name_at, named_op, named}
use Rattle.patmos_asm.proofs.Placed.{bytes_eq_same}
use Rattle.patmos_asm.proofs.ReadWords.{IsNumeral, decimal_numeral}
use Rattle.patmos_asm.proofs.Relabeled.{mark, branched_of, relabeled, starts_with_names}

op_long : (names : ℕ → List ℕ) (off : ℕ) (o : Op) → is_long_draft (named_op names off o) ≡ is_long o
op_long names off (op.Branch z) = refl
op_long names off (op.Call n) = refl
op_long names off (op.BranchFill n) = refl
op_long names off _ = refl

draft_long : (functions labels : Lookup) (off : ℕ) (d : Draft) → is_long (placed_op functions labels off d)
    ≡ is_long_draft d
draft_long functions labels off (ready o) = refl
draft_long functions labels off (to Branch n) = refl
draft_long functions labels off (to Call n) = refl
draft_long functions labels off (to BranchFill n) = refl

pub named_long : (names : ℕ → List ℕ) (functions labels : Lookup) (off : ℕ) (d : Draft)
    → is_long_draft (named_op names off (placed_op functions labels off d)) ≡ is_long_draft d
named_long names functions labels off d =
    op_long names off (placed_op functions labels off d) ∙ draft_long functions labels off d

-- a bundle with names has as many words
pub named_size : (names : ℕ → List ℕ) (functions labels : Lookup) (off : ℕ) (b : DraftBundle)
    → size_of (named names off (placed functions labels off b)) ≡ size_of b
named_size names functions labels off b =
    ap (λ t. cond (t || is_some b.second) 2 1) (named_long names functions labels off b.first.draft)

mark_names : (branched : ℕ → Bool) (off : ℕ) (is : List Item) → names_from (mark branched off ++ is) ≡ names_from is
mark_names branched off is = by_test (branched off)
  where
    by_test : (t : Bool) → names_from (cond t (label 0 (label_name off) ∷ []) [] ++ is) ≡ names_from is
    by_test true = refl
    by_test false = refl

mark_functions : (branched : ℕ → Bool) (off at : ℕ) (is : List Item) → functions_from at (mark branched off ++ is)
    ≡ functions_from at is
mark_functions branched off at is = by_test (branched off)
  where
    by_test : (t : Bool) → functions_from at (cond t (label 0 (label_name off) ∷ []) [] ++ is) ≡ functions_from at is
    by_test true = refl
    by_test false = refl

mark_size : (branched : ℕ → Bool) (off : ℕ) (is : List Item) → size_from (mark branched off ++ is) ≡ size_from is
mark_size branched off is = by_test (branched off)
  where
    by_test : (t : Bool) → size_from (cond t (label 0 (label_name off) ∷ []) [] ++ is) ≡ size_from is
    by_test true = refl
    by_test false = refl

pub mark_alone : (branched : ℕ → Bool) (off : ℕ) → mark branched off ≡ mark branched off ++ []
mark_alone branched off = by_test (branched off)
  where
    by_test : (t : Bool) → cond t (label 0 (label_name off) ∷ []) [] ≡ cond t (label 0 (label_name off) ∷ []) [] ++ []
    by_test true = refl
    by_test false = refl

pub same_names : (names : ℕ → List ℕ) (functions labels : Lookup) (branched : ℕ → Bool) (off : ℕ) (is : List Item)
    → names_from (relabeled names functions labels branched off is) ≡ names_from is
same_names names functions labels branched off [] = ap names_from (mark_alone branched off) ∙ mark_names branched off []
same_names names functions labels branched off (function l n ∷ is) =
    mark_names branched off (function 0 n ∷ relabeled names functions (place_of (labels_from 0 is))
    (branched_of functions (place_of (labels_from 0 is)) is) 0 is)
    ∙ ap (λ r. n ∷ r) (same_names names functions (place_of (labels_from 0 is))
    (branched_of functions (place_of (labels_from 0 is)) is) 0 is)
same_names names functions labels branched off (label l n ∷ is) = same_names names functions labels branched off is
same_names names functions labels branched off (bundle l b ∷ is) =
    mark_names branched off (bundle 0 (named names off (placed functions labels off b))
    ∷ relabeled names functions labels branched (off + size_of b) is)
    ∙ same_names names functions labels branched (off + size_of b) is
same_names names functions labels branched off (faulty l k ∷ is) = same_names names functions labels branched off is

pub same_functions : (names : ℕ → List ℕ) (functions labels : Lookup) (branched : ℕ → Bool) (off at : ℕ)
    (is : List Item) →
    functions_from at (relabeled names functions labels branched off is) ≡ functions_from at is
same_functions names functions labels branched off at [] =
    ap (functions_from at) (mark_alone branched off) ∙ mark_functions branched off at []
same_functions names functions labels branched off at (function l n ∷ is) =
    mark_functions branched off at (function 0 n ∷ relabeled names functions (place_of (labels_from 0 is))
    (branched_of functions (place_of (labels_from 0 is)) is) 0 is)
    ∙ ap (λ r. (n, at + 1) ∷ r) (same_functions names functions (place_of (labels_from 0 is))
    (branched_of functions (place_of (labels_from 0 is)) is) 0 (at + 1) is)
same_functions names functions labels branched off at (label l n ∷ is) =
    same_functions names functions labels branched off at is
same_functions names functions labels branched off at (bundle l b ∷ is) =
    mark_functions branched off at (bundle 0 (named names off (placed functions labels off b))
    ∷ relabeled names functions labels branched (off + size_of b) is)
    ∙ ap (λ n. functions_from (at + n) (relabeled names functions labels branched (off + size_of b) is))
    (named_size names functions labels off b)
    ∙ same_functions names functions labels branched (off + size_of b) (at + size_of b) is
same_functions names functions labels branched off at (faulty l k ∷ is) =
    same_functions names functions labels branched off at is

pub same_size : (names : ℕ → List ℕ) (functions labels : Lookup) (branched : ℕ → Bool) (off : ℕ) (is : List Item)
    → size_from (relabeled names functions labels branched off is) ≡ size_from is
same_size names functions labels branched off [] = ap size_from (mark_alone branched off) ∙ mark_size branched off []
same_size names functions labels branched off (function l n ∷ is) =
    mark_size branched off (function 0 n ∷ relabeled names functions (place_of (labels_from 0 is))
    (branched_of functions (place_of (labels_from 0 is)) is) 0 is)
same_size names functions labels branched off (label l n ∷ is) = same_size names functions labels branched off is
same_size names functions labels branched off (bundle l b ∷ is) =
    mark_size branched off (bundle 0 (named names off (placed functions labels off b))
    ∷ relabeled names functions labels branched (off + size_of b) is)
    ∙ ap (λ n. n + size_from (relabeled names functions labels branched (off + size_of b) is)) (named_size names
    functions labels off b)
    ∙ ap (λ n. size_of b + n) (same_size names functions labels branched (off + size_of b) is)
same_size names functions labels branched off (faulty l k ∷ is) = same_size names functions labels branched off is

-- labels of different offsets are different
label_value : (p q : ℕ) → p < 2 ^ 64 → q < 2 ^ 64 → label_name p ≡ label_name q → p ≡ q
label_value p q h k e =
    let a : IsNumeral p (decimal p) = decimal_numeral p h in
    let b : IsNumeral q (decimal q) = decimal_numeral q k in
    let d : decimal p ≡ decimal q = cc in
    let av = a.value in
    let bv = b.value in
    cc

pub label_apart : (p q : ℕ) → p < 2 ^ 64 → q < 2 ^ 64 → p ≢ q → bytes_eq (label_name p) (label_name q) ≡ false
label_apart p q h k n = by_test (bytes_eq (label_name p) (label_name q)) refl
  where
    by_test : (t : Bool) → bytes_eq (label_name p) (label_name q) ≡ t → t ≡ false
    by_test true e = absurd (n (label_value p q h k (bytes_eq_same (label_name p) (label_name q) e)))
    by_test false e = refl

pub bytes_eq_refl : (a : List ℕ) → bytes_eq a a ≡ true
bytes_eq_refl [] = refl
bytes_eq_refl (x ∷ xs) = let same : x == x ≡ true = grind (arith, nat_tests) in rw (same, bytes_eq_refl xs) refl

digit_in_name : (b : ℕ) → is_digit b ≡ true → is_in_name b ≡ true
digit_in_name b e = grind (arith, nat_tests)

digits_in_name : (ds : List ℕ) → list_all is_digit ds ≡ true → list_all is_in_name ds ≡ true
digits_in_name [] e = refl
digits_in_name (b ∷ ds) e =
    let t = and_parts (is_digit b) (list_all is_digit ds) e in rw (digit_in_name b t.0, digits_in_name ds t.1) refl

-- the label of an offset is a name
pub label_is_name : (n : ℕ) → n < 2 ^ 64 → is_name (label_name n) ≡ true
label_is_name n h = digits_in_name (decimal n) (decimal_numeral n h).digits

above_when : (t : Bool) (at q : ℕ) (o : Option ℕ) → cond t (Some (at + 1)) o ≡ Some q
    → (o ≡ Some q → at + 1 < q) → at < q
above_when true at q o e rest = let k : at + 1 ≡ q = cc in omega arith
above_when false at q o e rest = let r : at + 1 < q = rest e in omega arith

place_above : (at : ℕ) (is : List Item) (name : List ℕ) (q : ℕ) → place_of (functions_from at is) name ≡ Some q → at < q
place_above at [] name q e = cc
place_above at (function l n ∷ is) name q e =
    above_when (bytes_eq name n) at q (place_of (functions_from (at + 1) is) name) e (place_above (at + 1) is name q)
place_above at (label l n ∷ is) name q e = place_above at is name q e
place_above at (bundle l b ∷ is) name q e =
    let r : at + size_of b < q = place_above (at + size_of b) is name q e in omega arith
place_above at (faulty l k ∷ is) name q e = place_above at is name q e

name_when : (t : Bool) (at q : ℕ) (name n : List ℕ) (o : Option ℕ) (fs : List (ℕ × List ℕ)) → bytes_eq name n ≡ t
    → cond t (Some (at + 1)) o ≡ Some q → (o ≡ Some q → (at + 1 < q) × (name_at fs q ≡ name)) →
    name_at ((at + 1, n) ∷ fs) q ≡ name
name_when true at q name n o fs h e rest =
    let k : q ≡ at + 1 = cc in
    let same : q == at + 1 ≡ true = grind (arith, nat_tests) in
    rw same (sym (bytes_eq_same name n h))
name_when false at q name n o fs h e rest =
    let r : (at + 1 < q) × (name_at fs q ≡ name) = rest e in
    let other : q == at + 1 ≡ false = grind (arith, nat_tests) in
    rw other r.1

-- the name at the place of a function is that function's
pub names_back : (at : ℕ) (is : List Item) (name : List ℕ) (q : ℕ) → place_of (functions_from at is) name ≡ Some q
    → name_at (starts_with_names at is) q ≡ name
names_back at [] name q e = cc
names_back at (function l n ∷ is) name q e =
    name_when (bytes_eq name n) at q name n (place_of (functions_from (at + 1) is) name)
    (starts_with_names (at + 1) is) refl e
    (λ r. (place_above (at + 1) is name q r, names_back (at + 1) is name q r))
names_back at (label l n ∷ is) name q e = names_back at is name q e
names_back at (bundle l b ∷ is) name q e = names_back (at + size_of b) is name q e
names_back at (faulty l k ∷ is) name q e = names_back at is name q e
