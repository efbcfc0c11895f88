-- The names of functions are names as the assembler takes them, and differ.
use Rattle.std.proofs.Common.{arith, ◌≡◌, ◌∙◌, ℕ, zero, suc, ◌^◌, ◌<◌, ◌&&◌, ◌||◌, not, Bool, true, false, List, [], ◌∷◌, ◌++◌, length, refl, sym, ap, subst, bytes_eq, codes, inl, inr}
use Rattle.std.specs.Fmt.{decimal}
use Rattle.std.specs.List.{list_any}
use Rattle.std.proofs.lemmas.Bool.{and_parts, cases_eq}
use Rattle.std.proofs.lemmas.Fmt.{decimal_injective}
use Rattle.std.proofs.lemmas.List.{get_or_append_left, get_or_push, length_push}
use Rattle.patmos_forms.specs.Readers.{is_name}
use Rattle.patmos_asm.specs.Assembly.{is_among}
use Rattle.patmos_asm.proofs.Counted.{label_is_name}
use Rattle.patmos_asm.proofs.Placed.{bytes_eq_same}
use Rattle.tc_word.proofs.Items.{bytes_eq_sym}
use Rattle.code_text.specs.Listing.{name_of}
use Rattle.code_text.specs.Names.{are_names, numbered, HasNames}

is_not : (a : Bool) → not a ≡ true → a ≡ false
is_not true e = cc
is_not false e = refl

-- ---- those of the source

name_at : (names : List (List ℕ)) (k : ℕ) → are_names names ≡ true → k < length names → is_name (name_of names k) ≡ true
name_at [] k e h = absurd (omega arith)
name_at (n ∷ ns) zero e h = (and_parts (is_name n) (not (is_among n ns) && are_names ns) e).0
name_at (n ∷ ns) (suc k) e h =
    let t = and_parts (is_name n) (not (is_among n ns) && are_names ns) e in
    name_at ns k (and_parts (not (is_among n ns)) (are_names ns) t.1).1 (omega (arith, h))

other_name : (n : List ℕ) (ns : List (List ℕ)) (k : ℕ) → is_among n ns ≡ false → k < length ns
    → bytes_eq n (name_of ns k) ≡ false
other_name n [] k e h = absurd (omega arith)
other_name n (m ∷ ns) zero e h = first (bytes_eq n m) e
  where
    first : (t : Bool) → (t || list_any (bytes_eq n) ns) ≡ false → t ≡ false
    first true f = cc
    first false f = refl
other_name n (m ∷ ns) (suc k) e h = other_name n ns k (rest (bytes_eq n m) e) (omega (arith, h))
  where
    rest : (t : Bool) → (t || list_any (bytes_eq n) ns) ≡ false → list_any (bytes_eq n) ns ≡ false
    rest true f = cc
    rest false f = f

apart_at : (names : List (List ℕ)) (j k : ℕ) → are_names names ≡ true → j < length names → k < length names
    → bytes_eq (name_of names j) (name_of names k) ≡ true → j ≡ k
apart_at [] j k e h i same = absurd (omega arith)
apart_at (n ∷ ns) zero zero e h i same = refl
apart_at (n ∷ ns) zero (suc k) e h i same =
    let t = and_parts (is_name n) (not (is_among n ns) && are_names ns) e in
    let other : bytes_eq n (name_of ns k) ≡ false =
    other_name n ns k (is_not (is_among n ns) (and_parts (not (is_among n ns)) (are_names ns) t.1).0)
    (omega (arith, i)) in cc
apart_at (n ∷ ns) (suc j) zero e h i same =
    let t = and_parts (is_name n) (not (is_among n ns) && are_names ns) e in
    let other : bytes_eq n (name_of ns j) ≡ false =
    other_name n ns j (is_not (is_among n ns) (and_parts (not (is_among n ns)) (are_names ns) t.1).0)
    (omega (arith, h)) in
    let turned : bytes_eq n (name_of ns j) ≡ true = bytes_eq_sym n (name_of ns j) ∙ same in cc
apart_at (n ∷ ns) (suc j) (suc k) e h i same =
    let t = and_parts (is_name n) (not (is_among n ns) && are_names ns) e in
    ap suc (apart_at ns j k (and_parts (not (is_among n ns)) (are_names ns) t.1).1 (omega (arith, h))
    (omega (arith, i)) same)

-- ---- numbers

numbered_length : (n : ℕ) → length (numbered n) ≡ n
numbered_length zero = refl
numbered_length (suc n) = omega (arith, length_push (numbered n) (codes "f" ++ decimal n), numbered_length n)

numbered_at : (n k : ℕ) → k < n → name_of (numbered n) k ≡ codes "f" ++ decimal k
numbered_at zero k h = absurd (omega arith)
numbered_at (suc n) k h = elim (cases_eq k n) [
  | inl is ↦ get_or_push (numbered n) (codes "f" ++ decimal n) [] k (omega (arith, is, numbered_length n))
      ∙ ap (λ m. codes "f" ++ decimal m) (sym is)
  | inr ne ↦ get_or_append_left (numbered n) ((codes "f" ++ decimal n) ∷ []) [] k (omega (
    arith,
    h,
    ne,
    numbered_length n,
  )) ∙ numbered_at n k (omega (arith, h, ne))
]

number_is_name : (k : ℕ) → k < 2 ^ 64 → is_name (codes "f" ++ decimal k) ≡ true
number_is_name k h = label_is_name k h

pub numbered_has : (n : ℕ) → n < 2 ^ 32 → HasNames (numbered n) n
numbered_has n small = record {
  named = λ k h. ap is_name (numbered_at n k h) ∙ number_is_name k (omega (arith, h, small));
  apart = λ j k h i same.
      let e : codes "f" ++ decimal j ≡ codes "f" ++ decimal k = sym (numbered_at n j h)
      ∙ bytes_eq_same (name_of (numbered n) j) (name_of (numbered n) k) same ∙ numbered_at n k i in
      let d : decimal j ≡ decimal k = cc in
      decimal_injective j k (omega (arith, h, small)) (omega (arith, i, small)) d;
}

pub source_has : (names : List (List ℕ)) (count : ℕ) → length names ≡ count → are_names names ≡ true
    → HasNames names count
source_has names count all e = subst (HasNames names) all (record {
  named = λ k h. name_at names k e h;
  apart = λ j k h i same. apart_at names j k e h i same;
})
