-- The functions of an image one after another: their names, and the words at which they start.
use Rattle.std.proofs.Common.{arith, ◌≡◌, ◌≢◌, ◌∙◌, ℕ, zero, suc, ◌+◌, ◌<◌, ◌≤◌, ◌==◌, Bool, true, false, cond, if◌then◌else◌, List, [], ◌∷◌, ◌++◌, map, refl, sym, ap, subst, append-nil, ne_eqb, bytes_eq, Some, None, inl, inr}
use Rattle.std.specs.List.{AllByRecursion as Each}
use Rattle.std.proofs.lemmas.Bool.{cases_eq, eq-eqb}
use Rattle.std.proofs.lemmas.List.{map-append}
use Rattle.patmos_asm.specs.Assembly.{Places, place_of}
use Rattle.patmos_asm.proofs.Counted.{bytes_eq_refl}
use Rattle.tc_link.specs.Placed.{others, others_below, place}
use Rattle.tc_link.proofs.Order.{entry_placed, other_placed}

not_same : (a b : ℕ) → (a == b) ≡ false → a ≢ b
not_same a b f same = let t = eq-eqb a b same in cc

-- functions with their places, where so many words stand before the first
abbrev pub places_at : (ℕ → List ℕ) → (ℕ → ℕ) → ℕ → List ℕ → Places
places_at name size at [] = []
places_at name size at (k ∷ ks) = (name k, at + 1) ∷ places_at name size (at + (1 + size k)) ks

-- the words of functions, with their sizes
abbrev pub words_of : (ℕ → ℕ) → List ℕ → ℕ
words_of size [] = 0
words_of size (k ∷ ks) = (1 + size k) + words_of size ks

-- each differs from those after it
abbrev pub AllApart : List ℕ → Type 0
AllApart [] = Unit {0}
AllApart (k ∷ ks) = Each (λ j. j ≢ k) ks × AllApart ks

module _ (name : ℕ → List ℕ) (size : ℕ → ℕ) where
  places_both : (at : ℕ) (xs ys : List ℕ) → places_at name size at (xs ++ ys) ≡ places_at name size at xs
      ++ places_at name size (at + words_of size xs) ys
  places_both at [] ys = ap (λ n. places_at name size n ys) (omega arith)
  places_both at (k ∷ xs) ys =
      ap (λ ps. (name k, at + 1) ∷ ps) (places_both (at + (1 + size k)) xs ys
      ∙ ap (λ n. places_at name size (at + (1 + size k)) xs ++ places_at name size n ys) (omega arith))

  words_both : (xs ys : List ℕ) → words_of size (xs ++ ys) ≡ words_of size xs + words_of size ys
  words_both [] ys = omega arith
  words_both (k ∷ xs) ys = omega (arith, words_both xs ys)

  others_words : (entry n : ℕ) → words_of size (others entry n) ≡ others_below size entry n
  others_words entry zero = refl
  others_words entry (suc n) = by_test (n == entry) (others_words entry n)
    where
      by_test : (t : Bool) → words_of size (others entry n) ≡ others_below size entry n → words_of size (others entry n
          ++ (if t then [] else n ∷ [])) ≡ others_below size entry n + (if t then 0 else 1 + size n)
      by_test true e = omega (arith, words_both (others entry n) [], e)
      by_test false e = omega (arith, words_both (others entry n) (n ∷ []), e)

  -- ---- their starts

  pub starts_order : (entry n at : ℕ) → at ≡ 1 + size entry → map (λ p. p.1) (places_at name size at (others entry n))
      ≡ map (place size entry) (others entry n)
  starts_order entry zero at e = refl
  starts_order entry (suc n) at e = by_test (n == entry) refl (starts_order entry n at e)
    where
      by_test : (t : Bool) → (n == entry) ≡ t → map (λ p. p.1) (places_at name size at (others entry n))
          ≡ map (place size entry) (others entry n)
          → map (λ p. p.1) (places_at name size at (others entry n ++ (if t then [] else n ∷ [])))
          ≡ map (place size entry) (others entry n ++ (if t then [] else n ∷ []))
      by_test true is before =
          ap (λ xs. map (λ p. p.1) (places_at name size at xs)) (append-nil (others entry n)) ∙ before
          ∙ ap (map (place size entry)) (sym (append-nil (others entry n)))
      by_test false is before =
          let here : at + words_of size (others entry n) + 1 ≡ place size entry n =
          omega (arith, e, others_words entry n, other_placed size entry n (not_same n entry is)) in
          ap (map (λ p. p.1)) (places_both at (others entry n) (n ∷ []))
          ∙ map-append (λ p. p.1) (places_at name size at (others entry n)) (places_at name size
          (at + words_of size (others entry n)) (n ∷ []))
          ∙ ap (λ xs. xs ++ (at + words_of size (others entry n) + 1) ∷ []) before
          ∙ ap (λ x. map (place size entry) (others entry n) ++ x ∷ []) here
          ∙ sym (map-append (place size entry) (others entry n) (n ∷ []))

  -- ---- each is found under its name

  module _ (count : ℕ) (apart : (j k : ℕ) → j < count → k < count → bytes_eq (name j) (name k) ≡ true → j ≡ k) where
    other_name : (j k : ℕ) → j < count → k < count → j ≢ k → bytes_eq (name j) (name k) ≡ false
    other_name j k h i ne = by_test (bytes_eq (name j) (name k)) refl
      where
        by_test : (t : Bool) → bytes_eq (name j) (name k) ≡ t → t ≡ false
        by_test true e = absurd (ne (apart j k h i e))
        by_test false e = refl

    found_front : (a b : Places) (n : List ℕ) (p : ℕ) → place_of a n ≡ Some p → place_of (a ++ b) n ≡ Some p
    found_front [] b n p e = cc
    found_front (x ∷ a) b n p e = by_test (bytes_eq n x.0) (found_front a b n p) e
      where
        by_test : (t : Bool) → (place_of a n ≡ Some p → place_of (a ++ b) n ≡ Some p) → cond t (Some x.1) (place_of a n)
            ≡ Some p → cond t (Some x.1) (place_of (a ++ b) n) ≡ Some p
        by_test true more f = f
        by_test false more f = more f

    found_back : (a b : Places) (n : List ℕ) → place_of a n ≡ None → place_of (a ++ b) n ≡ place_of b n
    found_back [] b n e = refl
    found_back (x ∷ a) b n e = by_test (bytes_eq n x.0) (found_back a b n) e
      where
        by_test : (t : Bool) → (place_of a n ≡ None → place_of (a ++ b) n ≡ place_of b n)
            → cond t (Some x.1) (place_of a n) ≡ None → cond t (Some x.1) (place_of (a ++ b) n) ≡ place_of b n
        by_test true more f = cc
        by_test false more f = more f

    absent : (at entry n k : ℕ) → n ≤ k → k < count → place_of (places_at name size at (others entry n)) (name k) ≡ None
    absent at entry zero k h i = refl
    absent at entry (suc n) k h i =
        by_test (n == entry) (absent at entry n k (omega arith) i)
      where
        by_test : (t : Bool) → place_of (places_at name size at (others entry n)) (name k) ≡ None
            → place_of (places_at name size at (others entry n ++ (if t then [] else n ∷ []))) (name k) ≡ None
        by_test true e = ap (λ xs. place_of (places_at name size at xs) (name k)) (append-nil (others entry n)) ∙ e
        by_test false e =
            let other = other_name k n i (omega arith) (λ s. omega (arith, s)) in
            ap (λ ps. place_of ps (name k)) (places_both at (others entry n) (n ∷ []))
            ∙ found_back (places_at name size at (others entry n)) _ (name k) e ∙ rw other refl

    found_other : (at entry n k : ℕ) → n ≤ count → k < n → k ≢ entry → at ≡ 1 + size entry
        → place_of (places_at name size at (others entry n)) (name k) ≡ Some (place size entry k)
    found_other at entry zero k h below ne e = absurd (omega arith)
    found_other at entry (suc n) k h below ne e = elim (cases_eq k n) [
      | inl last ↦
          let is_other : n ≢ entry = subst (λ j. j ≢ entry) last ne in
          let here : at + words_of size (others entry n) + 1 ≡ place size entry k =
          omega (arith, e, others_words entry n, other_placed size entry n is_other, ap (place size entry) last) in
          ap (λ b. place_of (places_at name size at (others entry n ++ (if b then [] else n ∷ []))) (name k))
          (ne_eqb n entry is_other)
          ∙ ap (λ ps. place_of ps (name k)) (places_both at (others entry n) (n ∷ []))
          ∙ found_back (places_at name size at (others entry n)) _ (name k) (absent at entry n k (omega (arith, last))
          (omega (arith, h)))
          ∙ (let same : bytes_eq (name k) (name n) ≡ true = ap (λ j. bytes_eq (name k) (name j)) (sym last)
          ∙ bytes_eq_refl (name k) in rw same (ap (λ p. Some p) here))
      | inr earlier ↦
          let before = found_other at entry n k (omega (arith, h)) (omega (arith, below, earlier)) ne e in
          front (n == entry) before
    ]
      where
        front : (t : Bool) → place_of (places_at name size at (others entry n)) (name k) ≡ Some (place size entry k)
            → place_of (places_at name size at (others entry n ++ (if t then [] else n ∷ []))) (name k)
            ≡ Some (place size entry k)
        front true f = ap (λ xs. place_of (places_at name size at xs) (name k)) (append-nil (others entry n)) ∙ f
        front false f = ap (λ ps. place_of ps (name k)) (places_both at (others entry n) (n ∷ []))
            ∙ found_front (places_at name size at (others entry n)) _ (name k) (place size entry k) f

    pub found_all : (entry k : ℕ) → entry < count → k < count
        → place_of (places_at name size 0 (entry ∷ others entry count)) (name k) ≡ Some (place size entry k)
    found_all entry k h below = elim (cases_eq k entry) [
      | inl is ↦
          let same : bytes_eq (name k) (name entry) ≡ true =
          ap (λ j. bytes_eq (name k) (name j)) (sym is) ∙ bytes_eq_refl (name k) in
          rw same (ap (λ p. Some p) (sym (entry_placed size entry k is)))
      | inr ne ↦
          let other = other_name k entry below h ne in
          rw other (found_other (0 + (1 + size entry)) entry count k (omega arith) below ne (omega arith))
    ]

-- ---- no function comes twice

each_push : (P : ℕ → Type 0) (xs : List ℕ) (k : ℕ) → Each P xs → P k → Each P (xs ++ k ∷ [])
each_push P [] k e p = (p, tt)
each_push P (x ∷ xs) k e p = (e.0, each_push P xs k e.1 p)

apart_push : (xs : List ℕ) (k : ℕ) → AllApart xs → Each (λ j. j ≢ k) xs → AllApart (xs ++ k ∷ [])
apart_push [] k a e = (tt, tt)
apart_push (x ∷ xs) k a e = (each_push (λ j. j ≢ x) xs k a.0 (λ same. e.0 (sym same)), apart_push xs k a.1 e.1)

each_more : (P Q : ℕ → Type 0) (xs : List ℕ) → ((k : ℕ) → P k → Q k) → Each P xs → Each Q xs
each_more P Q [] so e = tt
each_more P Q (x ∷ xs) so e = (so x e.0, each_more P Q xs so e.1)

-- the others are less than their number, and none is the entry
others_less : (entry n : ℕ) → Each (λ k. (k < n) × (k ≢ entry)) (others entry n)
others_less entry zero = tt
others_less entry (suc n) = by_test (n == entry) refl (each_more (λ k. (k < n) × (k ≢ entry)) (λ k. (k < suc n)
    × (k ≢ entry)) (others entry n) (λ k p. (omega (arith, p.0), p.1)) (others_less entry n))
  where
    by_test : (t : Bool) → (n == entry) ≡ t → Each (λ k. (k < suc n) × (k ≢ entry)) (others entry n)
        → Each (λ k. (k < suc n) × (k ≢ entry)) (others entry n ++ (if t then [] else n ∷ []))
    by_test true is e = subst (Each (λ k. (k < suc n) × (k ≢ entry))) (sym (append-nil (others entry n))) e
    by_test false is e =
        each_push (λ k. (k < suc n) × (k ≢ entry)) (others entry n) n e (omega arith, not_same n entry is)

others_apart : (entry n : ℕ) → AllApart (others entry n)
others_apart entry zero = tt
others_apart entry (suc n) = by_test (n == entry) (others_apart entry n)
  where
    by_test : (t : Bool) → AllApart (others entry n) → AllApart (others entry n ++ (if t then [] else n ∷ []))
    by_test true a = subst AllApart (sym (append-nil (others entry n))) a
    by_test false a = apart_push (others entry n) n a (each_more (λ k. (k < n) × (k ≢ entry)) (λ k. k ≢ n)
        (others entry n) (λ k p e. omega (arith, p.0, e)) (others_less entry n))

pub order_apart : (entry n : ℕ) → AllApart (entry ∷ others entry n)
order_apart entry n = (
  each_more (λ k. (k < n) × (k ≢ entry)) (λ k. k ≢ entry) (others entry n) (λ k p. p.1)
      (others_less entry n),
  others_apart entry n,
)

pub order_within : (entry n : ℕ) → entry < n → Each (λ k. k < n) (entry ∷ others entry n)
order_within entry n h =
    (h, each_more (λ k. (k < n) × (k ≢ entry)) (λ k. k < n) (others entry n) (λ k p. p.0) (others_less entry n))

pub order_words : (size : ℕ → ℕ) (entry n : ℕ) → words_of size (entry ∷ others entry n) ≡ 1 + size entry
    + others_below size entry n
order_words size entry n = omega (arith, others_words (λ _. []) size entry n)
