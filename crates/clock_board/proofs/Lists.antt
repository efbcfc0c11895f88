-- Sums over lists of which one place changes, and facts of each element.
use Rattle.std.proofs.Common.{◌≡◌, ◌≢◌, ℕ, zero, suc, ◌+◌, ◌<◌, ◌≤◌, List, [], ◌∷◌, set, sum_by, sym, refl, ap, arith, inl, inr}
use Rattle.std.specs.List.{AllByRecursion as Each}
use Rattle.std.proofs.lemmas.Bool.{cases_eq}
use Rattle.std.proofs.lemmas.List.Sums.{sum_by-cons}
use mathlib.Core.Option.{some, some-injective, some-ne-none}
use lib.ListN.{get_elem?}

module _ {A : Type 0} where
  -- what holds of each element holds of the one that is read
  pub each_at : (P : A → Type 0) (xs : List A) (i : ℕ) (x : A) → Each P xs → get_elem? xs i ≡ some x → P x
  each_at P [] i x h e = absurd (some-ne-none x (sym e))
  each_at P (y ∷ ys) zero x h e = let same : y ≡ x = some-injective y x e in rw (← same) h.0
  each_at P (y ∷ ys) (suc i) x h e = each_at P ys i x h.1 e

  module _ (f : A → ℕ) where
    -- the sum after a change at one place
    pub sum-set : (xs : List A) (i : ℕ) (v w : A) → get_elem? xs i ≡ some v → sum_by f (set xs i w) + f v
        ≡ sum_by f xs + f w
    sum-set [] i v w e = absurd (some-ne-none v (sym e))
    sum-set (x ∷ xs) zero v w e = omega (arith, sum_by-cons f x xs, sum_by-cons f w xs, ap f (some-injective x v e))
    sum-set (x ∷ xs) (suc i) v w e = omega (arith, sum_by-cons f x xs, sum_by-cons f x (set xs i w), sum-set xs i v w e)

    -- one term is at most the sum
    pub term_le : (xs : List A) (i : ℕ) (v : A) → get_elem? xs i ≡ some v → f v ≤ sum_by f xs
    term_le [] i v e = absurd (some-ne-none v (sym e))
    term_le (x ∷ xs) zero v e = omega (arith, sum_by-cons f x xs, ap f (some-injective x v e))
    term_le (x ∷ xs) (suc i) v e = omega (arith, sum_by-cons f x xs, term_le xs i v e)

    -- two terms are at most the sum
    pub terms_le : (xs : List A) (i j : ℕ) (v w : A) → j ≢ i → get_elem? xs i ≡ some v → get_elem? xs j ≡ some w
        → f v + f w ≤ sum_by f xs
    terms_le [] i j v w n e d = absurd (some-ne-none v (sym e))
    terms_le (x ∷ xs) zero zero v w n e d = absurd (n refl)
    terms_le (x ∷ xs) zero (suc j) v w n e d =
        omega (arith, sum_by-cons f x xs, ap f (some-injective x v e), term_le xs j w d)
    terms_le (x ∷ xs) (suc i) zero v w n e d =
        omega (arith, sum_by-cons f x xs, ap f (some-injective x w d), term_le xs i v e)
    terms_le (x ∷ xs) (suc i) (suc j) v w n e d =
        omega (arith, sum_by-cons f x xs, terms_le xs i j v w (λ h. n (ap suc h)) e d)

    -- where the sum is 0, each term is
    pub none_counts : (xs : List A) → sum_by f xs ≡ 0 → Each (λ x. f x ≡ 0) xs
    none_counts [] e = tt
    none_counts (x ∷ xs) e =
        let here : f x ≡ 0 = omega (arith, sum_by-cons f x xs) in
        let there : sum_by f xs ≡ 0 = omega (arith, sum_by-cons f x xs) in
        (here, none_counts xs there)

  -- the one place of a list that counts
  pub record TheOne (f : A → ℕ) (xs : List A) : Type 0 where
    pub index : ℕ
    pub item : A
    pub there : get_elem? xs index ≡ some item
    pub counts : f item ≡ 1
    pub only : (j : ℕ) (y : A) → get_elem? xs j ≡ some y → 0 < f y → j ≡ index

  -- where the sum is 1 there is one such place
  pub the_one : (f : A → ℕ) (xs : List A) → sum_by f xs ≡ 1 → TheOne f xs
  the_one f [] e = absurd (omega arith)
  the_one f (x ∷ xs) e = elim (cases_eq (f x) 0) [
    | inl none ↦
        let rest : sum_by f xs ≡ 1 = omega (arith, sum_by-cons f x xs, none) in
        let later = the_one f xs rest in
        record {
          index = suc later.index;
          item = later.item;
          there = later.there;
          counts = later.counts;
          only = only_later f x xs later.index none later.only;
        }
    | inr some_one ↦
        let rest : sum_by f xs ≡ 0 = omega (arith, sum_by-cons f x xs) in
        let here : f x ≡ 1 = omega (arith, sum_by-cons f x xs) in
        record { index = zero; item = x; there = refl; counts = here; only = only_first f x xs rest }
  ]
    where
      -- no other place, where it is not the first
      only_later : (f : A → ℕ) (x : A) (xs : List A) (i : ℕ) → f x ≡ 0 → ((j : ℕ) (y : A) → get_elem? xs j ≡ some y
          → 0 < f y → j ≡ i) → (j : ℕ) (y : A) → get_elem? (x ∷ xs) j ≡ some y → 0 < f y → j ≡ suc i
      only_later f x xs i none only zero y at counts = absurd (omega (arith, ap f (some-injective x y at), none))
      only_later f x xs i none only (suc j) y at counts = ap suc (only j y at counts)

      -- no other place, where it is the first
      only_first : (f : A → ℕ) (x : A) (xs : List A) → sum_by f xs ≡ 0 → (j : ℕ) (y : A) → get_elem? (x ∷ xs) j ≡ some y
          → 0 < f y → j ≡ zero
      only_first f x xs none zero y at counts = refl
      only_first f x xs none (suc j) y at counts = absurd (omega (arith, term_le f xs j y at, none))
