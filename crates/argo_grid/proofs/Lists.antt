-- Where an element stands in a list.
use Rattle.std.proofs.Common.{◌≡◌, ℕ, zero, suc, ◌<◌, Bool, true, false, ◌⊎◌, inl, inr, List, [], ◌∷◌, ◌++◌, length, Some, slice_get, filter, Contains, refl, ap, ◌∙◌, arith}
use Rattle.std.specs.List.{list_any}
use Rattle.std.proofs.lemmas.Option.{slice_get_within, get_or_from_slice_get}

pub true_or_false : (b : Bool) → (b ≡ true) ⊎ (b ≡ false)
true_or_false true = inl refl
true_or_false false = inr refl

-- an element of the list
pub record Has {X : Type 0} (xs : List X) (x : X) : Type 0 where
  pub place : ℕ
  pub here : slice_get xs place ≡ Some x

pub contains : {X : Type 0} (xs : List X) (x : X) → Has xs x → Contains xs x
contains xs x has =
    (has.place, slice_get_within xs has.place x has.here, get_or_from_slice_get xs has.place x x has.here)

pub slice_get-append : {X : Type 0} (xs ys : List X) (i : ℕ) (x : X) → slice_get xs i ≡ Some x
    → slice_get (xs ++ ys) i ≡ Some x
slice_get-append [] ys i x here = cc
slice_get-append (y ∷ xs) ys zero x here = here
slice_get-append (y ∷ xs) ys (suc i) x here = slice_get-append xs ys i x here

pub slice_get_front : {X : Type 0} (xs ys : List X) (i : ℕ) (x : X) → i < length xs → slice_get (xs ++ ys) i ≡ Some x
    → slice_get xs i ≡ Some x
slice_get_front [] ys i x below here = absurd (omega arith)
slice_get_front (y ∷ xs) ys zero x below here = here
slice_get_front (y ∷ xs) ys (suc i) x below here = slice_get_front xs ys i x (omega arith) here

pub slice_get_seam : {X : Type 0} (xs ys : List X) (x : X) → slice_get (xs ++ x ∷ ys) (length xs) ≡ Some x
slice_get_seam [] ys x = refl
slice_get_seam (y ∷ xs) ys x = slice_get_seam xs ys x

pub has_append : {X : Type 0} (xs ys : List X) (x : X) → Has xs x → Has (xs ++ ys) x
has_append xs ys x has = record { place = has.place; here = slice_get-append xs ys has.place x has.here }

pub has_last : {X : Type 0} (xs : List X) (x : X) → Has (xs ++ x ∷ []) x
has_last xs x = record { place = length xs; here = slice_get_seam xs [] x }

pub has_later : {X : Type 0} (xs : List X) (y x : X) → Has xs x → Has (y ∷ xs) x
has_later xs y x has = record { place = suc has.place; here = has.here }

filter_at : {X : Type 0} (test : X → Bool) (xs : List X) (i : ℕ) (x : X) → slice_get xs i ≡ Some x → test x ≡ true
    → Has (filter test xs) x
filter_at test [] i x here passes = cc
filter_at test (y ∷ xs) zero x here passes =
    let same : y ≡ x = cc in
    let first : test y ≡ true = ap test same ∙ passes in
    rw first (record { place = 0; here = ap Some same })
filter_at test (y ∷ xs) (suc i) x here passes = elim (true_or_false (test y)) [
  | inl kept ↦ rw kept (has_later (filter test xs) y x (filter_at test xs i x here passes))
  | inr left ↦ rw left (filter_at test xs i x here passes)
]

pub has_filter : {X : Type 0} (test : X → Bool) (xs : List X) (x : X) → Has xs x → test x ≡ true
    → Has (filter test xs) x
has_filter test xs x has passes = filter_at test xs has.place x has.here passes

pub passes_any : {X : Type 0} (p : X → Bool) (xs : List X) (i : ℕ) (x : X) → slice_get xs i ≡ Some x → p x ≡ true
    → list_any p xs ≡ true
passes_any p [] i x here h = cc
passes_any p (y ∷ ys) zero x here h = let same : y ≡ x = cc in let first : p y ≡ true = ap p same ∙ h in rw first refl
passes_any p (y ∷ ys) (suc i) x here h = elim (true_or_false (p y)) [
  | inl first ↦ rw first refl
  | inr other ↦ rw other (passes_any p ys i x here h)
]
