-- The words that the cache holds, slot by slot, alone and after zeros.
use Rattle.std.proofs.Common.{◌≡◌, ℕ, ◌+◌, ◌-◌, ◌<◌, ◌≤◌, List, [], ◌∷◌, ◌++◌, length, get_or, replicate, refl, arith, ◌∙◌, ap₂, length-append}
use Rattle.std.proofs.lemmas.List.{length-replicate, get_or-replicate, get_or_append_left, get_or-append_right}
use Rattle.std.proofs.lemmas.List.FromFn.{length-map-range_with_len, get_or-map-range_with_len, map-range_with_len_more}
use Rattle.stack_cache.specs.Slots.{held, slot}

pub length_held : (slots : List ℕ) (from count : ℕ) → length (held slots from count) ≡ count
unfolding held
length_held slots from count = length-map-range_with_len (slot slots) from count

pub get_held : (slots : List ℕ) (from count i d : ℕ) → i < count → get_or (held slots from count) i d
    ≡ slot slots (from + i)
unfolding held
get_held slots from count i d in_range = get_or-map-range_with_len (slot slots) from count i (from + i) d in_range refl

pub held_more : (slots : List ℕ) (from count word : ℕ) → from + count ≡ word → held slots from (count + 1)
    ≡ held slots from count ++ slot slots word ∷ []
unfolding held
held_more slots from count word last = map-range_with_len_more (slot slots) from count word last

module _ (n : ℕ) (slots : List ℕ) (from count : ℕ) where
  pub length_grown : length (replicate n 0 ++ held slots from count) ≡ n + count
  length_grown =
      length-append (replicate n 0) (held slots from count)
      ∙ ap₂ ◌+◌ (length-replicate n 0) (length_held slots from count)

  pub get_zero : (i d : ℕ) → i < n → get_or (replicate n 0 ++ held slots from count) i d ≡ 0
  get_zero i d low =
      let in_zeros : i < length (replicate n 0) = omega (arith, length-replicate {A = ℕ} n 0) in
      get_or_append_left (replicate n 0) (held slots from count) d i in_zeros ∙ get_or-replicate n i 0 d low

  pub get_old : (i d : ℕ) → n ≤ i → i < n + count → get_or (replicate n 0 ++ held slots from count) i d
      ≡ slot slots (from + (i - n))
  get_old i d low high =
      get_or-append_right (replicate n 0) (held slots from count) n i d (length-replicate n 0) low
      ∙ get_held slots from count (i - n) d (omega arith)
