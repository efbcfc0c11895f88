-- What accesses more leave in the data cache.
use Rattle.std.proofs.Common.{◌≡◌, ℕ, ◌/◌, ◌%◌, ◌==◌, Bool, true, false, if◌then◌else◌, List, [], ◌∷◌, ◌++◌, Option, None, Some, is_some, inl, inr, ◌⊎◌, refl, sym, ap, ◌∙◌, true≢false}
use Rattle.std.specs.Prelude.{slice_index, reverse}
use Rattle.std.proofs.lemmas.Bool.{eqb-true, eq-eqb}
use Rattle.std.proofs.lemmas.List.{reverse-append}
use Rattle.data_cache.specs.Accesses.{Access, Load, Store, line_of, index_of, place_of, is_present, last_word, word_back, cached_word}

one_more : (accesses : List Access) (a : Access) (address : ℕ) → cached_word (accesses ++ a ∷ []) address
    ≡ word_back (a ∷ reverse accesses) address
one_more accesses a address = ap (λ l. word_back l address) (reverse-append accesses (a ∷ []))

-- a line is present as a whole
line_present : (a b : ℕ) (latest : List Access) → line_of a ≡ line_of b → is_present a latest ≡ is_present b latest
line_present a b [] same = refl
line_present a b (Load other missed ∷ before) same =
    (λ i. if index_of other == same i % 64 then line_of other == same i else line_present a b before same i)
line_present a b (Store other value ∷ before) same = line_present a b before same

found_of : (present : Bool) (w v : ℕ) → (if present then Some w else None) ≡ Some v → (present ≡ true) × (w ≡ v)
found_of true w v e = (refl, ap (λ (o : Option ℕ). elim o as (λ _. ℕ) [ None ↦ w | Some k ↦ k ]) e)
found_of false w v e = absurd (true≢false (sym (ap is_some e)))

back_of : (present : Bool) (w v : ℕ) → present ≡ true → w ≡ v → (if present then Some w else None) ≡ Some v
back_of present w v on same = ap (λ b. if b then Some w else None) on ∙ ap Some same

-- after a load that hit nothing else is there
pub after_hit : (accesses : List Access) (address word other value : ℕ) → cached_word accesses address ≡ Some word
    → cached_word (accesses ++ Load address None ∷ []) other ≡ Some value
    → cached_word accesses other ≡ Some value
after_hit accesses address word other value hit found =
    by (index_of address == index_of other) refl (found_of (is_present other (Load address None ∷ back))
    (last_word other back) value (sym (one_more accesses (Load address None) other) ∙ found))
  where
    back : List Access
    back = reverse accesses

    there : is_present address back ≡ true
    there = (found_of (is_present address back) (last_word address back) word hit).0

    by : (b : Bool) → (index_of address == index_of other) ≡ b → (is_present other (Load address None ∷ back) ≡ true)
        × (last_word other back ≡ value) → cached_word accesses other ≡ Some value
    by true is h =
        let line : line_of address ≡ line_of other = eqb-true (line_of address) (line_of other)
        (sym (ap (λ b. if b then line_of address == line_of other else is_present other back) is) ∙ h.0) in
        back_of (is_present other back) (last_word other back) value (sym (line_present address other back line)
        ∙ there) h.1
    by false is h = back_of (is_present other back) (last_word other back) value
        (sym (ap (λ b. if b then line_of address == line_of other else is_present other back) is) ∙ h.0) h.1

-- after one that missed, its line is as it was read
pub after_miss : (accesses : List Access) (address : ℕ) (words : List ℕ) (other value : ℕ)
    → cached_word (accesses ++ Load address (Some words) ∷ []) other ≡ Some value
    → ((line_of address ≡ line_of other) × (slice_index words (place_of other) ≡ value))
    ⊎ (cached_word accesses other ≡ Some value)
after_miss accesses address words other value found =
    by (line_of address == line_of other) refl
    (found_of (is_present other (Load address (Some words) ∷ back)) (last_word other (Load address (Some words) ∷ back))
    value (sym (one_more accesses (Load address (Some words)) other) ∙ found))
  where
    back : List Access
    back = reverse accesses

    by : (b : Bool) → (line_of address == line_of other) ≡ b → (is_present other (Load address (Some words) ∷ back)
        ≡ true) × (last_word other (Load address (Some words) ∷ back) ≡ value)
        → ((line_of address ≡ line_of other) × (slice_index words (place_of other) ≡ value))
        ⊎ (cached_word accesses other ≡ Some value)
    by true is h = inl (
      eqb-true (line_of address) (line_of other) is,
      sym (ap (λ b. if b then slice_index words (place_of other) else last_word other back) is) ∙ h.1,
    )
    by false is h = inr (back_of (is_present other back) (last_word other back) value
        (present (index_of address == index_of other) refl)
        (sym (ap (λ b. if b then slice_index words (place_of other) else last_word other back) is) ∙ h.1))
      where
        present : (c : Bool) → (index_of address == index_of other) ≡ c → is_present other back ≡ true
        present true same =
            absurd (true≢false
            (sym (sym (ap (λ b. if b then line_of address == line_of other else is_present other back) same) ∙ h.0)
            ∙ is))
        present false apart =
            sym (ap (λ b. if b then line_of address == line_of other else is_present other back) apart) ∙ h.0

-- after a store its word is the one that was stored
pub after_store : (accesses : List Access) (address stored other value : ℕ)
    → cached_word (accesses ++ Store address stored ∷ []) other ≡ Some value
    → ((address / 4 ≡ other / 4) × (stored ≡ value)) ⊎ (((address / 4 ≡ other / 4) → ⊥)
    × (cached_word accesses other ≡ Some value))
after_store accesses address stored other value found =
    by (address / 4 == other / 4) refl
    (found_of (is_present other back) (last_word other (Store address stored ∷ back)) value
    (sym (one_more accesses (Store address stored) other) ∙ found))
  where
    back : List Access
    back = reverse accesses

    by : (b : Bool) → (address / 4 == other / 4) ≡ b → (is_present other back ≡ true)
        × (last_word other (Store address stored ∷ back) ≡ value)
        → ((address / 4 ≡ other / 4) × (stored ≡ value)) ⊎ (((address / 4 ≡ other / 4) → ⊥)
        × (cached_word accesses other ≡ Some value))
    by true is h = inl (
      eqb-true (address / 4) (other / 4) is,
      sym (ap (λ b. if b then stored else last_word other back) is) ∙ h.1,
    )
    by false is h = inr (
      (λ e. true≢false (sym (eq-eqb (address / 4) (other / 4) e) ∙ is)),
      back_of (is_present other back) (last_word other back) value h.0
          (sym (ap (λ b. if b then stored else last_word other back) is) ∙ h.1),
    )
