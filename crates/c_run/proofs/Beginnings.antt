-- The words of private memory at the start.
use Rattle.std.proofs.Common.{◌≡◌, ℕ, ◌+◌, ◌-◌, ◌<◌, ◌≤◌, Bool, true, false, List, ◌++◌, length, take, drop, replicate, min, get_or, slice_index, refl, sym, ap, ◌∙◌, inl, inr, arith}
use Rattle.std.specs.Prelude.{if◌then◌else◌, nat_lt, nat_le, ◌&&◌}
use Rattle.std.proofs.Math.ListN.{length-replicate}
use Rattle.std.proofs.lemmas.Bool.{cases_lt}
use Rattle.std.proofs.lemmas.Bool.Decides.{nat_tests}
use Rattle.std.proofs.lemmas.List.{get_or_append_left, get_or-append_right, get_or-replicate, get_or_past, get_or-take, get_or-drop, take_all, length-take-le}
use Rattle.c_tree.specs.Layout.{initial_of, input_of}
use Rattle.c_tree.specs.Plain.{PlainItem}
use Rattle.c_meaning.specs.Begun.{begun_private}

-- zeros after words change nothing
padded : (words : List ℕ) (zeros k : ℕ) → get_or (words ++ replicate zeros 0) k 0 ≡ get_or words k 0
padded words zeros k = elim (cases_lt k (length words)) [
  | inl below ↦ get_or_append_left words (replicate zeros 0) 0 k below
  | inr past ↦ get_or-append_right words (replicate zeros 0) (length words) k 0 refl past ∙ nothing (k - length words)
      ∙ sym (get_or_past words k 0 past)
]
  where
    nothing : (i : ℕ) → ◌≡◌ {A = ℕ} (get_or (replicate zeros 0) i 0) 0
    nothing i = elim (cases_lt i zeros) [
      | inl below ↦ get_or-replicate zeros i 0 0 below
      | inr past ↦ get_or_past (replicate zeros 0) i 0 (omega (arith, past, length-replicate {A = ℕ} zeros 0))
    ]

-- words after four zeros
after_four : (words : List ℕ) (k : ℕ) → get_or (replicate 4 0 ++ words) k 0
    ≡ (if nat_le 4 k then get_or words (k - 4) 0 else 0)
after_four words k = elim (cases_lt k 4) [
  | inl below ↦ let no : nat_le 4 k ≡ false = grind (arith, nat_tests, below) in
      get_or_append_left (replicate 4 0) words 0 k below ∙ get_or-replicate 4 k 0 0 below
      ∙ sym (ap (λ b. if b then get_or words (k - 4) 0 else 0) no)
  | inr past ↦ let yes : nat_le 4 k ≡ true = grind (arith, nat_tests, past) in
      get_or-append_right (replicate 4 0) words 4 k 0 refl past
      ∙ sym (ap (λ b. if b then get_or words (k - 4) 0 else 0) yes)
]

-- words with others laid over them
laid : (words over : List ℕ) (at k : ℕ) → at + length over ≤ length words
    → get_or (take at words ++ (over ++ drop (at + length over) words)) k 0
    ≡ (if nat_le at k && nat_lt (k - at) (length over) then get_or over (k - at) 0 else get_or words k 0)
laid words over at k within = elim (cases_lt k at) [
  | inl below ↦ let no : nat_le at k ≡ false = grind (arith, nat_tests, below) in
      get_or_append_left (take at words) (over ++ behind) 0 k (omega (arith, below, front))
      ∙ get_or-take at words k 0 below
      ∙ sym (ap (λ b. if b && nat_lt (k - at) (length over) then get_or over (k - at) 0 else get_or words k 0) no)
  | inr past ↦ let yes : nat_le at k ≡ true = grind (arith, nat_tests, past) in
      get_or-append_right (take at words) (over ++ behind) at k 0 front past ∙ reached past
      ∙ sym (ap (λ b. if b && nat_lt (k - at) (length over) then get_or over (k - at) 0 else get_or words k 0) yes)
]
  where
    behind : List ℕ
    behind = drop (at + length over) words

    front : length (take at words) ≡ at
    front = length-take-le at words (omega (arith, within))

    reached : at ≤ k → get_or (over ++ behind) (k - at) 0 ≡ (if nat_lt (k - at) (length over) then get_or over
        (k - at) 0 else get_or words k 0)
    reached past = elim (cases_lt (k - at) (length over)) [
      | inl below ↦ let yes : nat_lt (k - at) (length over) ≡ true = grind (arith, nat_tests, below) in
          get_or_append_left over behind 0 (k - at) below
          ∙ sym (ap (λ b. if b then get_or over (k - at) 0 else get_or words k 0) yes)
      | inr beyond ↦ let no : nat_lt (k - at) (length over) ≡ false = grind (arith, nat_tests, beyond) in
          let same : at + length over + (k - at - length over) ≡ k = omega (arith, past, beyond) in
          get_or-append_right over behind (length over) (k - at) 0 refl beyond
          ∙ get_or-drop (at + length over) words (k - at - length over) 0
          ∙ ap (λ i. get_or words i 0) same ∙ sym (ap (λ b. if b then get_or over (k - at) 0 else get_or words k 0) no)
    ]

-- ---- private memory at the start

-- a choice under a test of two parts
chosen : (a b c d : Bool) (x y x' y' : ℕ) → b ≡ (c && d) → (b ≡ true → x ≡ x') → y ≡ y' → (if a && b then x else y)
    ≡ (if a && (c && d) then x' else y')
chosen false b c d x y x' y' tests inside outside = outside
chosen true true c d x y x' y' tests inside outside = inside refl ∙ ap (λ e. if e then x' else y') tests
chosen true false c d x y x' y' tests inside outside = outside ∙ ap (λ e. if e then x' else y') tests

below_both : (i a b : ℕ) → nat_lt i (min a b) ≡ (nat_lt i a && nat_lt i b)
below_both i a b = elim (cases_lt i a) [
  | inl first ↦ elim (cases_lt i b) [
    | inl second ↦ rw (
      is_below i (min a b) (omega (arith, first, second)),
      is_below i a first,
      is_below i b second,
    ) refl
    | inr second ↦ rw (is_past i (min a b) (omega (arith, second)), is_below i a first, is_past i b second) refl
  ]
  | inr first ↦ rw (is_past i (min a b) (omega (arith, first)), is_past i a first) refl
]
  where
    is_below : (i n : ℕ) → i < n → nat_lt i n ≡ true
    is_below i n below = grind (arith, nat_tests, below)

    is_past : (i n : ℕ) → n ≤ i → nat_lt i n ≡ false
    is_past i n past = grind (arith, nat_tests, past)

-- the first words, zeros after them, and the input over them
pub begun_words : (items : List PlainItem) (input first words : List ℕ) (zeros reach : ℕ) → first ≡ replicate 4 0
    ++ initial_of items → length first ≤ 65536
    → words ≡ take 65536 first ++ replicate zeros 0 → reach ≡ min (input_of items).room (length input)
    → (input_of items).at + reach ≤ length words
    → slice_index (take (input_of items).at words
    ++ (take reach input ++ drop ((input_of items).at + length (take reach input)) words))
    ≡ begun_private items input
begun_words items input first words zeros reach begins fits filled reaches within = λ i k. at_word k i
  where
    at : ℕ
    at = (input_of items).at

    over : List ℕ
    over = take reach input

    over_length : length over ≡ reach
    over_length = length-take-le reach input (omega (arith, reaches))

    outside : (k : ℕ) → get_or words k 0 ≡ (if nat_le 4 k then get_or (initial_of items) (k - 4) 0 else 0)
    outside k =
        ap (λ ws. get_or ws k 0) (filled ∙ ap (λ ws. ws ++ replicate zeros 0) (take_all 65536 first fits))
        ∙ padded first zeros k ∙ ap (λ ws. get_or ws k 0) begins ∙ after_four (initial_of items) k

    at_word : (k : ℕ) → slice_index (take at words ++ (over ++ drop (at + length over) words)) k
        ≡ begun_private items input k
    at_word k =
        laid words over at k (omega (arith, within, over_length))
        ∙ chosen (nat_le at k) (nat_lt (k - at) (length over)) (nat_lt (k - at) (input_of items).room) (nat_lt (k - at)
        (length input))
        (get_or over (k - at) 0) (get_or words k 0) (get_or input (k - at) 0)
        (if nat_le 4 k then get_or (initial_of items) (k - 4) 0 else 0)
        (ap (nat_lt (k - at)) (over_length ∙ reaches) ∙ below_both (k - at) (input_of items).room (length input))
        (λ so. let below : k - at < length over = grind (arith, nat_tests, so) in get_or-take reach input (k
        - at) 0 (omega (arith, below, over_length)))
        (outside k)
