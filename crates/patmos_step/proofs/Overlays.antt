-- Words that are laid over a memory.
use Rattle.std.proofs.Common.{◌≡◌, ℕ, ◌+◌, ◌-◌, ◌≤◌, ◌&&◌, nat_le, nat_lt, true, false, List, ◌++◌, length, take, drop, arith, refl, sym, ap, ◌∙◌, inl, inr, length-take}
use Rattle.std.specs.Prelude.{slice_index}
use Rattle.std.proofs.lemmas.Bool.{cases_lt}
use Rattle.std.proofs.lemmas.Bool.Decides.{nat_tests}
use Rattle.std.proofs.lemmas.List.{get_or-take, get_or-drop, get_or_append_left, get_or-append_right, get_or-replicate, get_or_past}
use Rattle.std.proofs.Math.ListN.{length-replicate}
use Rattle.local_store.specs.Memory as store
use Rattle.shared_order.specs.Words as words
use Rattle.patmos_model.specs.Begin.{overlaid}

-- the list with these words from a place on
abbrev over : ℕ → List ℕ → List ℕ → List ℕ
over from words old = take from old ++ (words ++ drop (length words) (drop from old))

module _ (old words : List ℕ) (from : ℕ) (fits : from + length words ≤ length old) where
  front_len : length (take from old) ≡ from
  front_len = omega (arith, fits, length-take from old)

  over_at : (word : ℕ) → slice_index (over from words old) word ≡ overlaid from words (slice_index old) word
  over_at word = elim (cases_lt word from) [
    | inl before ↦
        get_or_append_left (take from old) (words ++ drop (length words) (drop from old)) 0 word
        (omega (arith, before, front_len))
        ∙ get_or-take from old word 0 before
        ∙ sym (outside (let h : (nat_le from word && nat_lt word (from + length words)) ≡ false = grind (
          arith,
          nat_tests,
          before,
        ) in h))
    | inr after ↦
        get_or-append_right (take from old) (words ++ drop (length words) (drop from old)) from word 0 front_len after
        ∙ behind after
  ]
    where
      outside : (nat_le from word && nat_lt word (from + length words)) ≡ false
          → overlaid from words (slice_index old) word ≡ slice_index old word
      outside is =
          ap (λ b. elim b as (λ _. ℕ) [ true ↦ slice_index words (word - from) | false ↦ slice_index old word ]) is

      inside : (nat_le from word && nat_lt word (from + length words)) ≡ true
          → overlaid from words (slice_index old) word ≡ slice_index words (word - from)
      inside is = ap (λ b. elim b as (λ _. ℕ) [ true ↦ slice_index words (word - from) | false ↦ slice_index old word ])
          is

      behind : from ≤ word → slice_index (words ++ drop (length words) (drop from old)) (word - from)
          ≡ overlaid from words (slice_index old) word
      behind after = elim (cases_lt (word - from) (length words)) [
        | inl among ↦
            get_or_append_left words (drop (length words) (drop from old)) 0 (word - from) among
            ∙ sym (inside (let h : (nat_le from word && nat_lt word (from + length words)) ≡ true = grind (
              arith,
              nat_tests,
              after,
              among,
            ) in h))
        | inr past ↦
            get_or-append_right words (drop (length words) (drop from old)) (length words) (word - from) 0 refl past
            ∙ get_or-drop (length words) (drop from old) (word - from - length words) 0
            ∙ get_or-drop from old (length words + (word - from - length words)) 0
            ∙ ap (slice_index old) (let e : from + (length words + (word - from - length words)) ≡ word = omega (
              arith,
              after,
              past,
            ) in e)
            ∙ sym (outside (let h : (nat_le from word && nat_lt word (from + length words)) ≡ false = grind (
              arith,
              nat_tests,
              after,
              past,
            ) in h))
      ]

  over_is : slice_index (over from words old) ≡ overlaid from words (slice_index old)
  over_is = λ i word. over_at word i

-- words that are all 0
pub all_zero : (count : ℕ) → slice_index (store.zeros count) ≡ words.zeros
unfolding store.zeros
all_zero count = λ i word. at word i
  where
    at : (word : ℕ) → slice_index (store.zeros count) word ≡ 0
    at word = elim (cases_lt word count) [
      | inl below ↦ get_or-replicate count word 0 0 below
      | inr past ↦ get_or_past (store.zeros count) word 0 (omega (arith, past, length-replicate {A = ℕ} count 0))
    ]

-- a memory that was cut in three, and whose middle was changed to these words
pub over_parts : (old words prefix middle back rest : List ℕ) (from : ℕ) → from + length words ≤ length old
    → prefix ≡ take from old → rest ≡ drop from old → middle ≡ words → back ≡ drop (length words) rest
    → slice_index (prefix ++ (middle ++ back)) ≡ overlaid from words (slice_index old)
over_parts old words prefix middle back rest from fits prefix_is rest_is middle_is back_is =
    let behind : back ≡ drop (length words) (drop from old) = back_is ∙ ap (drop (length words)) rest_is in
    let cut : slice_index (prefix ++ (middle ++ back)) ≡ slice_index (over from words old) =
    λ i. slice_index (prefix_is i ++ (middle_is i ++ behind i)) in
    cut ∙ over_is old words from fits
