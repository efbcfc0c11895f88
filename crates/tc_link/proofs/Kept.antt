-- The image of a shape keeps what every image keeps.
use Rattle.std.proofs.Common.{◌≡◌, ℕ, zero, suc, ◌+◌, ◌≤◌, ◌==◌, true, false, if◌then◌else◌, List, [], ◌∷◌, ◌++◌, length, map, refl, sym, ap, ◌∙◌, subst, arith, length-append, inl, inr}
use Rattle.std.specs.List.{All, flat_map}
use Rattle.std.proofs.lemmas.Bool.{cases_lt, cases_eq, eq-eqb, ne_eqb}
use Rattle.std.proofs.lemmas.List.{map-append, get_or_past}
use Rattle.std.proofs.lemmas.List.Elements.{All-cons}
use Rattle.patmos_code.specs.Images as images
use Rattle.patmos_code.specs.declared.images.TheConstants.{MOST_IN_FUNCTION}
use Rattle.sp_shape.specs.Formed.{is_formed}
use Rattle.sp_shape.specs.Parts.{PlainParts, no_part, PlainShape}
use Rattle.sp_shape.specs.Words.{parts_words}
use Rattle.tc_link.specs.Fits.{FitsImage}
use Rattle.tc_link.specs.Flat.{flat_parts}
use Rattle.tc_link.specs.Placed.{codes, others, others_below, place, function, size_of, start_of, order, function_words, linked}
use Rattle.tc_link.proofs.Counted.{codes_words, flat_words}
use Rattle.tc_link.proofs.Linking.{entry_there}
use Rattle.tc_link.proofs.Order.{all_counted, entry_placed, other_placed}

-- ---- the walk over an image's words skips those of a function

skip_starts : (body rest : List ℕ) (at n : ℕ) → length body ≡ n → images.starts_from at n (body ++ rest)
    ≡ images.starts_from (at + n) 0 rest
skip_starts [] rest at n is =
    ap (λ k. images.starts_from at k rest) (sym is) ∙ ap (λ a. images.starts_from a 0 rest) (omega (arith, is))
skip_starts (w ∷ body) rest at zero is = absurd (omega (arith, is))
skip_starts (w ∷ body) rest at (suc n) is =
    skip_starts body rest (at + 1) n (omega (arith, is)) ∙ ap (λ a. images.starts_from a 0 rest) (omega arith)

skip_sizes : (body rest : List ℕ) (n : ℕ) → length body ≡ n → images.sizes_from n (body ++ rest)
    ≡ images.sizes_from 0 rest
skip_sizes [] rest n is = ap (λ k. images.sizes_from k rest) (sym is)
skip_sizes (w ∷ body) rest zero is = absurd (omega (arith, is))
skip_sizes (w ∷ body) rest (suc n) is = skip_sizes body rest n (omega (arith, is))

skip_lacking : (body rest : List ℕ) (n : ℕ) → length body ≡ n → images.lacking_from n (body ++ rest)
    ≡ images.lacking_from 0 rest
skip_lacking [] rest n is = ap (λ k. images.lacking_from k rest) (sym is)
skip_lacking (w ∷ body) rest zero is = absurd (omega (arith, is))
skip_lacking (w ∷ body) rest (suc n) is = skip_lacking body rest n (omega (arith, is))

-- ---- functions one after another

-- the words from which they start, where the first one's size stands at a word
abbrev places_from : (ℕ → ℕ) → ℕ → List ℕ → List ℕ
places_from size at [] = []
places_from size at (k ∷ ks) = (at + 1) ∷ places_from size (at + 1 + size k) ks

abbrev words_from : (ℕ → ℕ) → List ℕ → ℕ
words_from size [] = 0
words_from size (k ∷ ks) = 1 + size k + words_from size ks

abbrev pieces : (ℕ → ℕ) → (ℕ → PlainParts) → List ℕ → List ℕ
pieces start f ks = flat_map (λ k. function_words start (f k)) ks

body_words : (start : ℕ → ℕ) (ps : PlainParts) → length (codes (flat_parts start ps)) ≡ parts_words ps
body_words start ps = codes_words (flat_parts start ps) ∙ flat_words start ps

pieces_start : (start : ℕ → ℕ) (f : ℕ → PlainParts) (at : ℕ) (ks : List ℕ) → images.starts_from at 0 (pieces start f ks)
    ≡ places_from (λ k. parts_words (f k)) at ks
pieces_start start f at [] = refl
pieces_start start f at (k ∷ ks) =
    ap (λ xs. (at + 1) ∷ xs) (skip_starts (codes (flat_parts start (f k))) (pieces start f ks) (at + 1)
    (parts_words (f k)) (body_words start (f k))
    ∙ pieces_start start f (at + 1 + parts_words (f k)) ks)

pieces_sizes : (start : ℕ → ℕ) (f : ℕ → PlainParts) (ks : List ℕ) → images.sizes_from 0 (pieces start f ks)
    ≡ map (λ k. parts_words (f k)) ks
pieces_sizes start f [] = refl
pieces_sizes start f (k ∷ ks) =
    ap (λ xs. parts_words (f k) ∷ xs) (skip_sizes (codes (flat_parts start (f k))) (pieces start f ks) (parts_words
    (f k)) (body_words start (f k)) ∙ pieces_sizes start f ks)

pieces_whole : (start : ℕ → ℕ) (f : ℕ → PlainParts) (ks : List ℕ) → images.lacking_from 0 (pieces start f ks) ≡ 0
pieces_whole start f [] = refl
pieces_whole start f (k ∷ ks) = skip_lacking (codes (flat_parts start (f k))) (pieces start f ks) (parts_words (f k))
    (body_words start (f k)) ∙ pieces_whole start f ks

pub pieces_words : (start : ℕ → ℕ) (f : ℕ → PlainParts) (ks : List ℕ) → length (pieces start f ks)
    ≡ words_from (λ k. parts_words (f k)) ks
pieces_words start f [] = refl
pieces_words start f (k ∷ ks) =
    omega (
      arith,
      length-append (codes (flat_parts start (f k))) (pieces start f ks),
      body_words start (f k),
      pieces_words start f ks,
    )

-- ---- the others

places-append : (size : ℕ → ℕ) (at : ℕ) (xs ys : List ℕ) → places_from size at (xs ++ ys) ≡ places_from size at xs
    ++ places_from size (at + words_from size xs) ys
places-append size at [] ys = ap (λ a. places_from size a ys) (omega arith)
places-append size at (k ∷ xs) ys =
    ap (λ zs. (at + 1) ∷ zs) (places-append size (at + 1 + size k) xs ys
    ∙ ap (λ a. places_from size (at + 1 + size k) xs ++ places_from size a ys) (omega arith))

words-append : (size : ℕ → ℕ) (xs ys : List ℕ) → words_from size (xs ++ ys) ≡ words_from size xs + words_from size ys
words-append size [] ys = omega arith
words-append size (k ∷ xs) ys = omega (arith, words-append size xs ys)

pub others_words : (size : ℕ → ℕ) (entry n : ℕ) → words_from size (others entry n) ≡ others_below size entry n
others_words size entry zero = refl
others_words size entry (suc n) =
    words-append size (others entry n) (if n == entry then [] else n ∷ [])
    ∙ ap (λ w. w + words_from size (if n == entry then [] else n ∷ [])) (others_words size entry n)
    ∙ ap (λ w. others_below size entry n + w) (elim (n == entry) as (λ b. words_from size (if b then [] else n ∷ [])
    ≡ (if b then 0 else 1 + size n)) [ true ↦ refl | false ↦ omega arith ])

others_placed : (size : ℕ → ℕ) (entry n : ℕ) → places_from size (1 + size entry) (others entry n)
    ≡ map (place size entry) (others entry n)
others_placed size entry zero = refl
others_placed size entry (suc n) =
    places-append size (1 + size entry) (others entry n) (if n == entry then [] else n ∷ [])
    ∙ ap (λ xs. xs ++ places_from size (1 + size entry + words_from size (others entry n)) (if n == entry then [] else n
    ∷ [])) (others_placed size entry n)
    ∙ ap (λ xs. map (place size entry) (others entry n) ++ xs) last
    ∙ sym (map-append (place size entry) (others entry n) (if n == entry then [] else n ∷ []))
  where
    last : places_from size (1 + size entry + words_from size (others entry n)) (if n == entry then [] else n ∷ [])
        ≡ map (place size entry) (if n == entry then [] else n ∷ [])
    last = elim (cases_eq n entry) [
      | inl is ↦
          ap (λ b. places_from size (1 + size entry + words_from size (others entry n)) (if b then [] else n ∷ []))
          (eq-eqb n entry is)
          ∙ sym (ap (λ b. map (place size entry) (if b then [] else n ∷ [])) (eq-eqb n entry is))
      | inr ne ↦
          let here : 1 + size entry + words_from size (others entry n) + 1 ≡ place size entry n =
          omega (arith, others_words size entry n, other_placed size entry n ne) in
          ap (λ b. places_from size (1 + size entry + words_from size (others entry n)) (if b then [] else n ∷ []))
          (ne_eqb n entry ne) ∙ ap (λ x. x ∷ []) here
          ∙ sym (ap (λ b. map (place size entry) (if b then [] else n ∷ [])) (ne_eqb n entry ne))
    ]

-- ---- shapes

small_sizes : (s : PlainShape) → FitsImage s → (k : ℕ) → size_of s k ≤ MOST_IN_FUNCTION
small_sizes s fits k = elim (cases_lt k (length s.functions)) [
  | inl within ↦ fits.small k within
  | inr past ↦ omega (arith, ap parts_words (get_or_past s.functions k no_part past))
]

all_small : (most : ℕ) (size : ℕ → ℕ) → ((k : ℕ) → size k ≤ most) → (ks : List ℕ) → All (λ n. n ≤ most) (map size ks)
all_small most size small [] = λ k d h. absurd (omega (arith, h))
all_small most size small (k ∷ ks) =
    All-cons (λ n. n ≤ most) (size k) (map size ks) (small k) (all_small most size small ks)

pub linked_is_image : (s : PlainShape) → is_formed s ≡ true → FitsImage s → images.IsImage (linked s)
linked_is_image s formed fits =
    let size = size_of s in
    let count = length s.functions in
    record {
      starts = ap (λ x. x ∷ map (start_of s) (others s.entry count)) (entry_placed size s.entry s.entry refl)
          ∙ ap (λ xs. 1 ∷ xs) (sym (others_placed size s.entry count))
          ∙ sym (pieces_start (start_of s) (function s) 0 (order s));
      some = omega arith;
      whole = pieces_whole (start_of s) (function s) (order s);
      small = subst (All (λ n. n ≤ MOST_IN_FUNCTION)) (sym (pieces_sizes (start_of s) (function s) (order s)))
          (all_small MOST_IN_FUNCTION size (small_sizes s fits) (order s));
      within = omega (
        arith,
        pieces_words (start_of s) (function s) (order s),
        others_words size s.entry count,
        all_counted size s.entry count (entry_there s formed),
        fits.within,
      );
      initial = fits.initial;
      input_from = fits.input_from;
      input_room = fits.input_room;
    }

pub image_so : (s : PlainShape) (words starts initial : List ℕ) → words ≡ (linked s).words → starts ≡ (linked s).starts
    → initial ≡ s.initial → is_formed s ≡ true → FitsImage s
    → images.IsImage (images.parts words starts initial s.input_at s.input_room)
image_so s words starts initial same_words same_starts same_initial formed fits =
    subst images.IsImage (sym (λ i. images.parts (same_words i) (same_starts i) (same_initial i) s.input_at
    s.input_room)) (linked_is_image s formed fits)
