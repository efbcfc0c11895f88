-- Comments end on their line: no number is written with a newline.
use Rattle.std.proofs.Common.{arith, ◌≡◌, ℕ, zero, suc, ◌+◌, ◌/◌, ◌%◌, ◌^◌, ◌==◌, not, Bool, true, false, if◌then◌else◌, List, [], ◌∷◌, ◌++◌, refl, codes, slice_index, Option, Some, None}
use Rattle.std.specs.Fmt.{decimal, digits, digits_onto, digit_glyph}
use Rattle.std.proofs.lemmas.Bool.Decides.{nat_tests}
use Rattle.std.proofs.lemmas.List.Folds.{list_all-append}
use Rattle.tc_io.specs.Hex.{hex8, hex_at, hex_digit_of}
use Rattle.patmos_forms.specs.Readers.{is_name}
use Rattle.patmos_asm.specs.Printed.{label_name}
use Rattle.patmos_asm.proofs.Lines.{lacks, harmless_lacks}
use Rattle.patmos_asm.proofs.Harmless.{name_harmless}
use Rattle.code_text.specs.Listing.{second_note, note_of, tally_text}
use Rattle.code_text.specs.declared.tallies.Tally.{Tally}

pub lacks_both : (a b : List ℕ) → lacks 10 a ≡ true → lacks 10 b ≡ true → lacks 10 (a ++ b) ≡ true
lacks_both a b e f = rw (list_all-append (λ c. not (c == 10)) a b, e, f) refl

glyph_inline : (d : ℕ) → not (digit_glyph false d == 10) ≡ true
glyph_inline d = grind (arith, nat_tests)

onto_inline : (k n : ℕ) (acc : List ℕ) → lacks 10 acc ≡ true → lacks 10 (digits_onto k 10 false n acc) ≡ true
onto_inline zero n acc e = e
onto_inline (suc k) n acc e = let one : lacks 10 (digit_glyph false (n % 10) ∷ acc) ≡ true =
    rw (glyph_inline (n % 10), e) refl in by_test (n / 10 == 0) one
    (onto_inline k (n / 10) (digit_glyph false (n % 10) ∷ acc) one)
  where
    by_test : (t : Bool) → lacks 10 (digit_glyph false (n % 10) ∷ acc) ≡ true
        → lacks 10 (digits_onto k 10 false (n / 10) (digit_glyph false (n % 10) ∷ acc)) ≡ true
        → lacks 10 (if t then digit_glyph false (n % 10) ∷ acc else digits_onto k 10 false (n / 10)
        (digit_glyph false (n % 10) ∷ acc)) ≡ true
    by_test true h more = h
    by_test false h more = more

pub decimal_inline : (n : ℕ) → lacks 10 (decimal n) ≡ true
unfolding digits
decimal_inline n = onto_inline 64 n [] refl

hex_inline : (d : ℕ) → not (hex_digit_of d == 10) ≡ true
hex_inline d = grind (arith, nat_tests)

hex8_inline : (v : ℕ) → lacks 10 (hex8 v) ≡ true
hex8_inline v =
    let at : (k : ℕ) → not (hex_at k v == 10) ≡ true = λ k. hex_inline (v / 16 ^ k % 16) in
    rw (at 7, at 6, at 5, at 4, at 3, at 2, at 1, at 0) refl

second_inline : (words : List ℕ) (at size : ℕ) → lacks 10 (second_note words at size) ≡ true
second_inline words at size = by_test (size == 2)
  where
    by_test : (t : Bool) → lacks 10 (if t then codes " " ++ hex8 (slice_index words (at + 1)) else []) ≡ true
    by_test true = hex8_inline (slice_index words (at + 1))
    by_test false = refl

pub note_inline : (words : List ℕ) (at size : ℕ) → lacks 10 (note_of words at size) ≡ true
note_inline words at size =
    lacks_both (decimal at ++ codes " " ++ hex8 (slice_index words at)) (second_note words at size)
    (lacks_both (decimal at ++ codes " ") (hex8 (slice_index words at)) (lacks_both (decimal at) (codes " ")
    (decimal_inline at) refl) (hex8_inline (slice_index words at))) (second_inline words at size)

pub name_inline : (name : List ℕ) → is_name name ≡ true → lacks 10 name ≡ true
name_inline name e = harmless_lacks 10 name refl (name_harmless name e)

pub label_inline : (loop : ℕ) → lacks 10 (label_name loop) ≡ true
label_inline loop = decimal_inline loop

pub tally_inline : (tally : Option Tally) → lacks 10 (tally_text tally) ≡ true
tally_inline None = refl
tally_inline (Some t) =
    lacks_both (codes " bundles " ++ decimal t.bundles ++ codes " transactions ") (decimal t.transactions)
    (lacks_both (codes " bundles " ++ decimal t.bundles) (codes " transactions ") (decimal_inline t.bundles) refl)
    (decimal_inline t.transactions)
