-- Printed words are read back.
use Rattle.std.proofs.Common.{arith, ◌≡◌, ◌∙◌, ℕ, ◌+◌, ◌*◌, ◌/◌, ◌%◌, ◌^◌, ◌<◌, ◌≤◌, ◌==◌, ◌&&◌, not, Bool, true, false, List, [], ◌∷◌, ◌++◌, length, take, drop, refl, ap, length-append, Option, Some, None, option_map}
use Rattle.std.proofs.lemmas.List.Folds.{list_all-append}
use Rattle.std.specs.List.{list_all}
use Rattle.std.specs.Fmt.{decimal}
use Rattle.std.proofs.lemmas.Fmt.{decimal_by_steps}
use Rattle.std.proofs.lemmas.Bool.Decides.{nat_tests}
use Rattle.std.proofs.lemmas.Bool.{and_parts}
use Rattle.std.proofs.Math.Seq.{take-append_seam, drop-append_seam}
use Rattle.patmos_forms.specs.declared.readers.Radix.TheVariants.{Decimal}
use Rattle.patmos_forms.specs.Readers.{◌>>=◌, is_blank, is_digit, without_blanks, is_in_word, word_len, word_at, digit_of, value_after, written_number, numbered}
use Rattle.patmos_forms.specs.Operands.{number_at, numbered_at}

-- no byte of a word stands in front
abbrev pub ends_word : List ℕ → Bool
ends_word [] = true
ends_word (b ∷ bs) = not (is_in_word b)

word_byte : (b : ℕ) → is_in_word b ≡ true → is_blank b ≡ false
word_byte b e = grind (arith, nat_tests)

pub not_false : (a : Bool) → not a ≡ true → a ≡ false
not_false true e = cc
not_false false e = refl

pub word_len-read : (w rest : List ℕ) → list_all is_in_word w ≡ true → ends_word rest ≡ true
    → word_len (w ++ rest) ≡ length w
word_len-read [] [] e h = refl
word_len-read [] (b ∷ bs) e h = rw (not_false (is_in_word b) h) refl
word_len-read (b ∷ bs) rest e h =
    let t = and_parts (is_in_word b) (list_all is_in_word bs) e in
    rw (t.0, word_len-read bs rest t.1 h) (omega arith)

pub no_blank : (b : ℕ) (bs : List ℕ) → is_in_word b ≡ true → without_blanks (b ∷ bs) ≡ b ∷ bs
no_blank b bs e = rw (word_byte b e) refl

-- a word is read, where no byte of a word follows it
pub word_read : (b : ℕ) (w rest : List ℕ) → list_all is_in_word (b ∷ w) ≡ true → ends_word rest ≡ true
    → word_at ((b ∷ w) ++ rest) ≡ (b ∷ w, rest)
word_read b w rest e h =
    let t = and_parts (is_in_word b) (list_all is_in_word w) e in
    let u : without_blanks (b ∷ (w ++ rest)) ≡ b ∷ (w ++ rest) = no_blank b (w ++ rest) t.0 in
    let n : word_len ((b ∷ w) ++ rest) ≡ length (b ∷ w) = word_len-read (b ∷ w) rest e h in
    ap (λ x. (take (word_len x) x, drop (word_len x) x)) u
    ∙ ap (λ k. (take k ((b ∷ w) ++ rest), drop k ((b ∷ w) ++ rest))) n
    ∙ ap (λ x. (x, drop (length (b ∷ w)) ((b ∷ w) ++ rest))) (take-append_seam (b ∷ w) rest)
    ∙ ap (λ x. (b ∷ w, x)) (drop-append_seam (b ∷ w) rest)

-- what decimal digits are
pub record IsNumeral (n : ℕ) (ds : List ℕ) : Type 0 where
  pub digits : list_all is_digit ds ≡ true
  pub some : 0 < length ds
  pub value : value_after Decimal 0 ds ≡ Some n

digit_small : (d : ℕ) → d < 10 → (is_digit (48 + d) ≡ true) × (digit_of Decimal (48 + d) ≡ Some d)
digit_small d h = let g : is_digit (48 + d) ≡ true = grind (arith, nat_tests) in (g, rw g (ap Some (omega arith)))

one_digit : (n : ℕ) → n < 10 → IsNumeral n ((48 + n) ∷ [])
one_digit n h =
    let t = digit_small n h in
    record {
      digits = rw t.0 refl;
      some = omega arith;
      value = ap (λ o. o >>= λ d. Some (0 * 10 + d)) t.1
          ∙ ap Some (omega arith);
    }

bind_digit : (o : Option ℕ) (f g : ℕ → Option ℕ) (v w : ℕ) → (o >>= f) ≡ Some v → ((x : ℕ) → f x ≡ Some v → g x
    ≡ Some w) → (o >>= g) ≡ Some w
bind_digit None f g v w e same = cc
bind_digit (Some x) f g v w e same = same x e

push_digit : (a d v : ℕ) (ds : List ℕ) → d < 10 → value_after Decimal a ds ≡ Some v
    → value_after Decimal a (ds ++ (48 + d) ∷ []) ≡ Some (v * 10 + d)
push_digit a d v [] h e =
    let t = digit_small d h in
    let k : a ≡ v = cc in
    ap (λ o. o >>= λ x. Some (a * 10 + x)) t.1 ∙ ap Some (omega (arith, k))
push_digit a d v (b ∷ ds) h e =
    bind_digit (digit_of Decimal b) (λ x. value_after Decimal (a * 10 + x) ds) (λ x. value_after Decimal (a * 10 + x)
    (ds ++ (48 + d) ∷ [])) v (v * 10 + d) e
    (λ x r. push_digit (a * 10 + x) d v ds h r)

more_digits : (n : ℕ) (ds : List ℕ) → 10 ≤ n → IsNumeral (n / 10) ds → IsNumeral n (ds ++ ((48 + n % 10) ∷ []))
more_digits n ds h p =
    let small : n % 10 < 10 = omega arith in
    let t = digit_small (n % 10) small in
    record {
      digits = rw (list_all-append is_digit ds ((48 + n % 10) ∷ []), p.digits, t.0) refl;
      some = omega (arith, length-append ds ((48 + n % 10) ∷ []));
      value = push_digit 0 (n % 10) (n / 10) ds small p.value ∙ ap Some (omega arith);
    }

pub decimal_numeral : (n : ℕ) → n < 2 ^ 64 → IsNumeral n (decimal n)
decimal_numeral n h = decimal_by_steps IsNumeral one_digit more_digits n h

and_false : (a : Bool) → a && false ≡ false
and_false true = refl
and_false false = refl

no_prefix : (c : ℕ) → is_digit c ≡ true → c == 120 ≡ false
no_prefix c e = grind (arith, nat_tests)

numeral_read : (n : ℕ) (ds : List ℕ) → IsNumeral n ds → written_number ds ≡ Some n
numeral_read n [] p = let some = p.some in absurd (omega arith)
numeral_read n (b ∷ []) p = p.value
numeral_read n (b ∷ c ∷ ds) p =
    let t = and_parts (is_digit b) (list_all is_digit (c ∷ ds)) p.digits in
    let u = and_parts (is_digit c) (list_all is_digit ds) t.1 in
    rw (no_prefix c u.0, and_false (b == 48)) p.value

pub number_read : (n : ℕ) → n < 2 ^ 32 → written_number (decimal n) ≡ Some n
number_read n h = numeral_read n (decimal n) (decimal_numeral n (omega arith))

digit_in_word : (b : ℕ) → is_digit b ≡ true → is_in_word b ≡ true
digit_in_word b e = grind (arith, nat_tests)

digits_in_word : (ds : List ℕ) → list_all is_digit ds ≡ true → list_all is_in_word ds ≡ true
digits_in_word [] e = refl
digits_in_word (b ∷ ds) e =
    let t = and_parts (is_digit b) (list_all is_digit ds) e in
    rw (digit_in_word b t.0, digits_in_word ds t.1) refl

pub some_word_read : (w rest : List ℕ) → 0 < length w → list_all is_in_word w ≡ true → ends_word rest ≡ true
    → word_at (w ++ rest) ≡ (w, rest)
some_word_read [] rest some e h = absurd (omega arith)
some_word_read (b ∷ w) rest some e h = word_read b w rest e h

-- a number in decimal is read, and so is one after a letter
pub number_at-read : (n : ℕ) (rest : List ℕ) → n < 2 ^ 32 → ends_word rest ≡ true → number_at (decimal n ++ rest)
    ≡ Some (n, rest)
number_at-read n rest h e =
    let p : IsNumeral n (decimal n) = decimal_numeral n (omega arith) in
    let w : word_at (decimal n ++ rest) ≡ (decimal n, rest) =
    some_word_read (decimal n) rest p.some (digits_in_word (decimal n) p.digits) e in
    ap (λ (x : List ℕ × List ℕ). option_map (λ n. (n, x.1)) (written_number x.0)) w
    ∙ ap (option_map (λ n. (n, rest))) (number_read n h)

same_letter : (letter : ℕ) → letter == letter ≡ true
same_letter letter = grind (arith, nat_tests)

pub numbered_at-read : (letter n : ℕ) (rest : List ℕ) → is_in_word letter ≡ true → n < 2 ^ 32 → ends_word rest ≡ true →
    numbered_at letter (letter ∷ (decimal n ++ rest)) ≡ Some (n, rest)
numbered_at-read letter n rest l h e =
    let p : IsNumeral n (decimal n) = decimal_numeral n (omega arith) in
    let all : list_all is_in_word (letter ∷ decimal n) ≡ true = rw (l, digits_in_word (decimal n) p.digits) refl in
    let w : word_at (letter ∷ (decimal n ++ rest)) ≡ (letter ∷ decimal n, rest) =
    word_read letter (decimal n) rest all e in
    let v : numbered letter (letter ∷ decimal n) ≡ Some n = rw (same_letter letter) (number_read n h) in
    ap (λ (x : List ℕ × List ℕ). option_map (λ n. (n, x.1)) (numbered letter x.0)) w
    ∙ ap (option_map (λ n. (n, rest))) v
