-- The readers of a bound are steady: a bound is read by what it is written with.
use Rattle.std.proofs.Common.{◌≡◌, ◌∙◌, ℕ, ◌+◌, ◌<◌, ◌≤◌, ◌==◌, nat_lt, Bool, true, false, ◌&&◌, refl, sym, ap, if◌then◌else◌, List, [], ◌∷◌, ◌++◌, length, take, drop, arith, Option, None, Some, length-drop, length-append}
use Rattle.std.specs.Prelude.{codes}
use Rattle.std.proofs.lemmas.List.{take-append-le, drop-append-le}
use Rattle.c_lex.specs.declared.classes.Class.TheVariants.{Digit, Separator}
use Rattle.c_lex.specs.declared.numbers.Radix.TheVariants.{Decimal}
use Rattle.c_lex.specs.Bytes.{is_digit, separates, run, past}
use Rattle.c_lex.specs.Numbers.{number_of, word_value}
use Rattle.c_lex.specs.Bounds.{and_then, past_gap, digits_in_bound, BoundNumber, number_after, bound_text}
use Rattle.c_lex.proofs.CutRuns.{run_cut, run_within, run_some}
use Rattle.c_lex.proofs.Steady.{both_of, then_is, IsKept, IsSteady, then_steady, told_steady}

-- a reader that tells what it leaves, and nothing else
abbrev pub all : List ℕ → List ℕ
all bs = bs

abbrev pub nothing : List ℕ → Unit {0}
nothing bs = tt

abbrev pub IsPlain : (List ℕ → Option (List ℕ)) → Type 0
IsPlain read = IsSteady all nothing read read

-- a text

pub past_long : (text bs rest : List ℕ) → past text bs ≡ Some rest → length text + length rest ≤ length bs
past_long [] bs rest e = let same : bs ≡ rest = cc in omega (arith, ap length same)
past_long (a ∷ text) [] rest e = cc
past_long (a ∷ text) (b ∷ bs) rest e = either (past_long text bs rest) (a == b) e
  where
    either : (past text bs ≡ Some rest → length text + length rest ≤ length bs) → (t : Bool)
        → (if t then past text bs else None) ≡ Some rest → length (a ∷ text) + length rest ≤ length (b ∷ bs)
    either more true e = omega (arith, more e)
    either more false e = cc

past_kept : (text xs ys rest : List ℕ) → past text (xs ++ ys) ≡ Some rest → length ys ≤ length rest
    → IsKept all nothing (past text) xs ys rest
past_kept [] xs ys rest e within = record { less = xs; same = refl; parts = cc; found = refl }
past_kept (a ∷ text) [] ys rest e within = absurd (omega (arith, within, past_long (a ∷ text) ys rest e))
past_kept (a ∷ text) (x ∷ xs) ys rest e within = either (past_kept text xs ys rest) (a == x) refl e
  where
    either : (past text (xs ++ ys) ≡ Some rest → length ys ≤ length rest → IsKept all nothing (past text) xs ys rest)
        → (t : Bool) → a == x ≡ t
        → (if t then past text (xs ++ ys) else None) ≡ Some rest → IsKept all nothing (past (a ∷ text)) (x ∷ xs) ys rest
    either more true f e = let k = more e within in record {
      less = k.less;
      same = refl;
      parts = k.parts;
      found = ap (λ t. if t then past text xs else None) f ∙ k.found;
    }
    either more false f e = cc

pub past_steady : (text : List ℕ) → IsPlain (past text)
past_steady text = record { shrinks = λ bs rest e. omega (arith, past_long text bs rest e); kept = past_kept text }

-- a gap, which has a byte at least

pub gap_long : (bs rest : List ℕ) → past_gap bs ≡ Some rest → length rest < length bs
gap_long [] rest e = cc
gap_long (b ∷ bs) rest e = either (separates b) refl e
  where
    either : (t : Bool) → separates b ≡ t → (if t then Some (drop (run Separator (b ∷ bs)) (b ∷ bs)) else None)
        ≡ Some rest → length rest < length (b ∷ bs)
    either true f e =
        let same : drop (run Separator (b ∷ bs)) (b ∷ bs) ≡ rest = cc in
        omega (arith, ap length same, length-drop (run Separator (b ∷ bs)) (b ∷ bs), run_some Separator b bs f)
    either false f e = cc

gap_kept : (xs ys rest : List ℕ) → past_gap (xs ++ ys) ≡ Some rest → length ys ≤ length rest
    → IsKept all nothing past_gap xs ys rest
gap_kept [] ys rest e within = absurd (omega (arith, within, gap_long ys rest e))
gap_kept (x ∷ xs) ys rest e within = either (separates x) refl e
  where
    either : (t : Bool) → separates x ≡ t → (if t then Some (drop (run Separator (x ∷ xs ++ ys)) (x ∷ xs ++ ys)) else
        None) ≡ Some rest → IsKept all nothing past_gap (x ∷ xs) ys rest
    either true f e =
        let same : drop (run Separator (x ∷ xs ++ ys)) (x ∷ xs ++ ys) ≡ rest = cc in
        let inside : run Separator (x ∷ xs ++ ys) ≤ length (x ∷ xs) =
        omega (
          arith,
          within,
          ap length same,
          length-drop (run Separator (x ∷ xs ++ ys)) (x ∷ xs ++ ys),
          run_within Separator (x ∷ xs ++ ys),
          length-append (x ∷ xs) ys,
        ) in
        record {
          less = drop (run Separator (x ∷ xs ++ ys)) (x ∷ xs);
          same = refl;
          parts = sym same ∙ drop-append-le (run Separator (x ∷ xs ++ ys)) (x ∷ xs) ys inside;
          found = ap (λ t. if t then Some (drop (run Separator (x ∷ xs)) (x ∷ xs)) else None) f
              ∙ ap (λ m. Some (drop m (x ∷ xs))) (run_cut Separator (x ∷ xs) ys inside);
        }
    either false f e = cc

pub gap_steady : IsPlain past_gap
gap_steady = record { shrinks = λ bs rest e. omega (arith, gap_long bs rest e); kept = gap_kept }

-- the digits of a number, of which there are so many

abbrev counted : ℕ → ℕ → Option ℕ
counted b count = if is_digit b then (if nat_lt 1 count && b == 48 then None else Some count) else None

counted_count : (b count k : ℕ) → counted b count ≡ Some k → (is_digit b ≡ true) × (count ≡ k)
counted_count b count k e = either (is_digit b) (nat_lt 1 count && b == 48) e
  where
    either : (t u : Bool) → (if t then (if u then None else Some count) else None) ≡ Some k → (t ≡ true) × (count ≡ k)
    either true true e = cc
    either true false e = (refl, cc)
    either false u e = cc

digits_some : (bs : List ℕ) (k : ℕ) → digits_in_bound bs ≡ Some k → (0 < k) × (k ≤ length bs)
digits_some [] k e = cc
digits_some (b ∷ bs) k e =
    let h = counted_count b (run Digit (b ∷ bs)) k e in
    (omega (arith, h.1, run_some Digit b bs h.0), omega (arith, h.1, run_within Digit (b ∷ bs)))

digits_cut : (xs ys : List ℕ) (k : ℕ) → k ≤ length xs → digits_in_bound (xs ++ ys) ≡ Some k
    → digits_in_bound xs ≡ Some k
digits_cut [] ys k within e = absurd (omega (arith, within, (digits_some ys k e).0))
digits_cut (x ∷ xs) ys k within e =
    let h = counted_count x (run Digit (x ∷ xs ++ ys)) k e in
    ap (counted x) (run_cut Digit (x ∷ xs) ys (omega (arith, within, h.1))) ∙ e

-- a number

abbrev number_rest : BoundNumber → List ℕ
number_rest n = n.rest

abbrev number_value : BoundNumber → Option ℕ
number_value n = n.value

abbrev of_digits : List ℕ → ℕ → BoundNumber
of_digits bs count =
    record { value = word_value (number_of Decimal 0 (take count bs)); left = length bs; rest = drop count bs }

abbrev number : List ℕ → Option BoundNumber
number bs = and_then (digits_in_bound bs) (λ count. Some (of_digits bs count))

number_kept : (xs ys : List ℕ) (n : BoundNumber) → number (xs ++ ys) ≡ Some n → length ys ≤ length n.rest
    → IsKept number_rest number_value number xs ys n
number_kept xs ys n e within =
    let d = both_of (digits_in_bound (xs ++ ys)) (λ count. Some (of_digits (xs ++ ys) count)) n e in
    let k : ℕ = d.between in
    let some = digits_some (xs ++ ys) k d.first in
    let told : of_digits (xs ++ ys) k ≡ n = cc d.second in
    let left : drop k (xs ++ ys) ≡ n.rest = ap number_rest told in
    let inside : k ≤ length xs =
    omega (arith, within, some.1, ap length left, length-drop k (xs ++ ys), length-append xs ys) in
    record {
      less = of_digits xs k;
      same = ap (λ ds. word_value (number_of Decimal 0 ds)) (sym (take-append-le k xs ys inside))
          ∙ ap number_value told;
      parts = sym left ∙ drop-append-le k xs ys inside;
      found = then_is (digits_in_bound xs) (λ count. Some (of_digits xs count)) k (digits_cut xs ys k inside d.first);
    }

number_long : (bs : List ℕ) (n : BoundNumber) → number bs ≡ Some n → length n.rest ≤ length bs
number_long bs n e =
    let d = both_of (digits_in_bound bs) (λ count. Some (of_digits bs count)) n e in
    let told : of_digits bs d.between ≡ n = cc d.second in
    let left : drop d.between bs ≡ n.rest = ap number_rest told in
    omega (arith, ap length left, length-drop d.between bs)

abbrev IsNumber : (List ℕ → Option BoundNumber) → Type 0
IsNumber read = IsSteady number_rest number_value read read

number_steady : IsNumber number
number_steady = record { shrinks = number_long; kept = number_kept }

-- after a gap, and after a word and a gap
after_gap : IsNumber (λ bs. and_then (past_gap bs) number)
after_gap = then_steady all nothing number_rest number_value past_gap past_gap (λ _. number) (λ _. number) gap_steady
    (λ _ _ _. number_steady)

behind_word : (word : List ℕ) → IsNumber (number_after word)
behind_word word =
    then_steady all nothing number_rest number_value (past word) (past word) (λ _ bs. and_then (past_gap bs) number)
    (λ _ bs. and_then (past_gap bs) number)
    (past_steady word) (λ _ _ _. after_gap)

-- both numbers

abbrev pub text_rest : BoundNumber × BoundNumber → List ℕ
text_rest b = b.1.rest

abbrev pub text_values : BoundNumber × BoundNumber → Option ℕ × Option ℕ
text_values b = (b.0.value, b.1.value)

abbrev IsText : (List ℕ → Option (BoundNumber × BoundNumber)) → (List ℕ → Option (BoundNumber × BoundNumber)) → Type 0
IsText read read' = IsSteady text_rest text_values read read'

abbrev with_low : List ℕ → BoundNumber → List ℕ → Option (BoundNumber × BoundNumber)
with_low word low bs = and_then (number_after word bs) (λ high. Some (low, high))

abbrev after_low : List ℕ → BoundNumber → List ℕ → Option (BoundNumber × BoundNumber)
after_low word low bs = and_then (past_gap bs) (with_low word low)

abbrev from_low : List ℕ → List ℕ → List ℕ → Option (BoundNumber × BoundNumber)
from_low min max bs = and_then (number_after min bs) (λ low. after_low max low low.rest)

with_low_steady : (word : List ℕ) (low low' : BoundNumber) → low'.value ≡ low.value
    → IsText (with_low word low) (with_low word low')
with_low_steady word low low' same =
    told_steady number_rest number_value text_rest text_values (number_after word) (number_after word)
    (λ high. (low, high)) (λ high. (low', high))
    (behind_word word) (λ _. refl) (λ _. refl) (λ a b looks. ap (λ v. (v, b.value)) same
    ∙ ap (λ v. (low.value, v)) looks)

after_low_steady : (word : List ℕ) (low low' : BoundNumber) → low'.value ≡ low.value
    → IsText (after_low word low) (after_low word low')
after_low_steady word low low' same =
    then_steady all nothing text_rest text_values past_gap past_gap (λ _. with_low word low) (λ _. with_low word low')
    gap_steady (λ _ _ _. with_low_steady word low low' same)

from_low_steady : (min max : List ℕ) → IsText (from_low min max) (from_low min max)
from_low_steady min max =
    then_steady number_rest number_value text_rest text_values (number_after min) (number_after min) (after_low max)
    (after_low max)
    (behind_word min) (λ low low' same. after_low_steady max low low' same)

gap_low_steady : (min max : List ℕ) → IsText (λ bs. and_then (past_gap bs) (from_low min max)) (λ bs. and_then
    (past_gap bs) (from_low min max))
gap_low_steady min max =
    then_steady all nothing text_rest text_values past_gap past_gap (λ _. from_low min max) (λ _. from_low min max)
    gap_steady (λ _ _ _. from_low_steady min max)

words_steady : (first min max : List ℕ)
    → IsText (λ bs. and_then (past first bs) (λ a. and_then (past_gap a) (from_low min max))) (λ bs. and_then
    (past first bs) (λ a. and_then (past_gap a) (from_low min max)))
words_steady first min max =
    then_steady all nothing text_rest text_values (past first) (past first) (λ _ bs. and_then (past_gap bs)
    (from_low min max)) (λ _ bs. and_then (past_gap bs) (from_low min max))
    (past_steady first) (λ _ _ _. gap_low_steady min max)

pub text_steady : IsText bound_text bound_text
text_steady = words_steady (codes "loopbound") (codes "min") (codes "max")
