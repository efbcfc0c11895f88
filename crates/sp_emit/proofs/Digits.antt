-- A digit of a division: what comes of the words of the dividend, which makes way for the quotient, and of what is
-- left.
use Rattle.std.proofs.Common.{◌≡◌, ℕ, zero, suc, ◌+◌, ◌-◌, ◌*◌, ◌/◌, ◌%◌, ◌^◌, ◌<◌, ◌≤◌, Bool, true, false, ◌⊎◌, inl, inr, if◌then◌else◌, refl, sym, ap, ◌∙◌, subst, arith, mul-le-mul_right, mul-le-mul_left, pow-suc}
use Rattle.std.specs.Prelude.{nat_le}
use Rattle.std.proofs.Math.Arith.{digits_div, digits_mod}
use Rattle.std.proofs.Math.Nat.{mod-le}
use Rattle.std.proofs.lemmas.Bool.{cases_lt, leb-true, leb-false}

-- ---- what a digit makes of them

-- what is left with the dividend's highest bit after it, as far as a word holds it
abbrev pub shifted : ℕ → ℕ → ℕ
shifted dividend rest = (2 * rest + dividend / 2 ^ 31) % 2 ^ 32

-- whether the divisor goes into it
abbrev pub goes : ℕ → ℕ → ℕ → Bool
goes divisor dividend rest = nat_le divisor (shifted dividend rest)

abbrev pub next_rest : ℕ → ℕ → ℕ → ℕ
next_rest divisor dividend rest =
    if goes divisor dividend rest then (shifted dividend rest + (2 ^ 32 - divisor)) % 2 ^ 32 else shifted dividend rest

abbrev pub next_dividend : ℕ → ℕ → ℕ → ℕ
next_dividend divisor dividend rest =
    if goes divisor dividend rest then ((dividend + dividend) % 2 ^ 32 + 1) % 2 ^ 32 else (dividend + dividend) % 2 ^ 32

-- ---- what stands in between

-- Of the dividend a the upper digits h are divided: q of them so far, in the p lowest, and what is left of them. The
-- others, l, stand before them; there are u of these.
pub record Between (a b p u dividend rest : ℕ) : Type 0 where
  h : ℕ
  l : ℕ
  q : ℕ
  split : a ≡ h * u + l
  low : l < u
  digits : dividend ≡ l * p + q
  few : q < p
  divided : 0 < b → (h ≡ q * b + rest) × (rest < b)
  by_zero : b ≡ 0 → rest ≡ h

-- the highest bit of what is left to divide
pub record Bit (a b p u dividend rest : ℕ) (x : Between a b p (2 * u) dividend rest) : Type 0 where
  bit : ℕ
  l : ℕ
  small : bit ≤ 1
  low : l < u
  is : x.l ≡ bit * u + l
  top : dividend / 2 ^ 31 ≡ bit
  twice : (dividend + dividend) % 2 ^ 32 ≡ l * (2 * p) + 2 * x.q
  room : l * (2 * p) + 2 * x.q + 2 ≤ 2 ^ 32

pub bit_of : (a b p u dividend rest : ℕ) → p * u ≡ 2 ^ 31 → (x : Between a b p (2 * u) dividend rest)
    → Bit a b p u dividend rest x
bit_of a b p u dividend rest all x = by (cases_lt x.l u)
  where
    below : (l : ℕ) → l < u → l * p + x.q < 2 ^ 31
    below l lt = omega (arith, all, x.few, mul-le-mul_right p (let le : suc l ≤ u = lt in le))

    by : (x.l < u) ⊎ (u ≤ x.l) → Bit a b p u dividend rest x
    by (inl less) =
        let lt = below x.l less in
        record {
          bit = 0;
          l = x.l;
          small = omega arith;
          low = less;
          is = omega arith;
          top = omega (arith, x.digits, lt);
          twice = omega (arith, x.digits, lt);
          room = omega (arith, lt);
        }
    by (inr more) =
        let rest_l = x.l - u in
        let is : x.l ≡ rest_l + u = omega (arith, more) in
        let fewer : rest_l < u = omega (arith, is, x.low) in
        let lt = below rest_l fewer in
        let times : x.l * p ≡ rest_l * p + 2 ^ 31 = ap (λ n. n * p) is ∙ omega (arith, all) in
        record {
          bit = 1;
          l = rest_l;
          small = omega arith;
          low = fewer;
          is = omega (arith, is);
          top = omega (arith, x.digits, times, lt);
          twice = omega (arith, x.digits, times, lt);
          room = omega (arith, lt);
        }

-- ---- the next digit

-- what is left with a bit after it is a word where the divisor is at most 2^31, so the divisor goes into it exactly
-- where a word says so
goes_on : (b bit rest : ℕ) → bit ≤ 1 → rest < b → b ≤ 2 ^ 31 → nat_le b ((2 * rest + bit) % 2 ^ 32) ≡ true
    → (b ≤ 2 * rest + bit) × (((2 * rest + bit) % 2 ^ 32 + (2 ^ 32 - b)) % 2 ^ 32 ≡ 2 * rest + bit - b)
goes_on b bit rest small less low on =
    let le = leb-true b ((2 * rest + bit) % 2 ^ 32) on in
    (omega (arith, le, small, less, low), omega (arith, le, small, less, low))

goes_off : (b bit rest : ℕ) → bit ≤ 1 → rest < b → b ≤ 2 ^ 31 → nat_le b ((2 * rest + bit) % 2 ^ 32) ≡ false
    → (2 * rest + bit < b) × ((2 * rest + bit) % 2 ^ 32 ≡ 2 * rest + bit)
goes_off b bit rest small less low off =
    let past = leb-false b ((2 * rest + bit) % 2 ^ 32) off in
    (omega (arith, past, small, less, low), omega (arith, small, less, low))

pub next_digit : (a b p u dividend rest : ℕ) → p * u ≡ 2 ^ 31 → a < 2 ^ 32 → b ≤ 2 ^ 31
    → Between a b p (2 * u) dividend rest
    → Between a b (2 * p) u (next_dividend b dividend rest) (next_rest b dividend rest)
next_digit a b p u dividend rest all word_a low_b x =
    by (bit_of a b p u dividend rest all x) (goes b dividend rest) refl
  where
    -- the dividend's digits with one more
    split_by : (y : Bit a b p u dividend rest x) → a ≡ (2 * x.h + y.bit) * u + y.l
    split_by y = omega (arith, x.split, y.is)

    upper_word : (y : Bit a b p u dividend rest x) → 2 * x.h + y.bit < 2 ^ 32
    upper_word y =
        let some : 1 ≤ u = omega (arith, y.low) in
        omega (arith, split_by y, word_a, mul-le-mul_left (2 * x.h + y.bit) some)

    rest_by : (y : Bit a b p u dividend rest x) → shifted dividend rest ≡ (2 * rest + y.bit) % 2 ^ 32
    rest_by y = ap (λ n. (2 * rest + n) % 2 ^ 32) y.top

    goes_by : (y : Bit a b p u dividend rest x) (on : Bool) → goes b dividend rest ≡ on
        → nat_le b ((2 * rest + y.bit) % 2 ^ 32) ≡ on
    goes_by y on is = ap (λ n. nat_le b n) (sym (rest_by y)) ∙ is

    by : (y : Bit a b p u dividend rest x) → (on : Bool) → goes b dividend rest ≡ on
        → Between a b (2 * p) u (if on then ((dividend + dividend) % 2 ^ 32 + 1) % 2 ^ 32 else (dividend + dividend)
        % 2 ^ 32)
        (if on then (shifted dividend rest + (2 ^ 32 - b)) % 2 ^ 32 else shifted dividend rest)
    by y true is = record {
      h = 2 * x.h + y.bit;
      l = y.l;
      q = 2 * x.q + 1;
      split = split_by y;
      low = y.low;
      digits = omega (arith, y.twice, y.room);
      few = omega (arith, x.few);
      divided = λ some. let d = x.divided some in let f = goes_on b y.bit rest y.small d.1 low_b (goes_by y true is) in
          (omega (arith, d.0, f.0, f.1, rest_by y), omega (arith, f.0, f.1, d.1, y.small, rest_by y));
      by_zero = λ none. omega (arith, none, rest_by y, x.by_zero none, upper_word y);
    }
    by y false is = record {
      h = 2 * x.h + y.bit;
      l = y.l;
      q = 2 * x.q;
      split = split_by y;
      low = y.low;
      digits = y.twice;
      few = omega (arith, x.few);
      divided = λ some. let d = x.divided some in let f = goes_off b y.bit rest y.small d.1 low_b
          (goes_by y false is) in (omega (arith, d.0, f.1, rest_by y), omega (arith, f.0, f.1, rest_by y));
      by_zero = λ none. absurd (omega (arith, none, leb-false b ((2 * rest + y.bit) % 2 ^ 32) (goes_by y false is)));
    }

-- ---- all of them

abbrev pub step : ℕ → ℕ × ℕ → ℕ × ℕ
step b d = (next_dividend b d.0 d.1, next_rest b d.0 d.1)

-- so many iterations
abbrev pub iterated : ℕ → ℕ → ℕ × ℕ → ℕ × ℕ
iterated zero b d = d
iterated (suc n) b d = iterated n b (step b d)

all_digits : (n a b p dividend rest : ℕ) → p * 2 ^ n ≡ 2 ^ 32 → a < 2 ^ 32 → b ≤ 2 ^ 31
    → Between a b p (2 ^ n) dividend rest
    → Between a b (2 ^ 32) 1 (iterated n b (dividend, rest)).0 (iterated n b (dividend, rest)).1
all_digits zero a b p dividend rest all word_a low_b x =
    subst (λ k. Between a b k 1 dividend rest) (omega (arith, all)) x
all_digits (suc n) a b p dividend rest all word_a low_b x =
    let twice : 2 ^ suc n ≡ 2 * 2 ^ n = omega (arith, pow-suc 2 n) in
    let half : p * 2 ^ n ≡ 2 ^ 31 = omega (arith, all, twice, ap (λ k. p * k) twice) in
    all_digits n a b (2 * p) (next_dividend b dividend rest) (next_rest b dividend rest)
    (omega (arith, half)) word_a low_b
    (next_digit a b p (2 ^ n) dividend rest half word_a low_b (subst (λ k. Between a b p k dividend rest) twice x))

at_first : (a b : ℕ) → a < 2 ^ 32 → Between a b 1 (2 ^ 32) a 0
at_first a b word = record {
  h = 0;
  l = a;
  q = 0;
  split = omega arith;
  low = word;
  digits = omega arith;
  few = omega arith;
  divided = λ some. (omega arith, some);
  by_zero = λ none. refl;
}

at_last : (a b : ℕ) → a < 2 ^ 32 → b ≤ 2 ^ 31 → Between a b (2 ^ 32) 1 (iterated 32 b (a, 0)).0 (iterated 32 b (a, 0)).1
at_last a b word_a low_b = all_digits 32 a b 1 a 0 refl word_a low_b (at_first a b word_a)

-- the quotient and the rest of words, where the divisor is not 0 and not large; by 0 the rest is all
pub divides_words : (a b : ℕ) → a < 2 ^ 32 → b ≤ 2 ^ 31 → 0 < b → ((iterated 32 b (a, 0)).0 ≡ a / b)
    × ((iterated 32 b (a, 0)).1 ≡ a % b)
divides_words a b word_a low_b some = by (iterated 32 b (a, 0)).0 (iterated 32 b (a, 0)).1 (at_last a b word_a low_b)
  where
    by : (dividend rest : ℕ) → Between a b (2 ^ 32) 1 dividend rest → (dividend ≡ a / b) × (rest ≡ a % b)
    by dividend rest x =
        let d = x.divided some in
        let is : x.q * b + rest ≡ a = omega (arith, x.split, x.low, d.0) in
        let quotient : dividend ≡ x.q = omega (arith, x.digits, x.low) in
        (quotient ∙ sym (digits_div x.q d.1) ∙ ap (λ n. n / b) is, sym (digits_mod x.q d.1) ∙ ap (λ n. n % b) is)

pub divides_by_zero : (a : ℕ) → a < 2 ^ 32 → (iterated 32 0 (a, 0)).1 ≡ a
divides_by_zero a word = by (iterated 32 0 (a, 0)).0 (iterated 32 0 (a, 0)).1 (at_last a 0 word (omega arith))
  where
    by : (dividend rest : ℕ) → Between a 0 (2 ^ 32) 1 dividend rest → rest ≡ a
    by dividend rest x = x.by_zero refl ∙ omega (arith, x.split, x.low)

-- both are words
pub quotient_word : (a b : ℕ) → a < 2 ^ 32 → b ≤ 2 ^ 31 → (iterated 32 b (a, 0)).0 < 2 ^ 32
quotient_word a b word_a low_b = by (iterated 32 b (a, 0)).0 (iterated 32 b (a, 0)).1 (at_last a b word_a low_b)
  where
    by : (dividend rest : ℕ) → Between a b (2 ^ 32) 1 dividend rest → dividend < 2 ^ 32
    by dividend rest x = omega (arith, x.digits, x.low, x.few)

pub rest_word : (a b : ℕ) → a < 2 ^ 32 → b ≤ 2 ^ 31 → (iterated 32 b (a, 0)).1 < 2 ^ 32
rest_word a zero word_a low_b = subst (λ n. n < 2 ^ 32) (sym (divides_by_zero a word_a)) word_a
rest_word a (suc b) word_a low_b = subst (λ n. n < 2 ^ 32) (sym (divides_words a (suc b) word_a low_b (omega arith)).1)
    (omega (arith, mod-le a (suc b), word_a))
