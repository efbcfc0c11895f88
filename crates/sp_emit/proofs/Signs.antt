-- Signed words are divided as what they are without their signs, and each result gets its own sign.
use Rattle.std.proofs.Common.{◌≡◌, ℕ, zero, suc, ◌+◌, ◌-◌, ◌/◌, ◌%◌, ◌^◌, ◌<◌, ◌≤◌, ◌==◌, ◌⊎◌, inl, inr, Bool, true, false, not, if◌then◌else◌, pos, negsuc, neg_ℤ, to_z, of_z, w32, refl, sym, ap, ◌∙◌, arith, eq-eqb, ne_eqb, div-le_self, mod-lt, lit<, subst}
use Rattle.std.proofs.Math.Nat.{mod-le}
use Rattle.std.specs.Prelude.{int_div, int_rem}
use Rattle.std.proofs.lemmas.Bool.{cases_lt, lt-ltb, le-ltb}
use Rattle.tc_word.specs.Word.{quotient, rest, quotient_unsigned, rest_unsigned}
use Rattle.patmos_sem.specs.Operations.{has_bit}

-- the least number of words that come to 0 with this one
abbrev pub negative : ℕ → ℕ
negative a = (0 + (2 ^ 32 - a)) % 2 ^ 32

abbrev pub signed : Bool → ℕ → ℕ
signed on a = if on then negative a else a

-- a word without its sign
abbrev pub size_of : ℕ → ℕ
size_of a = signed (has_bit a 31) a

abbrev pub differ : Bool → Bool → Bool
differ a b = if a then not b else b

-- ---- the sign of a word

data Read (a : ℕ) : Type 0 where
  plain : a < 2 ^ 31 → has_bit a 31 ≡ false → to_z w32 a ≡ pos a → Read a
  minus : (k : ℕ) → suc k + a ≡ 2 ^ 32 → suc k ≤ 2 ^ 31 → has_bit a 31 ≡ true → to_z w32 a ≡ negsuc k → negative a
      ≡ suc k → Read a

read_of : (a : ℕ) → a < 2 ^ 32 → Read a
read_of a word = by (cases_lt a (2 ^ 31))
  where
    by : (a < 2 ^ 31) ⊎ (2 ^ 31 ≤ a) → Read a
    by (inl less) = plain less (ne_eqb (a / 2 ^ 31 % 2) 1 (omega (arith, less))) (rw (lt-ltb a (2 ^ 31) less) refl)
    by (inr more) =
        minus (2 ^ 32 - suc a) (omega (arith, word)) (omega (arith, more))
        (eq-eqb (a / 2 ^ 31 % 2) 1 (omega (arith, more, word))) (rw (le-ltb a (2 ^ 31) more) refl)
        (omega (arith, more, word))

of_negative : (x : ℕ) → x ≤ 2 ^ 31 → of_z w32 (neg_ℤ (pos x)) ≡ negative x
of_negative zero small = refl
of_negative (suc x) small = omega (arith, small)

signed_zero : (on : Bool) → 0 ≡ signed on 0
signed_zero true = refl
signed_zero false = refl

-- a word that is not 0 is not 0 without its sign
size_some : (b : ℕ) → b < 2 ^ 32 → 0 < b → (size_of b == 0) ≡ false
size_some b word some = by (read_of b word)
  where
    by : Read b → (size_of b == 0) ≡ false
    by (plain less off read) = ap (λ on. signed on b == 0) off ∙ ne_eqb b 0 (omega (arith, some))
    by (minus k is small on read negated) =
        ap (λ on. signed on b == 0) on ∙ ap (λ n. n == 0) negated ∙ ne_eqb (suc k) 0 (omega arith)

-- ---- quotients

quotients : (a b : ℕ) → Read a → Read b → of_z w32 (int_div (to_z w32 a) (to_z w32 b))
    ≡ signed (differ (has_bit a 31) (has_bit b 31)) (size_of a / size_of b)
quotients a b (plain la offa ra) (plain lb offb rb) = rw (ra, rb, offa, offb) refl
quotients a b (plain la offa ra) (minus j isb smallb onb rb negb) =
    rw (ra, rb, offa, onb, negb) (of_negative (a / suc j) (omega (arith, la, div-le_self a (suc j))))
quotients a b (minus k isa smalla ona ra nega) (plain lb offb rb) =
    rw (ra, rb, ona, offb, nega) (of_negative (suc k / b) (omega (arith, smalla, div-le_self (suc k) b)))
quotients a b (minus k isa smalla ona ra nega) (minus j isb smallb onb rb negb) = rw (ra, rb, ona, onb, nega, negb) refl

pub signed_quotient : (a b : ℕ) → a < 2 ^ 32 → b < 2 ^ 32 → quotient a b ≡ signed (differ (has_bit a 31) (has_bit b 31))
    (if size_of b == 0 then 0 else size_of a / size_of b)
signed_quotient a zero word_a word_b = signed_zero (differ (has_bit a 31) (has_bit 0 31))
signed_quotient a (suc b) word_a word_b =
    ap (λ on. if on then 0 else of_z w32 (int_div (to_z w32 a) (to_z w32 (suc b)))) (ne_eqb (suc b) 0 (omega arith))
    ∙ quotients a (suc b) (read_of a word_a) (read_of (suc b) word_b)
    ∙ ap (λ on. signed (differ (has_bit a 31) (has_bit (suc b) 31)) (if on then 0 else size_of a / size_of (suc b)))
    (sym (size_some (suc b) word_b (omega arith)))

-- ---- what is left

twice_negative : (a : ℕ) → Read a → a ≡ signed (has_bit a 31) (size_of a)
twice_negative a (plain less off read) = rw off refl
twice_negative a (minus k is small on read negated) = rw (on, negated) (omega (arith, is))

rests : (a b : ℕ) → Read a → Read b → of_z w32 (int_rem (to_z w32 a) (to_z w32 b))
    ≡ signed (has_bit a 31) (size_of a % size_of b)
rests a b (plain la offa ra) (plain lb offb rb) = rw (ra, rb, offa, offb) refl
rests a b (plain la offa ra) (minus j isb smallb onb rb negb) = rw (ra, rb, offa, onb, negb) refl
rests a b (minus k isa smalla ona ra nega) (plain lb offb rb) =
    rw (ra, rb, ona, offb, nega) (of_negative (suc k % b) (omega (arith, smalla, mod-le (suc k) b)))
rests a b (minus k isa smalla ona ra nega) (minus j isb smallb onb rb negb) =
    rw (ra, rb, ona, onb, nega, negb) (of_negative (suc k % suc j) (omega (arith, smalla, mod-le (suc k) (suc j))))

pub signed_rest : (a b : ℕ) → a < 2 ^ 32 → b < 2 ^ 32 → rest a b
    ≡ signed (has_bit a 31) (if size_of b == 0 then size_of a else size_of a % size_of b)
signed_rest a zero word_a word_b = twice_negative a (read_of a word_a)
signed_rest a (suc b) word_a word_b =
    ap (λ on. if on then a else of_z w32 (int_rem (to_z w32 a) (to_z w32 (suc b)))) (ne_eqb (suc b) 0 (omega arith))
    ∙ rests a (suc b) (read_of a word_a) (read_of (suc b) word_b)
    ∙ ap (λ on. signed (has_bit a 31) (if on then size_of a else size_of a % size_of (suc b))) (sym
    (size_some (suc b) word_b (omega arith)))

-- ---- by a number without a sign

record Plain (n : ℕ) : Type 0 where
  off : has_bit n 31 ≡ false
  other : (n == 0) ≡ false

plain_of : (n : ℕ) → 1 ≤ n → n < 2 ^ 31 → Plain n
plain_of n some small =
    record { off = ne_eqb (n / 2 ^ 31 % 2) 1 (omega (arith, small)); other = ne_eqb n 0 (omega (arith, some)) }

differ_not : (on : Bool) → differ on false ≡ on
differ_not true = refl
differ_not false = refl

pub signed_quotient_by : (a n : ℕ) → a < 2 ^ 32 → 1 ≤ n → n < 2 ^ 31 → quotient a n
    ≡ signed (has_bit a 31) (size_of a / n)
signed_quotient_by a n word some small =
    let p = plain_of n some small in
    signed_quotient a n word (omega (arith, small))
    ∙ ap (λ b. signed (differ (has_bit a 31) b) (if signed b n == 0 then 0 else size_of a / signed b n)) p.off
    ∙ ap (λ b. signed (differ (has_bit a 31) false) (if b then 0 else size_of a / n)) p.other
    ∙ ap (λ b. signed b (size_of a / n)) (differ_not (has_bit a 31))

pub signed_rest_by : (a n : ℕ) → a < 2 ^ 32 → 1 ≤ n → n < 2 ^ 31 → rest a n ≡ signed (has_bit a 31) (size_of a % n)
signed_rest_by a n word some small =
    let p = plain_of n some small in
    signed_rest a n word (omega (arith, small))
    ∙ ap (λ b. signed (has_bit a 31) (if signed b n == 0 then size_of a else size_of a % signed b n)) p.off
    ∙ ap (λ b. signed (has_bit a 31) (if b then size_of a else size_of a % n)) p.other

-- ---- results are words

-- the greatest word without its sign is that of the least number
pub size_most : (a : ℕ) → a < 2 ^ 32 → size_of a ≤ 2 ^ 31
size_most a word = by (read_of a word)
  where
    by : Read a → size_of a ≤ 2 ^ 31
    by (plain less off read) = subst (λ n. n ≤ 2 ^ 31) (sym (ap (λ on. signed on a) off)) (omega (arith, less))
    by (minus k is small on read negated) = subst (λ n. n ≤ 2 ^ 31) (sym (ap (λ b. signed b a) on ∙ negated)) small

pub signed_word : (on : Bool) (a : ℕ) → a < 2 ^ 32 → signed on a < 2 ^ 32
signed_word true a word = mod-lt (0 + (2 ^ 32 - a)) (lit< tt)
signed_word false a word = word

pub size_word : (a : ℕ) → a < 2 ^ 32 → size_of a < 2 ^ 32
size_word a word = signed_word (has_bit a 31) a word

zero_or_word : (on : Bool) (a : ℕ) → a < 2 ^ 32 → (if on then 0 else a) < 2 ^ 32
zero_or_word true a word = omega arith
zero_or_word false a word = word

one_of_words : (on : Bool) (a b : ℕ) → a < 2 ^ 32 → b < 2 ^ 32 → (if on then a else b) < 2 ^ 32
one_of_words true a b word_a word_b = word_a
one_of_words false a b word_a word_b = word_b

pub quotient_unsigned_word : (a b : ℕ) → a < 2 ^ 32 → quotient_unsigned a b < 2 ^ 32
quotient_unsigned_word a b word = zero_or_word (b == 0) (a / b) (omega (arith, word, div-le_self a b))

pub rest_unsigned_word : (a b : ℕ) → a < 2 ^ 32 → rest_unsigned a b < 2 ^ 32
rest_unsigned_word a b word = one_of_words (b == 0) a (a % b) word (omega (arith, word, mod-le a b))

pub quotient_word : (a b : ℕ) → a < 2 ^ 32 → b < 2 ^ 32 → quotient a b < 2 ^ 32
quotient_word a b word_a word_b =
    subst (λ n. n < 2 ^ 32) (sym (signed_quotient a b word_a word_b))
    (signed_word (differ (has_bit a 31) (has_bit b 31)) _ (quotient_unsigned_word (size_of a) (size_of b)
    (size_word a word_a)))

pub rest_word : (a b : ℕ) → a < 2 ^ 32 → b < 2 ^ 32 → rest a b < 2 ^ 32
rest_word a b word_a word_b =
    subst (λ n. n < 2 ^ 32) (sym (signed_rest a b word_a word_b)) (signed_word (has_bit a 31) _
    (rest_unsigned_word (size_of a) (size_of b) (size_word a word_a)))
