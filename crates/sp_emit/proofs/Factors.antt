-- A number times a divisor's factor, divided by the scale, is its quotient; and powers of two.
use Rattle.std.proofs.Common.{◌≡◌, ℕ, suc, ◌+◌, ◌-◌, ◌*◌, ◌/◌, ◌%◌, ◌^◌, ◌<◌, ◌≤◌, nat_lt, true, ◌&&◌, sym, ap, ◌∙◌, arith, bit_and, mod-lt, mul-le-mul_left, mul-le-mul_right}
use Rattle.std.proofs.Math.Arith.{digits_div}
use Rattle.std.proofs.Math.Nat.{div-div-eq-div-mul, lt_of_mul-lt-mul_right}
use Rattle.std.proofs.lemmas.Bool.{and_parts, ltb-true, eqb-true}
use Rattle.std.proofs.lemmas.Nat.{div-add-mod', pow-add, pow_pos, and_mask}
use Rattle.tc_word.specs.Word.{high_word, moved_down}
use Rattle.sp_emit.specs.Divisors.{highest, is_power, moved, scale, factor, surplus, is_exact}

-- ---- powers of two

highest_few : (n : ℕ) → highest n < 32
unfolding highest
highest_few n = omega arith

power_is : (n : ℕ) → is_power n ≡ true → 2 ^ highest n ≡ n
unfolding is_power
power_is n is = eqb-true (2 ^ highest n) n is

pub power_some : (n : ℕ) → is_power n ≡ true → 1 ≤ n
power_some n is = omega (arith, power_is n is, pow_pos (highest n))

pub power_quotient : (x n : ℕ) → is_power n ≡ true → moved_down x (highest n) ≡ x / n
power_quotient x n is =
    let few : highest n % 32 ≡ highest n = omega (arith, highest_few n) in
    ap (λ k. x / 2 ^ k) few ∙ ap (λ y. x / y) (power_is n is)

pub power_rest : (x n : ℕ) → is_power n ≡ true → bit_and x (n - 1) ≡ x % n
power_rest x n is =
    ap (λ y. bit_and x (y - 1)) (sym (power_is n is)) ∙ and_mask x (highest n) ∙ ap (λ y. x % y) (power_is n is)

-- ---- factors

-- where the quotients of all dividends up to the greatest are exact
pub record Exact (most n : ℕ) : Type 0 where
  pub some : 1 < n
  pub word : factor n < 2 ^ 32
  pub small : surplus n * most < scale n

pub exact_parts : (most n : ℕ) → is_exact most n ≡ true → Exact most n
unfolding is_exact
exact_parts most n is =
    let a = and_parts (nat_lt 1 n) (nat_lt (factor n) (2 ^ 32) && nat_lt (surplus n * most) (scale n)) is in
    let b = and_parts (nat_lt (factor n) (2 ^ 32)) (nat_lt (surplus n * most) (scale n)) a.1 in
    record {
      some = ltb-true 1 n a.0;
      word = ltb-true (factor n) (2 ^ 32) b.0;
      small = ltb-true (surplus n * most)
          (scale n) b.1;
    }

scale_some : (n : ℕ) → 1 ≤ scale n
unfolding scale
scale_some n = let some = pow_pos (32 + moved n) in some

factor_times : (n : ℕ) → 1 < n → factor n * n ≡ scale n + surplus n
unfolding factor surplus
factor_times n some =
    let lt : (scale n - 1) % n < n = mod-lt (scale n - 1) (omega (arith, some)) in
    omega (arith, div-add-mod' (scale n - 1) n, lt, scale_some n, some)

-- A dividend x is q times the divisor n and a rest r. The product with the factor f is then q times the scale s, and
-- what is less than the scale, where x times the surplus e is.
shared : (x n f s e : ℕ) → f * n ≡ s + e → e * x < s → 0 < n → x * f / s ≡ x / n
shared x n f s e is small some =
    let q = x / n in
    let r = x % n in
    let parts : q * n + r ≡ x = div-add-mod' x n in
    let lt : r < n = mod-lt x some in
    let fewer : suc r * s ≤ n * s = mul-le-mul_right s lt in
    let under : (q * e + r * f) * n < s * n = omega (arith, ap (λ y. y * e) parts, ap (λ y. r * y) is, fewer, small) in
    let whole : q * s + (q * e + r * f) ≡ x * f = omega (arith, ap (λ y. q * y) is, ap (λ y. y * f) parts) in
    ap (λ y. y / s) (sym whole) ∙ digits_div q (lt_of_mul-lt-mul_right n under)

pub exact_quotient : (most n x : ℕ) → Exact most n → x ≤ most → x * factor n / scale n ≡ x / n
exact_quotient most n x e le =
    let less : surplus n * x ≤ surplus n * most = mul-le-mul_left (surplus n) le in
    shared x n (factor n) (scale n) (surplus n) (factor_times n e.some) (omega (arith, less, e.small))
    (omega (arith, e.some))

moved_few : (n : ℕ) → moved n < 32
unfolding moved
moved_few n = highest_few (n - 1)

-- the upper word of a product, moved down
pub upper_moved : (y n : ℕ) → moved_down (high_word y) (moved n) ≡ y / scale n
unfolding scale
upper_moved y n =
    let few : moved n % 32 ≡ moved n = omega (arith, moved_few n) in
    ap (λ k. y / 2 ^ 32 / 2 ^ k) few ∙ div-div-eq-div-mul y (2 ^ 32) (2 ^ moved n)
    ∙ ap (λ p. y / p) (sym (pow-add 2 32 (moved n)))
