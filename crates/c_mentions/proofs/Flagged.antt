-- Flags as the bits of a word.
use Rattle.std.proofs.Common.{◌≡◌, ℕ, zero, suc, ◌+◌, ◌*◌, ◌/◌, ◌%◌, ◌^◌, ◌==◌, ◌<◌, ◌≤◌, Bool, true, false, List, [], ◌∷◌, ap, sym, ◌∙◌, arith, pow_mono, add-one, ltb-false}
use native.Mathlib.Nat.{pow-succ', two-pow-succ, zero-div, div-one, div-div-eq-div-mul, div-eq_of_lt}
use mir.Val.{bool_byte}
use Rattle.std.specs.Prelude.{nat_lt, slice_index_or}
use Rattle.c_world.specs.Numbers.{flag}
use Rattle.c_mentions.specs.Bits.{has_bit, bits}

-- ---- one bit

pub no_bit : (k n : ℕ) → n < 2 ^ 32 → nat_lt k 32 ≡ false → nat_lt k 32 ≡ has_bit k n
no_bit k n small high =
    high ∙ sym (ap (λ (m : ℕ). m % 2 == 1) (div-eq_of_lt (omega (arith, small, pow_mono (ltb-false k 32 high)))))

lowest : (b : Bool) (n : ℕ) → ((flag b + 2 * n) % 2 == 1) ≡ b
lowest true n = let e : (1 + 2 * n) % 2 ≡ 1 = omega arith in ap (λ (m : ℕ). m == 1) e
lowest false n = let e : (0 + 2 * n) % 2 ≡ 0 = omega arith in ap (λ (m : ℕ). m == 1) e

others : (b : Bool) (n : ℕ) → (flag b + 2 * n) / 2 ≡ n
others true n = omega arith
others false n = omega arith

pub bit_of_flags : (k : ℕ) (bs : List Bool) → has_bit k (bits bs) ≡ slice_index_or bs k false
bit_of_flags k [] = ap (λ (m : ℕ). m % 2 == 1) (zero-div (2 ^ k))
bit_of_flags zero (b ∷ bs) = ap (λ (m : ℕ). m % 2 == 1) (div-one (bits (b ∷ bs))) ∙ lowest b (bits bs)
bit_of_flags (suc k) (b ∷ bs) =
    ap (λ (m : ℕ). m % 2 == 1)
    (ap (λ (m : ℕ). bits (b ∷ bs) / m) (pow-succ' 2 k) ∙ sym (div-div-eq-div-mul (bits (b ∷ bs)) 2 (2 ^ k))
    ∙ ap (λ (m : ℕ). m / 2 ^ k) (others b (bits bs)))
    ∙ bit_of_flags k bs

-- ---- one bit more

pub room_below : (word done : ℕ) → word < 2 ^ done → done < 16 → word < 2 ^ 15
room_below word done small within = let most : done ≤ 15 = omega arith in omega (arith, pow_mono most, small)

pub one_more : (b : Bool) (word done : ℕ) → word < 2 ^ done → flag b + 2 * word < 2 ^ (done + 1)
one_more true word done small = omega (arith, small, two-pow-succ done, ap (λ (k : ℕ). 2 ^ k) (add-one done))
one_more false word done small = omega (arith, small, two-pow-succ done, ap (λ (k : ℕ). 2 ^ k) (add-one done))

pub at_most_one : (b : Bool) (n : ℕ) → n ≡ bool_byte b → n ≤ 1
at_most_one true n is = omega (arith, is)
at_most_one false n is = omega (arith, is)
