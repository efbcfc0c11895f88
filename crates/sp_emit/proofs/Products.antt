-- The low word of a signed product is that of an unsigned one.
use Rattle.std.proofs.Common.{◌≡◌, ℕ, suc, ◌-◌, ◌*◌, ◌%◌, ◌^◌, ◌<◌, ◌≤◌, ℤ, pos, negsuc, ◌*ℤ◌, to_z, of_z, w32, w64, lit<, unsigned_abs, FitsSigned, refl, sym, ap, ◌∙◌, subst, arith, mod-lt}
use Rattle.std.specs.Int.{int_wrap, int_rem_euclid}
use Rattle.std.proofs.lemmas.Int.{of_z-to_z, wrapping_mul-bits, int_rem_euclid_is, fits_signed_mul, ints}
use Rattle.tc_word.specs.Word.{product, low_word}
use Rattle.c_world.specs.Numbers.{product_of}

-- the low word of a number of 64 bits is what is left of it
low_of : (z : ℤ) → FitsSigned w64 z → low_word (of_z w64 z) ≡ unsigned_abs (int_rem_euclid z (pos (2 ^ 32)))
low_of (pos n) fits = refl
low_of (negsuc n) fits = sym (ap unsigned_abs (int_rem_euclid_is (negsuc n) (pos (2 ^ 32)) (2 ^ 32) (2 ^ 32)
    (2 ^ 64 - suc n) (lit< tt) refl (omega (arith, ints))))

signed_most : (n : ℕ) → n < 2 ^ 32 → unsigned_abs (to_z w32 n) ≤ 2 ^ 31
signed_most n word = omega (arith, ints)

signed_fits : (a b : ℕ) → a < 2 ^ 32 → b < 2 ^ 32 → FitsSigned w64 (to_z w32 a *ℤ to_z w32 b)
signed_fits a b wa wb =
    fits_signed_mul w64 (to_z w32 a) (to_z w32 b) (2 ^ 31) (2 ^ 31) (signed_most a wa) (signed_most b wb) (lit< tt)

pub low_product : (a b : ℕ) → a < 2 ^ 32 → b < 2 ^ 32 → low_word (product a b) ≡ product_of a b
unfolding int_wrap
low_product a b wa wb =
    let z = to_z w32 a *ℤ to_z w32 b in
    let low = low_of z (signed_fits a b wa wb) in
    let small : unsigned_abs (int_rem_euclid z (pos (2 ^ 32))) < 2 ^ 32 =
    subst (λ n. n < 2 ^ 32) low (mod-lt (of_z w64 z) (lit< tt)) in
    low ∙ sym (of_z-to_z w32 _ small) ∙ ap (of_z w32) (sym (wrapping_mul-bits w32 a b wa wb))
    ∙ of_z-to_z w32 ((a * b) % 2 ^ 32) (mod-lt (a * b) (lit< tt))
