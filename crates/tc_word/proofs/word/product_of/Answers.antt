use Rattle.std.proofs.Common.{rules, ◌≡◌, ◌∙◌, ◌≤◌, ◌^◌, arith, w32, w64, ℤ, ◌*ℤ◌, to_z, of_z, lit<, unsigned_abs, FitsSigned, pos, negsuc}
use Rattle.std.proofs.lemmas.Int.{to_z-of_z, fits_signed_mul}
use Rattle.tc_word.proofs.word.product_of.Goals as goal

-- a signed word is at most 2^31 from 0
unsigned_abs-word : (x : ℤ) → FitsSigned w32 x → unsigned_abs x ≤ 2 ^ 31
unsigned_abs-word (pos n) fits = omega arith
unsigned_abs-word (negsuc n) fits = omega arith

-- two signed words, widened, have a product that fits 64 bits
widened-product : (x y : ℤ) → FitsSigned w32 x → FitsSigned w32 y
    → of_z w64 (to_z w64 (of_z w64 (to_z w64 (of_z w64 (to_z w32 (of_z w32 x))) *ℤ to_z w64
    (of_z w64 (to_z w32 (of_z w32 y)))))) ≡ of_z w64 (x *ℤ y)
widened-product x y fits_x fits_y =
    let wide_x : FitsSigned w64 x = search rules in
    let wide_y : FitsSigned w64 y = search rules in
    let wide : FitsSigned w64 (x *ℤ y) = fits_signed_mul w64 x y (2 ^ 31) (2 ^ 31) (unsigned_abs-word x fits_x)
    (unsigned_abs-word y fits_y) (lit< tt) in
    rw (
      to_z-of_z w32 x fits_x,
      to_z-of_z w32 y fits_y,
      to_z-of_z w64 x wide_x,
      to_z-of_z w64 y wide_y,
      to_z-of_z w64 (x *ℤ y) wide,
    )

pub returns : goal.returns
returns c =
    c.cast_unsigned.ensures
    ∙ widened-product c.cast_signed.result c.cast_signed-2.result (search rules) (search rules)
    ∙ rw (c.cast_signed.ensures, c.cast_signed-2.ensures)
