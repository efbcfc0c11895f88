-- To be believed. The code of quotients and remainders by constants, which has no loop. By a power of two a word is moved
-- down, and what is left are its lowest digits. By others the upper word of a product is moved down, and what is left is
-- what that quotient times the divisor lacks.
use Rattle.std.specs.Prelude.{ℕ, ◌+◌, ◌-◌, ◌*◌, ◌/◌, ◌%◌, ◌^◌, ◌==◌, ◌&&◌, nat_lt, Bool, List, [], ◌∷◌, ◌++◌}
use Rattle.std.specs.Int.{w32, leading_zeros}
use Rattle.patmos_instr.specs.Bundles.{PlainBundle}
use Rattle.patmos_instr.specs.declared.functions.AluFunc.TheVariants as alu
use Rattle.patmos_instr.specs.declared.functions.CmpFunc.TheVariants as cmp
use Rattle.patmos_instr.specs.declared.functions.ImmFunc.TheVariants as imm
use Rattle.patmos_instr.specs.declared.specials.Special.TheVariants as special
use Rattle.sp_emit.specs.Instructions.{always, where_so, set_long, copy, with_short, compute, compare_short, multiply_unsigned, from_special}
use Rattle.sp_emit.specs.declared.registers.TheConstants.{DIVIDEND, DIVISOR, REMAINDER, TEST}

-- ---- divisors

-- the place of a number's highest digit in base 2, from 0 on
unfoldable pub highest : ℕ → ℕ
highest n = 31 - leading_zeros w32 n

unfoldable pub is_power : ℕ → Bool
is_power n = 2 ^ highest n == n

-- A quotient is the product with the divisor's factor, divided by the divisor's scale: so the lower word is left out, and
-- the upper one is moved down by so many digits
unfoldable pub moved : ℕ → ℕ
moved n = highest (n - 1)

unfoldable pub scale : ℕ → ℕ
scale n = 2 ^ (32 + moved n)

-- the scale divided by the divisor, rounded up; and by how much the factor times the divisor is more than the scale
unfoldable pub factor : ℕ → ℕ
factor n = (scale n - 1) / n + 1

unfoldable pub surplus : ℕ → ℕ
surplus n = n - 1 - (scale n - 1) % n

-- the factor is a word, and the surplus is too small to change the quotient of any dividend up to the greatest
unfoldable pub is_exact : ℕ → ℕ → Bool
is_exact greatest n = nat_lt 1 n && (nat_lt (factor n) (2 ^ 32) && nat_lt (surplus n * greatest) (scale n))

-- ---- words without signs

-- by powers of two; the quotient, and what is left
abbrev pub power_quotient_to : ℕ → ℕ → ℕ → List PlainBundle
power_quotient_to rd ra n = with_short always imm.Sr rd ra (highest n) ∷ []

abbrev pub power_rest_to : ℕ → ℕ → ℕ → List PlainBundle
power_rest_to rd ra n = with_short always imm.And rd ra (n - 1) ∷ []

-- by others; the quotient, and what is left
abbrev pub factor_quotient_to : ℕ → ℕ → ℕ → List PlainBundle
factor_quotient_to rd ra n =
    set_long DIVISOR (factor n)
    ∷ multiply_unsigned ra DIVISOR
    ∷ from_special rd special.Sh
    ∷ with_short always imm.Sr rd rd (moved n)
    ∷ []

unfoldable pub factor_rest_to : ℕ → ℕ → ℕ → List PlainBundle
factor_rest_to rd ra n =
    set_long DIVISOR (factor n)
    ∷ multiply_unsigned ra DIVISOR
    ∷ from_special REMAINDER special.Sh
    ∷ with_short always imm.Sr REMAINDER REMAINDER (moved n)
    ∷ set_long DIVISOR n
    ∷ multiply_unsigned REMAINDER DIVISOR
    ∷ from_special REMAINDER special.Sl
    ∷ compute always alu.Sub rd ra REMAINDER
    ∷ []

-- ---- signed words

-- a word is divided without its sign, which what comes of it gets
abbrev pub signed_to : ℕ → ℕ → List PlainBundle → List PlainBundle
signed_to rd ra code =
    compare_short cmp.Btest TEST ra 31
    ∷ copy DIVIDEND ra
    ∷ compute (where_so TEST) alu.Sub DIVIDEND 0 DIVIDEND
    ∷ code
    ++ compute (where_so TEST) alu.Sub rd 0 rd
    ∷ []
