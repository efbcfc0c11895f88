-- To be believed. Operations on words. A word is a number below 2^32. As a signed number it is itself below 2^31,
-- and itself less 2^32 from there on (two's complement). Sources: the arithmetic of the Patmos
-- Reference Handbook, and C's integer arithmetic where C decides; the quotients by 0 and of the least
-- number by -1, which C leaves undefined, are decided here once for the whole product.
use Rattle.std.specs.Prelude.{ℕ, ◌-◌, ◌*◌, ◌/◌, ◌%◌, ◌^◌, ◌*ℤ◌, ◌==◌, Bool, if◌then◌else◌, int_div, int_rem, int_lt, nat_lt}
use Rattle.std.specs.Int.{w32, w64, cast_signed, cast_unsigned}

-- the quotient of two signed words, cut off towards zero; 0 where the divisor is 0
abbrev pub quotient : ℕ → ℕ → ℕ
quotient a b = if b == 0 then 0 else cast_unsigned w32 (int_div (cast_signed w32 a) (cast_signed w32 b))

-- what the signed quotient leaves of a; a itself where the divisor is 0
abbrev pub rest : ℕ → ℕ → ℕ
rest a b = if b == 0 then a else cast_unsigned w32 (int_rem (cast_signed w32 a) (cast_signed w32 b))

-- the quotient of unsigned words; 0 where the divisor is 0
abbrev pub quotient_unsigned : ℕ → ℕ → ℕ
quotient_unsigned a b = if b == 0 then 0 else a / b

abbrev pub rest_unsigned : ℕ → ℕ → ℕ
rest_unsigned a b = if b == 0 then a else a % b

-- the product of two signed words, as two's complement of 64 bits
abbrev pub product : ℕ → ℕ → ℕ
product a b = cast_unsigned w64 (cast_signed w32 a *ℤ cast_signed w32 b)

-- the low word and the high word of a number of 64 bits
abbrev pub low_word : ℕ → ℕ
low_word n = n % 2 ^ 32

abbrev pub high_word : ℕ → ℕ
high_word n = n / 2 ^ 32

-- a moved up by k mod 32 bits, the bits past the word lost
abbrev pub moved_up : ℕ → ℕ → ℕ
moved_up a k = (a * 2 ^ (k % 32)) % 2 ^ 32

-- a moved down by k mod 32 bits, zeros coming in
abbrev pub moved_down : ℕ → ℕ → ℕ
moved_down a k = a / 2 ^ (k % 32)

-- a moved down by k mod 32 bits, copies of its top bit coming in: zeros for a number below 2^31, and
-- else ones, which the complement to 2^32 - 1 turns into zeros and back
abbrev pub moved_down_signed : ℕ → ℕ → ℕ
moved_down_signed a k = if nat_lt a (2 ^ 31) then moved_down a k else 2 ^ 32 - 1 - moved_down (2 ^ 32 - 1 - a) k

-- a is less than b as signed numbers
abbrev pub is_less : ℕ → ℕ → Bool
is_less a b = int_lt (cast_signed w32 a) (cast_signed w32 b)
