-- To be believed. Words as eight lower-case hexadecimal digits.
use Rattle.std.specs.Prelude.{ℕ, ◌+◌, ◌/◌, ◌%◌, ◌^◌, nat_lt, List, [], ◌∷◌, if◌then◌else◌}

-- the character of a hexadecimal digit: 0 to 9, then a to f
abbrev pub hex_digit_of : ℕ → ℕ
hex_digit_of digit = if nat_lt digit 10 then 48 + digit else 87 + digit

-- the character of the digit that counts 16^place
abbrev pub hex_at : ℕ → ℕ → ℕ
hex_at place value = hex_digit_of (value / 16 ^ place % 16)

-- a word's eight digits, the highest first
abbrev pub hex8 : ℕ → List ℕ
hex8 value =
    hex_at 7 value ∷ hex_at 6 value ∷ hex_at 5 value ∷ hex_at 4 value ∷ hex_at 3 value ∷ hex_at 2 value
    ∷ hex_at 1 value ∷ hex_at 0 value ∷ []
