-- To be believed. What C's operators make of words (C99 6.5). Signed arithmetic wraps, and shifts count modulo 32;
-- quotients by 0 and of the least number by -1 are decided with the words of tc_word.
use Rattle.std.specs.Prelude.{ℕ, ◌+◌, ◌-◌, ◌*◌, ◌%◌, ◌^◌, ◌==◌, Bool, not, if◌then◌else◌}

-- the `int` of a truth, and the truth of a word
abbrev pub flag : Bool → ℕ
flag b = if b then 1 else 0

abbrev pub is_true : ℕ → Bool
is_true a = not (a == 0)

abbrev pub sum_of : ℕ → ℕ → ℕ
sum_of a b = (a + b) % 2 ^ 32

abbrev pub difference_of : ℕ → ℕ → ℕ
difference_of a b = (a + (2 ^ 32 - b)) % 2 ^ 32

abbrev pub product_of : ℕ → ℕ → ℕ
product_of a b = (a * b) % 2 ^ 32

abbrev pub complement_of : ℕ → ℕ
complement_of a = 2 ^ 32 - 1 - a
