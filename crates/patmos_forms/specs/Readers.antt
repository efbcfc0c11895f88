-- To be believed. The pieces of a statement of assembly text. Bytes are ASCII codes. Source: our own assembly text,
-- which docs/ASSEMBLY.md states.
use Rattle.std.specs.Prelude.{ℕ, ◌+◌, ◌-◌, ◌*◌, Bool, false, ◌&&◌, ◌||◌, ◌==◌, nat_le, if◌then◌else◌, List, [], ◌∷◌, length, take, drop, Option, Some, None}
use Rattle.std.specs.List.{list_all}
use Rattle.patmos_forms.specs.declared.readers.Radix.{Radix}
use Rattle.patmos_forms.specs.declared.readers.Radix.TheVariants.{Decimal, Hexadecimal}

infixl 10 ◌>>=◌
-- goes on with the value, where there is one
abbrev pub ◌>>=◌ : {A B : Type 0} → Option A → (A → Option B) → Option B
None >>= f = None
(Some x) >>= f = f x

-- a space, a tab or a carriage return: what may stand between any two pieces
abbrev pub is_blank : ℕ → Bool
is_blank b = b == 32 || b == 9 || b == 13

-- the text without the blanks at its front
abbrev pub without_blanks : List ℕ → List ℕ
without_blanks [] = []
without_blanks (b ∷ bs) = if is_blank b then without_blanks bs else b ∷ bs

abbrev pub is_between : ℕ → ℕ → ℕ → Bool
is_between low high b = nat_le low b && nat_le b high

abbrev pub is_digit : ℕ → Bool
is_digit b = is_between 48 57 b

-- a letter or an underscore, which a name begins with
abbrev pub begins_name : ℕ → Bool
begins_name b = is_between 65 90 b || is_between 97 122 b || b == 95

-- a byte of a name after its first
abbrev pub is_in_name : ℕ → Bool
is_in_name b = begins_name b || is_digit b

-- a byte of a word: two words that touch are one. The dot belongs to `.func`
abbrev pub is_in_word : ℕ → Bool
is_in_word b = is_in_name b || b == 46

-- how long the word at the front is
abbrev pub word_len : List ℕ → ℕ
word_len [] = 0
word_len (b ∷ bs) = if is_in_word b then word_len bs + 1 else 0

-- the word is a name
abbrev pub is_name : List ℕ → Bool
is_name [] = false
is_name (b ∷ bs) = begins_name b && list_all is_in_name bs

-- the value of a digit: decimal, or hexadecimal in either case
abbrev pub digit_of : Radix → ℕ → Option ℕ
digit_of Decimal b = if is_digit b then Some (b - 48) else None
digit_of Hexadecimal b = if is_digit b then Some (b - 48)
    else (if is_between 97 102 b then Some (b - 87) else (if is_between 65 70 b then Some (b - 55) else None))

abbrev pub base_of : Radix → ℕ
base_of Decimal = 10
base_of Hexadecimal = 16

-- the number that these digits write after digits whose number is `before`
abbrev pub value_after : Radix → ℕ → List ℕ → Option ℕ
value_after radix before [] = Some before
value_after radix before (b ∷ bs) = digit_of radix b >>= λ d. value_after radix (before * base_of radix + d) bs

abbrev pub value_of : Radix → List ℕ → Option ℕ
value_of radix [] = None
value_of radix (b ∷ bs) = value_after radix 0 (b ∷ bs)

-- the number that the word writes: decimal digits, or `0x` and hexadecimal ones
abbrev pub written_number : List ℕ → Option ℕ
written_number (b ∷ c ∷ digits) =
    if b == 48 && c == 120 then value_of Hexadecimal digits else value_of Decimal (b ∷ c ∷ digits)
written_number digits = value_of Decimal digits

-- the number after the letter of a register (r) or a predicate (p), which is written as numbers are
abbrev pub numbered : ℕ → List ℕ → Option ℕ
numbered letter [] = None
numbered letter (b ∷ digits) = if b == letter then written_number digits else None

-- the word at the front and what stands after it
abbrev pub word_at : List ℕ → List ℕ × List ℕ
word_at text = let t = without_blanks text in (take (word_len t) t, drop (word_len t) t)

-- what stands after this sign at the front, with no blank before it, and with some
abbrev pub sign_in_front : ℕ → List ℕ → Option (List ℕ)
sign_in_front sign [] = None
sign_in_front sign (b ∷ bs) = if b == sign then Some bs else None

abbrev pub sign_at : ℕ → List ℕ → Option (List ℕ)
sign_at sign text = sign_in_front sign (without_blanks text)

-- nothing but blanks is left
abbrev pub at_end : List ℕ → Bool
at_end text = length (without_blanks text) == 0
