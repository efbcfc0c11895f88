-- To be believed. Numbers: decimal and hexadecimal constants (C99 6.4.4.1). Our subset has no
-- octal ones, and no suffix but `u` and `U`.
use Rattle.std.specs.Prelude.{ℕ, ◌+◌, ◌-◌, ◌*◌, ◌==◌, Bool, true, false, ◌&&◌, ◌||◌, nat_lt, nat_le, if◌then◌else◌, List, [], ◌∷◌, take, drop, slice_index, Option, None, Some}
use Rattle.c_lex.specs.declared.classes.Class.TheVariants.{Digit, Hexadecimal}
use Rattle.c_lex.specs.declared.numbers.Radix.{Radix}
use Rattle.c_lex.specs.declared.numbers.Radix.TheVariants.{Decimal, Hexadecimal as HexadecimalRadix}
use Rattle.c_lex.specs.declared.pieces.Piece.{Piece}
use Rattle.c_lex.specs.declared.pieces.Piece.TheVariants.{Is, Bad, Wide}
use Rattle.c_tree.specs.declared.tokens.Token.TheVariants as token
use Rattle.c_lex.specs.Bytes.{is_digit, is_hexadecimal, is_of_name, run}

-- what a digit stands for, of either kind
abbrev pub digit_of : ℕ → ℕ
digit_of b = if is_digit b then b - 48 else (if nat_le b 70 then b - 55 else b - 87)

abbrev pub base_of : Radix → ℕ
base_of r = elim r [ Decimal ↦ 10 | HexadecimalRadix ↦ 16 ]

-- the number that these digits write, after those of a number
abbrev pub number_of : Radix → ℕ → List ℕ → ℕ
number_of r value [] = value
number_of r value (b ∷ bs) = number_of r (value * base_of r + digit_of b) bs

-- a number that is at most 2^32 - 1
abbrev pub word_value : ℕ → Option ℕ
word_value n = if nat_lt n 4294967296 then Some n else None

-- a number that is written with so many bytes: it is unsigned by its suffix, or where it passes 2^31 - 1
abbrev pub number_token : Option ℕ → Bool → ℕ → Piece
number_token None suffix count = Wide 0
number_token (Some n) suffix count = Is (token.Number n (suffix || nat_lt 2147483647 n)) count

-- `u` or `U`
abbrev pub is_suffix : ℕ → Bool
is_suffix b = b == 117 || b == 85

-- a number of so many bytes with this value: its suffix may follow, and then no byte of a name
abbrev pub number_piece : Option ℕ → ℕ → List ℕ → Piece
number_piece value count behind =
    if is_suffix (slice_index behind 0)
    then (if is_of_name (slice_index behind 1) then Bad else number_token value true (count + 1))
    else (if is_of_name (slice_index behind 0) then Bad else number_token value false count)

-- whether these bytes begin a hexadecimal number: `0x` or `0X`, and a digit
abbrev pub is_hexadecimal_number : List ℕ → Bool
is_hexadecimal_number bs =
    slice_index bs 0 == 48 && ((slice_index bs 1 == 120 || slice_index bs 1 == 88) && is_hexadecimal (slice_index bs 2))

-- a decimal number of so many digits: none with a zero before another digit
abbrev pub decimal_at : ℕ → List ℕ → Piece
decimal_at count bs =
    if nat_lt 1 count && slice_index bs 0 == 48 then Bad
    else number_piece (word_value (number_of Decimal 0 (take count bs))) count (drop count bs)

-- a hexadecimal number of so many digits
abbrev pub hexadecimal_at : ℕ → List ℕ → Piece
hexadecimal_at count bs =
    number_piece (word_value (number_of HexadecimalRadix 0 (take count (drop 2 bs)))) (count
    + 2) (drop count (drop 2 bs))

-- the number that begins here, with all the digits that follow one another
abbrev pub number_at : List ℕ → Piece
number_at bs =
    if is_hexadecimal_number bs then hexadecimal_at (run Hexadecimal (drop 2 bs)) bs else decimal_at (run Digit bs) bs
