-- To be believed. Bytes of a text, by their classes, and what the bytes from a place on
-- begin with. Letters are those of ASCII.
use Rattle.std.specs.Prelude.{ℕ, suc, ◌==◌, Bool, true, false, not, ◌&&◌, ◌||◌, nat_le, if◌then◌else◌, List, [], ◌∷◌, Option, None, Some}
use Rattle.c_lex.specs.declared.classes.Class.{Class}
use Rattle.c_lex.specs.declared.classes.Class.TheVariants.{Digit, Hexadecimal, NameStart, Name, Blank, Space, Separator, InLine}

abbrev pub is_between : ℕ → ℕ → ℕ → Bool
is_between low high b = nat_le low b && nat_le b high

-- a digit (C99 6.4.2.1)
abbrev pub is_digit : ℕ → Bool
is_digit b = is_between 48 57 b

-- a hexadecimal digit (C99 6.4.4.1)
abbrev pub is_hexadecimal : ℕ → Bool
is_hexadecimal b = is_digit b || (is_between 65 70 b || is_between 97 102 b)

-- a letter or `_`, with which a name begins (C99 6.4.2.1)
abbrev pub begins_name : ℕ → Bool
begins_name b = is_between 65 90 b || (is_between 97 122 b || b == 95)

-- a letter, a digit or `_`, with which a name goes on
abbrev pub is_of_name : ℕ → Bool
is_of_name b = begins_name b || is_digit b

-- space, tab and carriage return, which end no line; our subset has neither form feed nor vertical tab
abbrev pub is_space : ℕ → Bool
is_space b = b == 32 || (b == 9 || b == 13)

-- those and newline, which separate tokens
abbrev pub is_blank : ℕ → Bool
is_blank b = b == 10 || is_space b

-- spaces and tabs, which separate the words of a bound
abbrev pub separates : ℕ → Bool
separates b = b == 32 || b == 9

-- whether a byte is of a class
abbrev pub passes : Class → ℕ → Bool
passes c b = elim c [
  | Digit ↦ is_digit b
  | Hexadecimal ↦ is_hexadecimal b
  | NameStart ↦ begins_name b
  | Name ↦ is_of_name b
  | Blank ↦ is_blank b
  | Space ↦ is_space b
  | Separator ↦ separates b
  | InLine ↦ not (b == 10)
]

-- how many bytes at the front are of a class
abbrev pub run : Class → List ℕ → ℕ
run c [] = 0
run c (b ∷ bs) = if passes c b then suc (run c bs) else 0

-- what follows this text, where the bytes begin with it
abbrev pub past : List ℕ → List ℕ → Option (List ℕ)
past [] bs = Some bs
past (a ∷ text) [] = None
past (a ∷ text) (b ∷ bs) = if a == b then past text bs else None

abbrev pub begins_with : List ℕ → List ℕ → Bool
begins_with text bs = elim (past text bs) [ None ↦ false | Some rest ↦ true ]
