-- To be believed. The operands of an instruction: pieces that stand one after another, with blanks between them as one
-- likes.
use Rattle.std.specs.Prelude.{ℕ, if◌then◌else◌, List, [], ◌∷◌, ◌++◌, take, bytes_eq, position, codes, Option, Some, None, option_map}
use Rattle.patmos_forms.specs.Readers.{◌>>=◌, written_number, numbered, word_at, sign_at, at_end}

-- a piece; each but a sign stands for a number
pub data Token : Type 0 where
  -- `r` and its number
  register : Token
  -- `p` and its number
  predicate : Token
  -- 1 where there is a `!`, and 0 where there is none
  negation : Token
  -- a number
  number : Token
  -- `+` and a number, or 0 where there is none
  offset : Token
  -- a special register's name, and one of those that can be written
  special : Token
  writable : Token
  -- this sign
  sign : ℕ → Token

-- the names of the special registers, in the order of their numbers; the first five can be written
abbrev pub special_names : List (List ℕ)
special_names = codes "s0" ∷ codes "sl" ∷ codes "sh" ∷ codes "srb" ∷ codes "sro" ∷ codes "st" ∷ codes "ss" ∷ []

-- a number and what stands after it: of a number, of a letter and a number, of one of these names
abbrev pub number_at : List ℕ → Option (ℕ × List ℕ)
number_at text = option_map (λ n. (n, (word_at text).1)) (written_number (word_at text).0)

abbrev pub numbered_at : ℕ → List ℕ → Option (ℕ × List ℕ)
numbered_at letter text = option_map (λ n. (n, (word_at text).1)) (numbered letter (word_at text).0)

abbrev pub named_at : List (List ℕ) → List ℕ → Option (ℕ × List ℕ)
named_at names text = option_map (λ n. (n, (word_at text).1)) (position (bytes_eq (word_at text).0) names)

-- a `!`, or none
abbrev pub negation_at : List ℕ → ℕ × List ℕ
negation_at text = behind text (sign_at 33 text)
  where
    behind : List ℕ → Option (List ℕ) → ℕ × List ℕ
    behind text (Some rest) = (1, rest)
    behind text None = (0, text)

-- a `+` and a number, or none
abbrev pub offset_at : List ℕ → Option (ℕ × List ℕ)
offset_at text = behind text (sign_at 43 text)
  where
    behind : List ℕ → Option (List ℕ) → Option (ℕ × List ℕ)
    behind text (Some rest) = number_at rest
    behind text None = Some (0, text)

-- the number of a piece, and what stands after it
abbrev pub value_at : Token → List ℕ → Option (ℕ × List ℕ)
value_at register text = numbered_at 114 text
value_at predicate text = numbered_at 112 text
value_at negation text = Some (negation_at text)
value_at number text = number_at text
value_at offset text = offset_at text
value_at special text = named_at special_names text
value_at writable text = named_at (take 5 special_names) text
value_at (sign s) text = option_map (λ rest. (s, rest)) (sign_at s text)

-- the numbers of these pieces, after those before them, and what stands after the last piece
abbrev pub read_after : List ℕ → List Token → List ℕ → Option (List ℕ × List ℕ)
read_after before [] text = Some (before, text)
read_after before (sign s ∷ ts) text = sign_at s text >>= λ rest. read_after before ts rest
read_after before (t ∷ ts) text = value_at t text >>= λ v. read_after (before ++ v.0 ∷ []) ts v.1

-- the numbers of these pieces, after which nothing is left
abbrev pub read : List Token → List ℕ → Option (List ℕ)
read ts text = read_after [] ts text >>= λ r. if at_end r.1 then Some r.0 else None
