-- To be believed. The bound of a loop, which our subset writes in two forms: as a pragma of C99 6.10.6
-- on a line of its own, and by the operator of C99 6.10.9. The forms are literal: their words are
-- separated by spaces and tabs, and by nothing else.
use Rattle.std.specs.Prelude.{ℕ, ◌-◌, ◌==◌, ◌&&◌, nat_lt, if◌then◌else◌, List, take, drop, length, slice_index, codes, Option, None, Some}
use Rattle.c_lex.specs.declared.bounds.BoundNumber.{BoundNumber as Held}
use Rattle.c_lex.specs.declared.classes.Class.TheVariants.{Digit, Separator}
use Rattle.c_lex.specs.declared.numbers.Radix.TheVariants.{Decimal}
use Rattle.c_lex.specs.declared.pieces.Piece.{Piece}
use Rattle.c_lex.specs.declared.pieces.Piece.TheVariants.{Is, Wide}
use Rattle.c_tree.specs.declared.tokens.Token.TheVariants as token
use Rattle.c_lex.specs.Bytes.{is_digit, separates, run, past}
use Rattle.c_lex.specs.Blanks.{ends_line}
use Rattle.c_lex.specs.Numbers.{number_of, word_value}

abbrev pub and_then : {A B : Type 0} → Option A → (A → Option B) → Option B
and_then None f = None
and_then (Some a) f = f a

-- what follows one space or tab or more
abbrev pub past_gap : List ℕ → Option (List ℕ)
past_gap bs = if separates (slice_index bs 0) then Some (drop (run Separator bs) bs) else None

-- how many digits a number of a bound has: none with a zero before another digit
abbrev pub digits_in_bound : List ℕ → Option ℕ
digits_in_bound bs =
    if is_digit (slice_index bs 0)
    then (if nat_lt 1 (run Digit bs) && slice_index bs 0 == 48 then None else Some (run Digit bs))
    else None

-- a number of a bound: its value, if it is at most 2^32 - 1, how many bytes are
-- left from its first on, and what follows
pub record BoundNumber : Type 0 where
  pub value : Option ℕ
  pub left : ℕ
  pub rest : List ℕ

-- as the code holds it
abbrev pub shown : Held → BoundNumber
shown n = record { value = n.value; left = n.left; rest = n.rest.now }

-- the number after a word
abbrev pub number_after : List ℕ → List ℕ → Option BoundNumber
number_after word bs =
    and_then (past word bs) (λ a. and_then (past_gap a) (λ b. and_then (digits_in_bound b) (λ count. Some (record {
      value = word_value (number_of Decimal 0 (take count b));
      left = length b;
      rest = drop count b;
    }))))

-- `loopbound min A max B`: both numbers
abbrev pub bound_text : List ℕ → Option (BoundNumber × BoundNumber)
bound_text bs =
    and_then (past (codes "loopbound") bs)
    (λ a. and_then (past_gap a) (λ b. and_then (number_after (codes "min") b) (λ low.
    and_then (past_gap low.rest) (λ c. and_then (number_after (codes "max") c) (λ high. Some (low, high))))))

-- a bound that begins where so many bytes are left, and ends where so many are left; or the number that is too great
abbrev pub bound_piece : ℕ → ℕ → BoundNumber × BoundNumber → Piece
bound_piece left after b = elim b.0.value [
  | None ↦ Wide (left - b.0.left)
  | Some low ↦ elim b.1.value [ None ↦ Wide (left - b.1.left) | Some high ↦ Is (token.Bound low high) (left - after) ]
]

-- `_Pragma("loopbound min A max B")`
abbrev pub word_bound : List ℕ → Option Piece
word_bound bs =
    and_then (past (codes "_Pragma(\"") bs)
    (λ a. and_then (bound_text a) (λ b. and_then (past (codes "\")") b.1.rest) (λ c.
    Some (bound_piece (length bs) (length c) b))))

-- `#pragma loopbound min A max B`, after which the line ends
abbrev pub line_bound : List ℕ → Option Piece
line_bound bs =
    and_then (past (codes "#pragma") bs) (λ a. and_then (past_gap a) (λ b. and_then (bound_text b) (λ t.
    if ends_line t.1.rest then Some (bound_piece (length bs) (length t.1.rest) t) else None)))
