-- Pieces have a byte at least, and end in the text.
use Rattle.std.proofs.Common.{◌≡◌, ℕ, suc, ◌+◌, ◌<◌, ◌≤◌, ◌==◌, Bool, true, false, ◌&&◌, ◌||◌, refl, if◌then◌else◌, List, [], ◌∷◌, length, take, drop, nat_lt, arith, Option, None, Some, Result, Ok, Err, subst, sym, length-drop}
use Rattle.std.specs.Prelude.{slice_index, bytes_eq, codes, IfSome, IfOk}
use Rattle.std.specs.declared.alloc.AllocError.{AllocError}
use Rattle.c_lex.specs.declared.classes.Class.TheVariants.{Digit, Hexadecimal, Name, InLine}
use Rattle.c_lex.specs.declared.pieces.Piece.{Piece}
use Rattle.c_lex.specs.declared.pieces.Piece.TheVariants.{Between, Is, Bad}
use Rattle.c_lex.specs.declared.numbers.Radix.TheVariants.{Decimal, Hexadecimal as HexadecimalRadix}
use Rattle.c_lex.specs.Bytes.{is_blank, is_of_name, begins_name, is_digit, run, begins_with}
use Rattle.c_lex.specs.Blanks.{comment_length, comment_of, begins_line}
use Rattle.c_lex.specs.Names.{word_of}
use Rattle.c_lex.specs.Numbers.{number_of, word_value, is_suffix, number_token, number_piece, decimal_at, hexadecimal_at, number_at, is_hexadecimal_number}
use Rattle.c_lex.specs.Signs.{sign_at}
use Rattle.c_lex.specs.Bounds.{word_bound, line_bound}
use Rattle.c_lex.specs.Pieces.{or_bad, IsWithin}
use Rattle.c_lex.specs.Texts.{name_at, pragma_at, comment_or_sign_at, piece_after}
use Rattle.c_lex.proofs.SignSizes.{begins_long, sign_within}
use Rattle.c_lex.proofs.BoundPieces.{word_bound_within, line_bound_within}
use Rattle.c_lex.proofs.CutRuns.{run_within, run_some}

-- comments

comment_ends : (bs : List ℕ) → IfSome (comment_length bs) (λ n. n ≤ length bs)
comment_ends [] = tt
comment_ends (b ∷ []) =
    elim (b == 42) as (λ t. IfSome (if t && false then Some 2 else None) (λ n. n ≤ 1)) [ true ↦ tt | false ↦ tt ]
comment_ends (b ∷ c ∷ bs) = either (b == 42 && c == 47) (comment_length (c ∷ bs)) (comment_ends (c ∷ bs))
  where
    either : (t : Bool) (o : Option ℕ) → IfSome o (λ n. n ≤ length (c ∷ bs))
        → IfSome (if t then Some 2 else elim o [ None ↦ None | Some n ↦ Some (suc n) ]) (λ n. n ≤ length (b ∷ c ∷ bs))
    either true o h = omega arith
    either false None h = tt
    either false (Some n) h = omega (arith, h)

comment_within : (bs : List ℕ) → 2 ≤ length bs → IsWithin (comment_of (drop 2 bs)) (length bs)
comment_within bs two = either (comment_length (drop 2 bs)) (comment_ends (drop 2 bs))
  where
    either : (o : Option ℕ) → IfSome o (λ n. n ≤ length (drop 2 bs))
        → IsWithin (elim o [ None ↦ Bad | Some n ↦ Between (n + 2) ]) (length bs)
    either None h = tt
    either (Some n) h = (omega arith, omega (arith, h, two, length-drop 2 bs))

or_false : (a b : Bool) → a || b ≡ false → a ≡ false
or_false true b e = e
or_false false b e = refl

pub comment_or_sign_within : (bs : List ℕ) → 0 < length bs → is_blank (slice_index bs 0) ≡ false
    → IsWithin (comment_or_sign_at bs) (length bs)
comment_or_sign_within [] some in_line = absurd (omega arith)
comment_or_sign_within (b ∷ bs) some in_line =
    either (begins_with (codes "//") (b ∷ bs)) (begins_with (codes "/*") (b ∷ bs)) refl
  where
    either : (t u : Bool) → begins_with (codes "/*") (b ∷ bs) ≡ u
        → IsWithin (elim (if t then Some (Between (run InLine (b ∷ bs))) else
        (if u then Some (comment_of (drop 2 (b ∷ bs))) else None)) as (λ _. Piece) [
          | Some p ↦ p
          | None ↦ sign_at
              (b ∷ bs)
        ]) (length (b ∷ bs))
    either true u e = (run_some InLine b bs (rw (or_false (b == 10) _ in_line) refl), run_within InLine (b ∷ bs))
    either false true e = comment_within (b ∷ bs) (begins_long (codes "/*") (b ∷ bs) e)
    either false false e = sign_within (b ∷ bs) some

-- numbers

token_within : (value : Option ℕ) (suffix : Bool) (count left : ℕ) → 0 < count → count ≤ left
    → IsWithin (number_token value suffix count) left
token_within None suffix count left some within = omega arith
token_within (Some n) suffix count left some within = (some, within)

number_within : (value : Option ℕ) (count : ℕ) (behind : List ℕ) (left : ℕ) → 0 < count → count + length behind ≤ left
    → IsWithin (number_piece value count behind) left
number_within value count [] left some within = token_within value false count left some (omega (arith, within))
number_within value count (b ∷ bs) left some within =
    either (is_suffix b) (is_of_name (slice_index (b ∷ bs) 1)) (is_of_name b)
  where
    either : (t u v : Bool) → IsWithin (if t then (if u then Bad else number_token value true (count + 1)) else
        (if v then Bad else number_token value false count)) left
    either true true v = tt
    either true false v = token_within value true (count + 1) left (omega arith) (omega (arith, within))
    either false u true = tt
    either false u false = token_within value false count left some (omega (arith, within))

decimal_within : (b : ℕ) (bs : List ℕ) → is_digit b ≡ true → IsWithin (decimal_at (run Digit (b ∷ bs)) (b ∷ bs))
    (length (b ∷ bs))
decimal_within b bs e =
    elim (nat_lt 1 (run Digit (b ∷ bs)) && b == 48) as (λ t. IsWithin (if t then Bad else number_piece
    (word_value (number_of Decimal 0 (take (run Digit (b ∷ bs)) (b ∷ bs)))) (run Digit (b ∷ bs))
    (drop (run Digit (b ∷ bs)) (b ∷ bs))) (length (b ∷ bs))) [
      | true ↦ tt
      | false ↦ number_within (word_value (number_of Decimal 0 (take (run Digit (b ∷ bs)) (b ∷ bs))))
          (run Digit (b ∷ bs)) (drop (run Digit (b ∷ bs)) (b ∷ bs)) (length (b ∷ bs)) (run_some Digit b bs e)
          (omega (arith, run_within Digit (b ∷ bs), length-drop (run Digit (b ∷ bs)) (b ∷ bs)))
    ]

hexadecimal_within : (bs : List ℕ) → 2 ≤ length bs → IsWithin (hexadecimal_at (run Hexadecimal (drop 2 bs))
    bs) (length bs)
hexadecimal_within bs two =
    number_within (word_value (number_of HexadecimalRadix 0 (take (run Hexadecimal (drop 2 bs)) (drop 2 bs))))
    (run Hexadecimal (drop 2 bs) + 2) (drop (run Hexadecimal (drop 2 bs)) (drop 2 bs)) (length bs) (omega arith)
    (omega (
      arith,
      two,
      run_within Hexadecimal (drop 2 bs),
      length-drop 2 bs,
      length-drop (run Hexadecimal (drop 2 bs)) (drop 2 bs),
    ))

-- the bytes past the end are told as 0, with which no prefix is written
hexadecimal_long : (bs : List ℕ) → is_hexadecimal_number bs ≡ true → 2 ≤ length bs
hexadecimal_long [] e = cc
hexadecimal_long (b ∷ []) e = absurd (either (b == 48) e)
  where
    either : (t : Bool) → t && false ≡ true → ⊥
    either true e = cc
    either false e = cc
hexadecimal_long (b ∷ c ∷ bs) e = omega arith

pub number_at_within : (bs : List ℕ) → 0 < length bs → is_digit (slice_index bs 0) ≡ true
    → IsWithin (number_at bs) (length bs)
number_at_within [] some e = absurd (omega arith)
number_at_within (b ∷ bs) some e = either (is_hexadecimal_number (b ∷ bs)) (hexadecimal_long (b ∷ bs))
  where
    either : (t : Bool) → (t ≡ true → 2 ≤ length (b ∷ bs))
        → IsWithin (if t then hexadecimal_at (run Hexadecimal (drop 2 (b ∷ bs))) (b ∷ bs) else decimal_at
        (run Digit (b ∷ bs)) (b ∷ bs)) (length (b ∷ bs))
    either true long = hexadecimal_within (b ∷ bs) (long refl)
    either false long = decimal_within b bs e

-- names

or_bad_within : (o : Option Piece) (left : ℕ) → ((p : Piece) → o ≡ Some p → IsWithin p left) → IsWithin (or_bad o) left
or_bad_within None left h = tt
or_bad_within (Some p) left h = h p refl

pub name_within : (bs : List ℕ) → 0 < length bs → begins_name (slice_index bs 0) ≡ true
    → IsWithin (name_at bs) (length bs)
name_within [] some e = absurd (omega arith)
name_within (b ∷ bs) some e = either (bytes_eq (take (run Name (b ∷ bs)) (b ∷ bs)) (codes "_Pragma"))
  where
    either : (t : Bool) → IsWithin (if t then or_bad (word_bound (b ∷ bs)) else Is
        (word_of (take (run Name (b ∷ bs)) (b ∷ bs))) (run Name (b ∷ bs))) (length (b ∷ bs))
    either true = or_bad_within (word_bound (b ∷ bs)) (length (b ∷ bs)) (word_bound_within (b ∷ bs))
    either false = (run_some Name b bs (rw e refl), run_within Name (b ∷ bs))

pub pragma_within : (before bs : List ℕ) → IsWithin (pragma_at before bs) (length bs)
pragma_within before bs =
    elim (begins_line before) as (λ t. IsWithin (if t then or_bad (line_bound bs) else Bad) (length bs)) [
      | true ↦ or_bad_within (line_bound bs) (length bs) (line_bound_within bs)
      | false ↦ tt
    ]

-- all of them

-- what is known of a piece, if there is memory for it
pub ok_within : (r : Result Piece AllocError) (p : Piece) (left : ℕ) → IfOk r (λ q. q ≡ p) → IsWithin p left
    → IfOk r (λ q. IsWithin q left)
ok_within (Ok q) p left same within = let W : Piece → Type 0 = λ x. IsWithin x left in subst W (sym same) within
ok_within (Err e) p left same within = tt

pub piece_within : (before bs : List ℕ) → 0 < length bs → IsWithin (piece_after before bs) (length bs)
unfolding piece_after
piece_within before bs some = either (is_blank b) (begins_name b) (is_digit b) (b == 35) refl refl refl
  where
    b : ℕ
    b = slice_index bs 0

    either : (t u v w : Bool) → is_blank b ≡ t → begins_name b ≡ u → is_digit b ≡ v
        → IsWithin (if t then Between 1 else
        (if u then name_at bs else (if v then number_at bs else
        (if w then pragma_at before bs else comment_or_sign_at bs)))) (length bs)
    either true u v w e f g = (omega arith, omega (arith, some))
    either false true v w e f g = name_within bs some f
    either false false true w e f g = number_at_within bs some g
    either false false false true e f g = pragma_within before bs
    either false false false false e f g = comment_or_sign_within bs some e
