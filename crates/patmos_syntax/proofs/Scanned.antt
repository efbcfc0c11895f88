-- The pieces of a text, byte by byte, as the reader of statements finds them.
use Rattle.std.proofs.Common.{◌≡◌, ◌∙◌, ℕ, Bool, true, false, cond, not, ◌&&◌, ◌||◌, ◌==◌, List, [], ◌∷◌, refl, sym, ap, subst, eqb-true, true≢false}
use Rattle.patmos_syntax.specs.declared.statements.Where.{Where}
use Rattle.patmos_syntax.specs.declared.statements.Where.TheVariants.{Plain, Braces, Comment}
use Rattle.patmos_syntax.specs.Statements.{Piece, in_comment, in_braces, line_after, put_before, before_next, pieces_of, not_blank, statements_of}
use Rattle.patmos_syntax.specs.Where.{is_end, after_byte, is_comment}

-- where a byte stands after these on its line
abbrev pub where_of : List ℕ → Where
where_of before = cond (in_comment before) Comment (cond (in_braces before) Braces Plain)

-- where the byte after this one stands, in this statement or the next
abbrev pub place_after : Where → ℕ → Where
place_after at b = cond (is_end at b) Plain (after_byte at b)

abbrev pub scanned : ℕ → Where → List ℕ → List Piece
scanned line at [] = (line, []) ∷ []
scanned line at (b ∷ bs) = cond (is_end at b) ((line, []) ∷ scanned (line_after line b) (place_after at b) bs)
    (cond (is_comment (after_byte at b)) (scanned (line_after line b) (place_after at b) bs)
    (put_before (b ∷ []) (scanned (line_after line b) (place_after at b) bs)))

ends_where : (b : ℕ) (comment braces : Bool) → (b == 10 || (b == 59 && not (comment || braces)))
    ≡ is_end (cond comment Comment (cond braces Braces Plain)) b
ends_where b true braces = by (b == 10) (b == 59)
  where
    by : (x y : Bool) → (x || (y && false)) ≡ x
    by true y = refl
    by false true = refl
    by false false = refl
ends_where b false true = by (b == 10) (b == 59)
  where
    by : (x y : Bool) → (x || (y && false)) ≡ x
    by true y = refl
    by false true = refl
    by false false = refl
ends_where b false false = by (b == 10) (b == 59)
  where
    by : (x y : Bool) → (x || (y && true)) ≡ (x || y)
    by true y = refl
    by false true = refl
    by false false = refl

comment_where : (b : ℕ) (comment braces : Bool) → (b == 35 || comment)
    ≡ is_comment (after_byte (cond comment Comment (cond braces Braces Plain)) b)
comment_where b true braces = by (b == 35)
  where
    by : (x : Bool) → (x || true) ≡ true
    by true = refl
    by false = refl
comment_where b false true = by (b == 35) (b == 125)
  where
    by : (x y : Bool) → (x || false) ≡ is_comment (cond x Comment (cond y Plain Braces))
    by true y = refl
    by false true = refl
    by false false = refl
comment_where b false false = by (b == 35) (b == 123)
  where
    by : (x y : Bool) → (x || false) ≡ is_comment (cond x Comment (cond y Braces Plain))
    by true y = refl
    by false true = refl
    by false false = refl

-- no byte is two
other_byte : (b c d : ℕ) → (c == d) ≡ false → (b == c) ≡ true → (b == d) ≡ false
other_byte b c d differ e = subst (λ x. (x == d) ≡ false) (sym (eqb-true b c e)) differ

-- where the byte after one that is no newline stands
byte_where : (b : ℕ) (comment braces : Bool) → (b == 10) ≡ false
    → cond (b == 35 || comment) Comment (cond (cond (b == 123) true (cond (b == 125) false braces)) Braces Plain)
    ≡ place_after (cond comment Comment (cond braces Braces Plain)) b
byte_where b true braces same_line = rw same_line (by (b == 35))
  where
    by : (number : Bool) → cond (number || true) Comment (cond (cond (b == 123) true (cond (b == 125) false braces))
        Braces Plain) ≡ Comment
    by true = refl
    by false = refl
byte_where b false true same_line = rw same_line (by (b == 35) (b == 123) (b == 125) (other_byte b 123 125 refl))
  where
    by : (number opens closes : Bool) → (opens ≡ true → closes ≡ false)
        → cond (number || false) Comment (cond (cond opens true (cond closes false true)) Braces Plain)
        ≡ cond number Comment (cond closes Plain Braces)
    by true opens closes other = refl
    by false true true other = absurd (true≢false (other refl))
    by false true false other = refl
    by false false true other = refl
    by false false false other = refl
byte_where b false false same_line =
    rw same_line (by (b == 59) (b == 35) (b == 123) (b == 125) (other_byte b 59 35 refl) (other_byte b 59 123 refl))
  where
    by : (ends number opens closes : Bool) → (ends ≡ true → number ≡ false) → (ends ≡ true → opens ≡ false)
        → cond (number || false) Comment (cond (cond opens true (cond closes false false)) Braces Plain)
        ≡ cond ends Plain (cond number Comment (cond opens Braces Plain))
    by true true opens closes other another = absurd (true≢false (other refl))
    by true false true closes other another = absurd (true≢false (another refl))
    by true false false true other another = refl
    by true false false false other another = refl
    by false true opens closes other another = refl
    by false false true closes other another = refl
    by false false false true other another = refl
    by false false false false other another = refl

newline_where : (at : Where) (b : ℕ) → (b == 10) ≡ true → place_after at b ≡ Plain
newline_where Plain b newline = rw newline refl
newline_where Braces b newline = rw newline refl
newline_where Comment b newline = rw newline refl

-- the next byte stands where the reader says
next_where : (b : ℕ) (before : List ℕ) → where_of (before_next b before) ≡ place_after (where_of before) b
next_where b before = by (b == 10) refl
  where
    by : (newline : Bool) → (b == 10) ≡ newline → where_of (cond newline [] (b ∷ before))
        ≡ place_after (where_of before) b
    by true e = sym (newline_where (where_of before) b e)
    by false e = byte_where b (in_comment before) (in_braces before) e

-- the pieces are those that the reader finds
scanned_pieces : (line : ℕ) (before text : List ℕ) → pieces_of line before text ≡ scanned line (where_of before) text
scanned_pieces line before [] = refl
scanned_pieces line before (b ∷ bs) =
    rw (ends_where b (in_comment before) (in_braces before), comment_where b (in_comment before) (in_braces before))
    (ap (λ rest. cond (is_end (where_of before) b) ((line, []) ∷ rest)
    (cond (is_comment (after_byte (where_of before) b)) rest (put_before (b ∷ []) rest)))
    (scanned_pieces (line_after line b) (before_next b before) bs ∙ ap (λ at. scanned (line_after line b) at bs)
    (next_where b before)))

pub statements_scanned : (line : ℕ) (text : List ℕ) → statements_of line text ≡ not_blank (scanned line Plain text)
statements_scanned line text = ap not_blank (scanned_pieces line [] text)
