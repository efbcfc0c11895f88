-- To be believed. A text as a list of statements. A newline ends each, and so does a `;` outside braces; a `#` begins a
-- comment, which goes to the end of its line. What holds nothing but blanks is no statement. The bytes
-- that stand before a byte on its line are listed from the nearest on.
use Rattle.std.specs.Prelude.{ℕ, ◌+◌, Bool, true, false, not, ◌&&◌, ◌||◌, ◌==◌, if◌then◌else◌, List, [], ◌∷◌, ◌++◌}
use Rattle.std.specs.List.{list_any}
use Rattle.patmos_forms.specs.Readers.{without_blanks}

-- a `#` stands before the byte
abbrev pub in_comment : List ℕ → Bool
in_comment before = list_any (λ b. b == 35) before

-- the nearest brace before the byte opens
abbrev pub in_braces : List ℕ → Bool
in_braces [] = false
in_braces (b ∷ before) = if b == 123 then true else (if b == 125 then false else in_braces before)

-- the byte ends the statement that it stands after: a newline, or a `;` in no braces and no comment
abbrev pub ends_statement : List ℕ → ℕ → Bool
ends_statement before b = b == 10 || (b == 59 && not (in_comment before || in_braces before))

-- a piece of text and the line that it stands on
abbrev pub Piece : Type 0
Piece = ℕ × List ℕ

-- the first piece with this text before its own
abbrev pub put_before : List ℕ → List Piece → List Piece
put_before prefix [] = []
put_before prefix (p ∷ ps) = (p.0, prefix ++ p.1) ∷ ps

-- the line of the byte after this one
abbrev pub line_after : ℕ → ℕ → ℕ
line_after line b = if b == 10 then line + 1 else line

-- what stands before the byte after this one on its line
abbrev pub before_next : ℕ → List ℕ → List ℕ
before_next b before = if b == 10 then [] else b ∷ before

-- a byte before the pieces of what follows it; a `#` belongs to its comment
abbrev pub with_byte : ℕ → List ℕ → ℕ → List Piece → List Piece
with_byte line before b rest = if ends_statement before b then (line, []) ∷ rest
    else (if in_comment (b ∷ before) then rest else put_before (b ∷ []) rest)

-- the pieces of a text that stands after these bytes of this line, without comments
abbrev pub pieces_of : ℕ → List ℕ → List ℕ → List Piece
pieces_of line before [] = (line, []) ∷ []
pieces_of line before (b ∷ bs) = with_byte line before b (pieces_of (line_after line b) (before_next b before) bs)

-- a piece that holds more than blanks, from its first byte that is none, before the others
abbrev pub kept : ℕ → List ℕ → List Piece → List Piece
kept line text others = from_first line (without_blanks text) others
  where
    from_first : ℕ → List ℕ → List Piece → List Piece
    from_first line [] others = others
    from_first line (b ∷ bs) others = (line, b ∷ bs) ∷ others

-- the pieces that hold more than blanks
abbrev pub not_blank : List Piece → List Piece
not_blank [] = []
not_blank (p ∷ ps) = kept p.0 p.1 (not_blank ps)

-- the statements of a text that begins on this line
abbrev pub statements_of : ℕ → List ℕ → List Piece
statements_of line text = not_blank (pieces_of line [] text)
