-- To be believed. What stands between tokens: blanks and comments (C99 6.4 and 6.4.9). And what stands
-- on a line, for the bounds that are lines.
use Rattle.std.specs.Prelude.{ℕ, suc, ◌+◌, ◌==◌, Bool, true, ◌&&◌, if◌then◌else◌, List, [], ◌∷◌, reverse, drop, slice_index, codes, Option, None, Some}
use Rattle.c_lex.specs.declared.pieces.Piece.{Piece}
use Rattle.c_lex.specs.declared.pieces.Piece.TheVariants.{Between, Bad}
use Rattle.c_lex.specs.declared.classes.Class.TheVariants.{InLine}
use Rattle.c_lex.specs.Bytes.{is_space, run, begins_with}

-- how many bytes there are up to the first `*/` and with it, if there is one
abbrev pub comment_length : List ℕ → Option ℕ
comment_length [] = None
comment_length (b ∷ bs) =
    if b == 42 && slice_index bs 0 == 47 then Some 2
    else elim (comment_length bs) [ None ↦ None | Some n ↦ Some (suc n) ]

-- a comment that begins with `/*` right before these bytes: it ends with the first `*/` among them, and is none without
abbrev pub comment_of : List ℕ → Piece
comment_of text = elim (comment_length text) [ None ↦ Bad | Some n ↦ Between (n + 2) ]

-- the comment that begins here, if one does: `//` begins one up to the end of its line
abbrev pub comment_at : List ℕ → Option Piece
comment_at bs =
    if begins_with (codes "//") bs then Some (Between (run InLine bs))
    else (if begins_with (codes "/*") bs then Some (comment_of (drop 2 bs)) else None)

-- whether only spaces come before the end of the line, which the end of the text is too
abbrev pub ends_line : List ℕ → Bool
ends_line [] = true
ends_line (b ∷ bs) = if b == 10 then true else (is_space b && ends_line bs)

-- whether only spaces stand on the line so far, after these bytes: the same, read backwards
abbrev pub begins_line : List ℕ → Bool
begins_line before = ends_line (reverse before)
