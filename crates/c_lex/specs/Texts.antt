-- To be believed. The tokens of a text: it is cut into pieces, each of which begins where the one before it ends (C99
-- 5.1.1.2, translation phase 3), and its tokens are those among the pieces.
use Rattle.std.specs.Prelude.{◌≡◌, ℕ, zero, suc, ◌+◌, ◌==◌, nat_le, if◌then◌else◌, List, [], ◌∷◌, take, drop, length, slice_index, bytes_eq, codes, None, Some}
use Rattle.c_lex.specs.declared.classes.Class.TheVariants.{Name}
use Rattle.c_lex.specs.declared.pieces.Piece.{Piece}
use Rattle.c_lex.specs.declared.pieces.Piece.TheVariants.{Between, Is, Bad, Wide}
use Rattle.c_lex.specs.declared.faults.LexFault.{LexFault}
use Rattle.c_lex.specs.declared.faults.LexFault.TheVariants.{Char, Wide as WideFault, Memory}
use Rattle.c_tree.specs.declared.tokens.Token.{Token}
use Rattle.c_lex.specs.Bytes.{is_blank, begins_name, is_digit, run}
use Rattle.c_lex.specs.Blanks.{comment_at, begins_line}
use Rattle.c_lex.specs.Names.{word_of}
use Rattle.c_lex.specs.Numbers.{number_at}
use Rattle.c_lex.specs.Signs.{sign_at}
use Rattle.c_lex.specs.Bounds.{word_bound, line_bound}
use Rattle.c_lex.specs.Pieces.{or_bad}

-- a name, with all the bytes of a name that follow one another; `_Pragma` begins a bound and is none
abbrev pub name_at : List ℕ → Piece
name_at bs =
    if bytes_eq (take (run Name bs) bs) (codes "_Pragma") then or_bad (word_bound bs)
    else Is (word_of (take (run Name bs) bs)) (run Name bs)

-- a line's bound begins at the first `#` on its line
abbrev pub pragma_at : List ℕ → List ℕ → Piece
pragma_at before bs = if begins_line before then or_bad (line_bound bs) else Bad

-- a comment, or else a sign
abbrev pub comment_or_sign_at : List ℕ → Piece
comment_or_sign_at bs = elim (comment_at bs) [ Some p ↦ p | None ↦ sign_at bs ]

-- the piece that these bytes begin with, after those before them
unfoldable pub piece_after : List ℕ → List ℕ → Piece
piece_after before bs =
    let b = slice_index bs 0 in
    if is_blank b then Between 1
    else (if begins_name b then name_at bs
    else (if is_digit b then number_at bs
    else (if b == 35 then pragma_at before bs
    else comment_or_sign_at bs)))

-- the piece that begins at a place of a text
abbrev pub piece_at : List ℕ → ℕ → Piece
piece_at text at = piece_after (take at text) (drop at text)

-- the tokens of a text; or the first byte with which no piece begins; or the first byte of a number above 2^32 - 1
pub data Lexed : Type 0 where
  tokens : List Token → Lexed
  no_token : ℕ → Lexed
  too_wide : ℕ → Lexed

-- with a token before the others
abbrev pub preceded : Token → Lexed → Lexed
preceded t (tokens ts) = tokens (t ∷ ts)
preceded t (no_token at) = no_token at
preceded t (too_wide at) = too_wide at

-- what a text is from a place on where this piece begins, if we know what it is from any later place on
abbrev pub after_piece : ℕ → (ℕ → Lexed) → Piece → Lexed
after_piece at later (Between count) = later (at + count)
after_piece at later (Is t count) = preceded t (later (at + count))
after_piece at later Bad = no_token at
after_piece at later (Wide further) = too_wide (at + further)

-- what a text is from a place on, in so many pieces at most
abbrev pub lexed_from : ℕ → List ℕ → ℕ → Lexed
lexed_from zero text at = tokens []
lexed_from (suc pieces) text at =
    if nat_le (length text) at then tokens [] else after_piece at (lexed_from pieces text) (piece_at text at)

-- a text has a byte at least for each of its pieces
abbrev pub lexed : List ℕ → Lexed
lexed text = lexed_from (length text) text 0

-- the fault is what the text has in place of tokens; want of memory is the one free answer
abbrev pub Refuses : LexFault → Lexed → Type 0
Refuses (Char at) found = found ≡ no_token at
Refuses (WideFault at) found = found ≡ too_wide at
Refuses Memory found = Unit {0}
