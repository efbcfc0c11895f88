-- To be believed. Signs: the punctuators of C99 6.4.6 without the digraphs. The
-- longest one is taken (C99 6.4 paragraph 4).
use Rattle.std.specs.Prelude.{ℕ, Bool, false, ◌||◌, if◌then◌else◌, List, [], ◌∷◌, codes, Option, None, Some}
use Rattle.c_lex.specs.declared.pieces.Piece.{Piece}
use Rattle.c_lex.specs.declared.pieces.Piece.TheVariants.{Is, Bad}
use Rattle.c_tree.specs.declared.tokens.Token.TheVariants as token
use Rattle.c_tree.specs.declared.tokens.Sign.{Sign}
use Rattle.c_tree.specs.declared.tokens.Sign.TheVariants as sign
use Rattle.c_lex.specs.Bytes.{begins_with}

-- the signs of three bytes, none of which has a meaning here
abbrev pub longest_signs : List (List ℕ)
longest_signs = codes "<<=" ∷ codes ">>=" ∷ []

-- the signs of two bytes, with what they mean, and those that have no meaning here
abbrev pub long_signs : List (List ℕ × Sign)
long_signs =
    (codes "==", sign.Equal) ∷ (codes "!=", sign.NotEqual) ∷ (codes "<=", sign.LessEqual)
    ∷ (codes ">=", sign.GreaterEqual) ∷ (codes "<<", sign.ShiftLeft) ∷ (codes ">>", sign.ShiftRight)
    ∷ (codes "&&", sign.And) ∷ (codes "||", sign.Or) ∷ []

abbrev pub unused_signs : List (List ℕ)
unused_signs =
    codes "++" ∷ codes "--" ∷ codes "->" ∷ codes "+=" ∷ codes "-=" ∷ codes "*=" ∷ codes "/=" ∷ codes "%=" ∷ codes "&="
    ∷ codes "|=" ∷ codes "^=" ∷ []

-- the signs of one byte
abbrev pub short_signs : List (List ℕ × Sign)
short_signs =
    (codes "(", sign.OpenParenthesis) ∷ (codes ")", sign.CloseParenthesis) ∷ (codes "[", sign.OpenBracket)
    ∷ (codes "]", sign.CloseBracket)
    ∷ (codes "{", sign.OpenBrace) ∷ (codes "}", sign.CloseBrace) ∷ (codes ";", sign.Semicolon)
    ∷ (codes ",", sign.Comma) ∷ (codes "=", sign.Assign)
    ∷ (codes "~", sign.Tilde) ∷ (codes "!", sign.Exclamation) ∷ (codes "|", sign.BitOr) ∷ (codes "^", sign.BitXor)
    ∷ (codes "&", sign.BitAnd)
    ∷ (codes "<", sign.Less) ∷ (codes ">", sign.Greater) ∷ (codes "+", sign.Plus) ∷ (codes "-", sign.Minus)
    ∷ (codes "*", sign.Star)
    ∷ (codes "/", sign.Slash) ∷ (codes "%", sign.Percent) ∷ []

-- whether the bytes begin with one of these signs
abbrev pub begins_among : List (List ℕ) → List ℕ → Bool
begins_among [] bs = false
begins_among (t ∷ ts) bs = begins_with t bs || begins_among ts bs

-- the one of these signs that the bytes begin with
abbrev pub sign_among : List (List ℕ × Sign) → List ℕ → Option Sign
sign_among [] bs = None
sign_among (s ∷ ss) bs = if begins_with s.0 bs then Some s.1 else sign_among ss bs

-- the longest sign of C that begins here, of three bytes, of two or of one, if it has a meaning here
abbrev pub sign_at : List ℕ → Piece
sign_at bs = if begins_among longest_signs bs then Bad else elim (sign_among long_signs bs) [
  | Some s ↦ Is (token.Sign s) 2
  | None ↦ if begins_among unused_signs bs then Bad
      else elim (sign_among short_signs bs) [ Some s ↦ Is (token.Sign s) 1 | None ↦ Bad ]
]
