-- To be believed. What C99 6.4 paragraph 4 says of the next token: it is the
-- longest sequence of bytes that could be one.
use Rattle.std.specs.Prelude.{◌≡◌, ◌≢◌, ℕ, ◌<◌, ◌≤◌, List, take, length}
use Rattle.c_lex.specs.declared.pieces.Piece.TheVariants.{Is}
use Rattle.c_tree.specs.declared.tokens.Token.{Token}
use Rattle.c_lex.specs.Texts.{piece_after}

-- these bytes, of which there are so many, are that token when they stand alone; and no more bytes are any token
pub record IsLongest (before bs : List ℕ) (t : Token) (count : ℕ) : Type 0 where
  pub alone : piece_after before (take count bs) ≡ Is t count
  pub longest : (more : ℕ) → count < more → more ≤ length bs → (u : Token)
      → piece_after before (take more bs) ≢ Is u more
