-- To be believed. What begins at a place of a text. A token is a piece, and so is what
-- stands between tokens: a blank or a comment.
use Rattle.std.specs.Prelude.{ℕ, ◌<◌, ◌≤◌, Option, None, Some}
use Rattle.c_lex.specs.declared.pieces.Piece.{Piece}
use Rattle.c_lex.specs.declared.pieces.Piece.TheVariants.{Between, Is, Bad, Wide}

-- what begins here, where nothing else may
abbrev pub or_bad : Option Piece → Piece
or_bad None = Bad
or_bad (Some p) = p

-- a piece has a byte at least, and ends where the text does or before; so many bytes are left from its first on
abbrev pub IsWithin : Piece → ℕ → Type 0
IsWithin (Between count) left = (0 < count) × (count ≤ left)
IsWithin (Is t count) left = (0 < count) × (count ≤ left)
IsWithin Bad left = Unit {0}
IsWithin (Wide further) left = further ≤ left
