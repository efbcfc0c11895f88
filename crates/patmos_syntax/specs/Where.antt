-- For proofs. What the reader of statements keeps of the bytes before the one that it looks at: whether
-- that stands in a comment, in braces, or in neither.
use Rattle.std.specs.Prelude.{ℕ, Bool, true, false, ◌||◌, ◌==◌, if◌then◌else◌}
use Rattle.patmos_syntax.specs.declared.statements.Where.{Where}
use Rattle.patmos_syntax.specs.declared.statements.Where.TheVariants.{Plain, Braces, Comment}

-- the byte ends the statement
abbrev pub is_end : Where → ℕ → Bool
is_end Plain b = b == 10 || b == 59
is_end Braces b = b == 10
is_end Comment b = b == 10

-- where the byte after this one stands, in the same statement; the `#` itself is in the comment
abbrev pub after_byte : Where → ℕ → Where
after_byte Plain b = if b == 35 then Comment else (if b == 123 then Braces else Plain)
after_byte Braces b = if b == 35 then Comment else (if b == 125 then Plain else Braces)
after_byte Comment b = Comment

abbrev pub is_comment : Where → Bool
is_comment Plain = false
is_comment Braces = false
is_comment Comment = true
