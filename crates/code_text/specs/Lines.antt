-- To be believed. The lines of an assembly text that shows compiled code, and what they write.
use Rattle.std.specs.Prelude.{ℕ, List, [], ◌∷◌, ◌++◌, codes}
use Rattle.patmos_syntax.specs.Drafts.{DraftBundle}
use Rattle.patmos_asm.specs.Printed.{head_line, label_name}
use Rattle.patmos_asm.specs.Written.{bundle_text}

-- a comment; the begin of a function of a name; the label of the loop of a number; and a bundle, with a comment
pub data Line : Type 0 where
  remark : List ℕ → Line
  begins : List ℕ → Line
  marks : ℕ → Line
  does : DraftBundle → List ℕ → Line

abbrev pub line_text : Line → List ℕ
line_text (remark note) = codes "# " ++ note ++ 10 ∷ []
line_text (begins name) = head_line name
line_text (marks loop) = label_name loop ++ codes ":" ++ 10 ∷ []
line_text (does b note) = codes "  " ++ bundle_text b ++ codes ";  # " ++ note ++ 10 ∷ []

abbrev pub lines_text : List Line → List ℕ
lines_text [] = []
lines_text (l ∷ ls) = line_text l ++ lines_text ls
