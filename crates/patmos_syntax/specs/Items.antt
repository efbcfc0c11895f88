-- To be believed. A text as the list of its statements: functions that begin, labels,
-- bundles, and those that are faulty by themselves.
use Rattle.std.specs.Prelude.{ℕ, zero, suc, if◌then◌else◌, List, [], ◌∷◌, ◌++◌, length, bytes_eq, codes, Option, Some, None, Result, Ok, Err}
use Rattle.std.specs.Option.{option_map}
use Rattle.patmos_forms.specs.declared.faults.AsmKind.{AsmKind}
use Rattle.patmos_forms.specs.declared.faults.AsmKind.TheVariants.{Operand}
use Rattle.patmos_forms.specs.Readers.{word_at, is_name, sign_at, at_end}
use Rattle.patmos_syntax.specs.Drafts.{DraftBundle, name_in, bundle_of}
use Rattle.patmos_syntax.specs.Statements.{Piece, statements_of}

-- a statement, with its line
pub data Item : Type 0 where
  function : ℕ → List ℕ → Item
  label : ℕ → List ℕ → Item
  bundle : ℕ → DraftBundle → Item
  faulty : ℕ → AsmKind → Item

-- the line of a statement
abbrev pub line_of : Item → ℕ
line_of (function line _) = line
line_of (label line _) = line
line_of (bundle line _) = line
line_of (faulty line _) = line

-- a label at the front, and what stands after its colon
abbrev pub label_at : List ℕ → Option (List ℕ × List ℕ)
label_at text =
    if is_name (word_at text).0 then option_map (λ rest. ((word_at text).0, rest)) (sign_at 58 (word_at text).1)
    else None

abbrev pub function_item : ℕ → Option (List ℕ) → Item
function_item line (Some name) = function line name
function_item line None = faulty line Operand

abbrev pub bundle_item : ℕ → Result DraftBundle AsmKind → Item
bundle_item line (Ok b) = bundle line b
bundle_item line (Err fault) = faulty line fault

-- a statement that is no label: a function that begins, or a bundle
unfoldable pub statement_of : ℕ → List ℕ → Item
statement_of line text =
    if bytes_eq (word_at text).0 (codes ".func") then function_item line (name_in (word_at text).1)
    else bundle_item line (bundle_of text)

-- the statements of a text of one line, of which at most n are labels: labels at its front, and then one
-- that is none, if anything is left
abbrev pub items_after : ℕ → List ℕ → Option (List ℕ × List ℕ) → (List ℕ → List Item) → List Item
items_after line text (Some l) items = label line l.0 ∷ items l.1
items_after line text None items = if at_end text then [] else statement_of line text ∷ []

abbrev pub items_in : ℕ → ℕ → List ℕ → List Item
items_in line zero text = []
items_in line (suc n) text = items_after line text (label_at text) (items_in line n)

abbrev pub items_from : List Piece → List Item
items_from [] = []
items_from (p ∷ ps) = items_in p.0 (length p.1) p.1 ++ items_from ps

-- the statements of a text
unfoldable pub items_of : List ℕ → List Item
items_of text = items_from (statements_of 1 text)
