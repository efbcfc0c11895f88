-- To be believed. What is reported of a C task at its end: the words of its variables and
-- arrays, and which of them is its output.
use Rattle.std.specs.Prelude.{ℕ, zero, suc, ◌+◌, Bool, ◌&&◌, if◌then◌else◌, List, [], ◌∷◌, ◌++◌, Option, None, Some, bytes_eq, codes, is_some}
use Rattle.c_tree.specs.declared.layout.Slot.{Slot}
use Rattle.c_tree.specs.declared.units.Global.{Global}
use Rattle.c_tree.specs.Plain.{PlainItem}
use Rattle.c_tree.specs.Plain as tree
use Rattle.c_world.specs.World.{World, words_in}
use Rattle.c_meaning.specs.Scope.{slot_region, slot_word}

-- so many words from one on
abbrev pub words_from : (ℕ → ℕ) → ℕ → ℕ → List ℕ
words_from words first zero = []
words_from words first (suc count) = words_from words first count ++ words (first + count) ∷ []

-- the words of a variable or an array
abbrev pub slot_words : World → Slot → List ℕ
slot_words w s = words_from (words_in (slot_region s) w) (slot_word s) s.length

-- an array `out`
abbrev pub is_output : Global → Bool
is_output g = bytes_eq g.name (codes "out") && is_some g.length

-- the number of its slot, where the first of these has this one
abbrev pub output_from : ℕ → List PlainItem → Option ℕ
output_from number [] = None
output_from number (tree.global of ∷ items) = if is_output of then Some number else output_from (number + 1) items
output_from number (tree.function kind text void_word parameters body ∷ items) = output_from number items

abbrev pub output_number : List PlainItem → Option ℕ
output_number items = output_from 0 items
