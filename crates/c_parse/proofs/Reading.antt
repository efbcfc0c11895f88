-- The one reading: the tree of tokens, found by reading them.
use Rattle.std.proofs.Common.{◌≡◌, ℕ, List, [], Option, None, Some, refl, sym, ap, ◌∙◌}
use Rattle.c_tree.specs.declared.tokens.Token.{Token}
use Rattle.c_tree.specs.Places.{IsProgram}
use Rattle.c_tree.specs.Plain.{PlainItem}
use Rattle.c_tree.specs.Reading.{Trees, IsReading}
use Rattle.c_parse.specs.Answers.{place_of}
use Rattle.c_parse.specs.Tree.{items, read, tree_of}
use Rattle.c_parse.proofs.OneProgram.{tree_read}
use Rattle.c_parse.proofs.ReadWhole.{reads_programs}

-- the tree, by the place at which the tokens go wrong
abbrev tree_by : List Token → Option ℕ → List PlainItem
tree_by ts place = elim place [ None ↦ read (items (λ is. is)) ts | Some at ↦ [] ]

pub trees_read : IsReading tree_of
unfolding tree_of
trees_read = record {
  reads = λ ts program.
      ap (tree_by ts) ((reads_programs ts).1 program) ∙ ap (read (items (λ is. is))) (sym program.written)
      ∙ tree_read program.tree program.fits;
}

pub no_tree : (ts : List Token) → (IsProgram ts → ⊥) → tree_of ts ≡ []
unfolding tree_of
no_tree ts none = by (place_of ts) refl
  where
    by : (place : Option ℕ) → place_of ts ≡ place → tree_by ts place ≡ []
    by None whole = absurd (none ((reads_programs ts).0 whole))
    by (Some at) wrong = refl

pub a_reading : (trees : Trees) × IsReading trees
a_reading = (tree_of, trees_read)
