use Rattle.std.proofs.Common.{◌≡◌, ◌++◌, take}
use Rattle.std.specs.Prelude.{map}
use Rattle.c_tree.specs.Layout.{const_word}
use Rattle.c_meaning.proofs.beginnings.add_values.Given as goal

abbrev pub invariant-loop-value : goal.invariant-loop-value
invariant-loop-value l = l.words.items ≡ l.initial.words.items ++ map const_word (take l.value-index l.values)
