use Rattle.std.proofs.Common.{◌≡◌, ◌++◌, length, take, drop}
use Rattle.std.specs.Prelude.{map}
use Rattle.c_tree.specs.Layout.{initial_from, initial_of}
use Rattle.c_tree.specs.Plain.{plain_item}
use Rattle.c_meaning.proofs.beginnings.add_initial.Given as goal

abbrev pub invariant-loop-item : goal.invariant-loop-item
invariant-loop-item l = record {
  added : l.words.items ++ initial_from (map plain_item (drop l.item-index l.items)) ≡ l.initial.words.items
      ++ initial_of (map plain_item l.items);
  kept : take (length l.initial.words.items) l.words.items ≡ l.initial.words.items;
  before : l.before ≡ length l.initial.words.items;
}
