use Rattle.std.proofs.Common.{◌≡◌, ◌+◌, ◌≤◌, drop, false}
use Rattle.std.specs.Prelude.{map}
use Rattle.local_store.specs.declared.store.TheConstants.{DATA_WORDS}
use Rattle.c_tree.specs.Layout.{input_from, input_of}
use Rattle.c_tree.specs.Plain.{plain_item}
use Rattle.c_tree.specs.Valid.{words_in}
use Rattle.c_meaning.proofs.beginnings.input_place.Given as goal

abbrev pub invariant-loop-item : goal.invariant-loop-item
invariant-loop-item l = record {
  so_far : input_from l.at (map plain_item (drop l.item-index l.items)) ≡ input_of (map plain_item l.items);
  fits : l.at + words_in false (map plain_item (drop l.item-index l.items)) ≤ DATA_WORDS;
}
