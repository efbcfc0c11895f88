use Rattle.std.proofs.Common.{◌≡◌, ◌+◌, ◌≤◌, ◌++◌, true, false, drop}
use Rattle.std.specs.Prelude.{map}
use Rattle.local_store.specs.declared.store.TheConstants.{FIRST_DATA_WORD}
use Rattle.c_tree.specs.declared.limits.TheConstants.{MOST_PRIVATE_WORDS, MOST_SCRATCH_WORDS}
use Rattle.c_tree.specs.Layout.{slots_from}
use Rattle.c_tree.specs.Plain.{plain_item}
use Rattle.c_tree.specs.Valid.{words_in}
use Rattle.c_check.proofs.layouts.layout.Given as goal

abbrev pub invariant-loop-i : goal.invariant-loop-i
invariant-loop-i l = record {
  slots : l.slots.items ++ slots_from l.private l.scratch (map plain_item (drop l.i-index l.items))
      ≡ slots_from FIRST_DATA_WORD 0 (map plain_item l.items);
  private : l.private + words_in false (map plain_item (drop l.i-index l.items)) ≤ FIRST_DATA_WORD + MOST_PRIVATE_WORDS;
  scratch : l.scratch + words_in true (map plain_item (drop l.i-index l.items)) ≤ MOST_SCRATCH_WORDS;
}
