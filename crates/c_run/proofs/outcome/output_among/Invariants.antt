use Rattle.std.proofs.Common.{◌≡◌, ◌≤◌, drop}
use Rattle.std.specs.Prelude.{map}
use Rattle.c_tree.specs.Plain.{plain_item}
use Rattle.c_run.specs.Reported.{output_from, output_number}
use Rattle.c_run.proofs.outcome.output_among.Given as goal

abbrev pub invariant-loop-item : goal.invariant-loop-item
invariant-loop-item l = record {
  so_far : output_from l.number (map plain_item (drop l.item-index l.items)) ≡ output_number (map plain_item l.items);
  small : l.number ≤ l.item-index;
}
