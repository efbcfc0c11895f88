use Rattle.std.proofs.Common.{◌≡◌, ◌+◌, take, drop}
use Rattle.std.specs.Prelude.{map, sum_by}
use Rattle.c_tree.specs.Least.{least_with}
use Rattle.c_tree.specs.Plain.{plain_item}
use Rattle.c_tree.specs.Valid.{items_faults}
use Rattle.c_check.specs.Open.{names_of}
use Rattle.c_check.proofs.Sums.{size_of_item}
use Rattle.c_check.proofs.units.items.Given as goal

abbrev pub invariant-loop-i : goal.invariant-loop-i
invariant-loop-i l = record {
  at : l.walk.at ≡ l.initial.walk.at + sum_by size_of_item (take l.i-index l.items);
  least : least_with l.walk.least (items_faults l.place.cores l.place.core (names_of l.names) l.walk.at
      (map plain_item (drop l.i-index l.items)))
      ≡ least_with l.initial.walk.least (items_faults l.place.cores l.place.core (names_of l.initial.names)
      l.initial.walk.at (map plain_item l.items));
}
