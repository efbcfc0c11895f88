use Rattle.std.proofs.Common.{◌≡◌, drop}
use Rattle.std.specs.Prelude.{map}
use Rattle.c_tree.specs.Plain.{plain_item}
use Rattle.c_tree.specs.Valid.{has_main}
use Rattle.c_check.proofs.units.has_main.Given as goal

abbrev pub invariant-loop-i : goal.invariant-loop-i
invariant-loop-i l = has_main (map plain_item (drop l.i-index l.items)) ≡ has_main (map plain_item l.items)
