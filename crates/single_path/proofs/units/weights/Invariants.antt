use Rattle.std.proofs.Common.{◌≡◌, ◌++◌, drop, map}
use Rattle.c_tree.specs.Plain.{plain_item}
use Rattle.c_check.specs.Capped.{capped}
use Rattle.single_path.specs.Single.{weights_in}
use Rattle.single_path.proofs.units.weights.Given as goal

abbrev pub invariant-loop-item : goal.invariant-loop-item
invariant-loop-item l =
    l.weights.items ++ map capped (weights_in (map plain_item (drop l.item-index l.items)))
    ≡ map capped (weights_in (map plain_item l.items))
