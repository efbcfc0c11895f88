use Rattle.std.proofs.Common.{◌≡◌, ◌++◌, drop, map}
use Rattle.c_meaning.specs.Resolve.{names_in}
use Rattle.c_tree.specs.Plain.{plain, plain_item}
use Rattle.tccode.proofs.texts.names_of.Given as goal

abbrev pub invariant-loop-item : goal.invariant-loop-item
invariant-loop-item l =
    l.names.items ++ names_in (map plain_item (drop l.item-index l.item-items)) ≡ names_in (plain l.unit)
