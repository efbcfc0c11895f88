use Rattle.std.proofs.Common.{◌≡◌, take}
use Rattle.std.specs.Prelude.{sum_by}
use Rattle.c_check.specs.Capped.{capped}
use Rattle.c_check.proofs.Sums.{weight_of_item}
use Rattle.c_check.proofs.weights.items.Given as goal

abbrev pub invariant-loop-item : goal.invariant-loop-item
invariant-loop-item l = l.total ≡ capped (sum_by weight_of_item (take l.item-index l.items))
