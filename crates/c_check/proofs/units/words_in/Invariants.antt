use Rattle.std.proofs.Common.{◌≡◌, take}
use Rattle.std.specs.Prelude.{sum_by}
use Rattle.c_check.specs.Capped.{capped}
use Rattle.c_check.proofs.Sums.{words_of_item}
use Rattle.c_check.proofs.units.words_in.Given as goal

abbrev pub invariant-loop-i : goal.invariant-loop-i
invariant-loop-i l = l.total ≡ capped (sum_by (words_of_item l.scratch) (take l.i-index l.items))
