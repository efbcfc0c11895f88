use Rattle.std.proofs.Common.{◌≡◌, take}
use Rattle.std.specs.Prelude.{sum_by}
use Rattle.c_check.specs.Capped.{capped}
use Rattle.c_check.proofs.Sums.{argument_weight}
use Rattle.c_check.proofs.weights.arguments.Given as goal

abbrev pub invariant-loop-e : goal.invariant-loop-e
invariant-loop-e l = l.total ≡ capped (sum_by argument_weight (take l.e-index l.args))
