use Rattle.std.proofs.Common.{◌≡◌, ◌+◌, take, drop}
use Rattle.std.specs.Prelude.{map, sum_by}
use Rattle.c_tree.specs.Least.{least_with}
use Rattle.c_tree.specs.Plain.{plain_expr}
use Rattle.c_tree.specs.Checks.{args_faults}
use Rattle.c_check.specs.Open.{names_of}
use Rattle.c_check.proofs.Sums.{size_of_argument}
use Rattle.c_check.proofs.expressions.arguments.Given as goal

abbrev pub invariant-loop-e : goal.invariant-loop-e
invariant-loop-e l = record {
  at : l.walk.at ≡ l.initial.walk.at + sum_by size_of_argument (take l.e-index l.args);
  least : least_with l.walk.least (args_faults (names_of l.names) l.walk.at (map plain_expr (drop l.e-index l.args)))
      ≡ least_with l.initial.walk.least (args_faults (names_of l.names) l.initial.walk.at (map plain_expr l.args));
}
