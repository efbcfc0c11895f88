use Rattle.std.proofs.Common.{◌≡◌, ◌+◌, take, drop}
use Rattle.std.specs.Prelude.{sum_by}
use Rattle.c_tree.specs.Least.{least_with}
use Rattle.c_tree.specs.Sizes.{parameter_size}
use Rattle.c_tree.specs.Valid.{parameters_faults, with_parameters}
use Rattle.c_check.specs.Open.{names_of}
use Rattle.c_check.proofs.functions.parameters.Given as goal

abbrev pub invariant-loop-p : goal.invariant-loop-p
invariant-loop-p l = record {
  at : l.walk.at ≡ l.initial.walk.at + sum_by parameter_size (take l.p-index l.list);
  least : least_with l.walk.least (parameters_faults l.outer (names_of l.names) l.walk.at (drop l.p-index l.list))
      ≡ least_with l.initial.walk.least (parameters_faults l.outer (names_of l.initial.names) l.initial.walk.at l.list);
  names : with_parameters (names_of l.names) (drop l.p-index l.list)
      ≡ with_parameters (names_of l.initial.names) l.list;
}
