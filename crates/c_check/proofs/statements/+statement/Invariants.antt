use Rattle.std.proofs.Common.{◌≡◌, ◌+◌, length, take, drop}
use Rattle.std.specs.Prelude.{sum_by}
use Rattle.c_tree.specs.Least.{least_with}
use Rattle.c_tree.specs.Checks.{block_faults, arms_faults}
use Rattle.c_tree.specs.Plains.{block_of, arms_of}
use Rattle.c_check.specs.Open.{names_of}
use Rattle.c_check.proofs.Sums.{statement_size, next_size}
use Rattle.c_check.proofs.statements.+statement.Given as goal

abbrev pub invariant-statements-loop-s : goal.invariant-statements-loop-s
invariant-statements-loop-s l = record {
  at : l.walk.at ≡ l.initial.walk.at + sum_by statement_size (take l.s-index l.body);
  least : least_with l.walk.least (block_faults l.within (names_of l.names) l.walk.at
      (block_of (drop l.s-index l.body)))
      ≡ least_with l.initial.walk.least (block_faults l.within (names_of l.initial.names) l.initial.walk.at
      (block_of l.body));
  kept : take (length (names_of l.initial.names)) (names_of l.names) ≡ names_of l.initial.names;
}

abbrev pub invariant-branches-loop-arm : goal.invariant-branches-loop-arm
invariant-branches-loop-arm l = record {
  at : l.walk.at ≡ l.initial.walk.at + sum_by next_size (take l.arm-index l.arms);
  least : least_with l.walk.least (arms_faults l.within (names_of l.names) l.walk.at
      (arms_of (drop l.arm-index l.arms)))
      ≡ least_with l.initial.walk.least (arms_faults l.within (names_of l.initial.names) l.initial.walk.at
      (arms_of l.arms));
  names : names_of l.names ≡ names_of l.initial.names;
}
