use Rattle.std.proofs.Common.{◌≡◌, ◌+◌, take}
use Rattle.std.specs.Prelude.{sum_by}
use Rattle.c_tree.specs.Sizes.{const_size}
use Rattle.c_check.proofs.units.constants.Given as goal

abbrev pub invariant-loop-constant : goal.invariant-loop-constant
invariant-loop-constant l = record {
  at : l.walk.at ≡ l.initial.walk.at + sum_by const_size (take l.constant-index l.values);
  least : l.walk.least ≡ l.initial.walk.least;
}
