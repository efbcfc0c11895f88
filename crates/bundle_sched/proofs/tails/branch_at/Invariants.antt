use Rattle.std.proofs.Common.{◌≡◌, ◌++◌, take, drop}
use Rattle.bundle_sched.specs.Packing.{before_branch, from_branch}
use Rattle.bundle_sched.proofs.tails.branch_at.Given as goal

abbrev pub invariant-loop-bundle : goal.invariant-loop-bundle
invariant-loop-bundle l = record {
  at : l.at ≡ l.bundle-index;
  before : take l.bundle-index l.tail ++ before_branch (drop l.bundle-index l.tail) ≡ before_branch l.tail;
  from : from_branch (drop l.bundle-index l.tail) ≡ from_branch l.tail;
}
