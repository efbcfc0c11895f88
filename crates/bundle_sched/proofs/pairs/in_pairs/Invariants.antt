use Rattle.std.proofs.Common.{◌≡◌, ◌++◌, drop}
use Rattle.bundle_sched.specs.Packing.{behind, in_pairs}
use Rattle.bundle_sched.proofs.pairs.in_pairs.Given as goal

abbrev pub invariant-loop-bundle : goal.invariant-loop-bundle
invariant-loop-bundle l = l.list.items ++ behind l.before (drop l.bundle-index l.bundles) ≡ in_pairs l.bundles
