use Rattle.std.proofs.Common.{◌≡◌, drop}
use Rattle.bundle_sched.specs.Ordered.{ordered_after, ordered}
use Rattle.bundle_sched.proofs.ordering.ordered.Given as goal

abbrev pub invariant-loop-bundle : goal.invariant-loop-bundle
invariant-loop-bundle l = ordered_after l.list.items (drop l.bundle-index l.bundles) ≡ ordered l.bundles
