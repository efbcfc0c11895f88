use Rattle.std.proofs.Common.{◌≡◌, ◌+◌, ◌^◌, ◌≤◌, drop}
use Rattle.cycle_bound.specs.Bound.{bundles_bound}
use Rattle.cycle_bound.specs.Held.{held}
use Rattle.cycle_bound.proofs.bundles.cycles_of_bundles.Given as goal

abbrev pub invariant-loop-bundle : goal.invariant-loop-bundle
invariant-loop-bundle g l = record {
  cycles : held (l.cycles + bundles_bound l.each (drop l.bundle-index l.bundles))
      ≡ held (bundles_bound l.each l.bundles);
  small : l.cycles ≤ 2 ^ 62 + 1;
  steps : l.steps ≡ l.initial.steps + l.bundle-index;
}
