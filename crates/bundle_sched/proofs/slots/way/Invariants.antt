use Rattle.std.proofs.Common.{◌≡◌, ◌-◌}
use Rattle.bundle_sched.specs.Packing.{kept_after, way_after}
use Rattle.bundle_sched.specs.declared.slots.TheConstants.{MOST_SLOTS}
use Rattle.bundle_sched.proofs.slots.way.Given as goal

abbrev pub invariant-loop-filled : goal.invariant-loop-filled
invariant-loop-filled l = record {
  kept : kept_after (MOST_SLOTS - l.filled) l.bundles.items l.slots.items
      ≡ kept_after MOST_SLOTS l.initial.bundles.items l.initial.slots.items;
  way : way_after (MOST_SLOTS - l.filled) l.bundles.items l.slots.items
      ≡ way_after MOST_SLOTS l.initial.bundles.items l.initial.slots.items;
}
