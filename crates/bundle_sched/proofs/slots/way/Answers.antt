use Rattle.bundle_sched.specs.Packing.{kept_after, way_after}
use Rattle.bundle_sched.specs.declared.slots.TheConstants.{MOST_SLOTS}
use Rattle.bundle_sched.proofs.LastBundle.{kept_more, way_more}
use Rattle.bundle_sched.proofs.slots.way.Goals as goal

pub loop-filled-preserved : goal.loop-filled-preserved
loop-filled-preserved c = record {
  kept = kept_more MOST_SLOTS c.loop-filled.filled c.loop-filled.bundles.items c.loop-filled.slots.items
      c.move_last.new.bundles.items c.move_last.new.slots.items (kept_after MOST_SLOTS c.args.bundles.now.items
      c.in_ok-slots.slots.items)
      c.loop-filled-test.true c.in_ok-move_last.ensures.kept c.in_ok-move_last.ensures.way c.loop-filled.invariant.kept;
  way = way_more MOST_SLOTS c.loop-filled.filled c.loop-filled.bundles.items c.loop-filled.slots.items
      c.move_last.new.bundles.items c.move_last.new.slots.items (way_after MOST_SLOTS c.args.bundles.now.items
      c.in_ok-slots.slots.items)
      c.loop-filled-test.true c.in_ok-move_last.ensures.kept c.in_ok-move_last.ensures.way c.loop-filled.invariant.way;
}
