use Rattle.std.proofs.Common.{ap, ◌∙◌}
use Rattle.bundle_sched.specs.Ordered.{put_unless_idle, ordered}
use Rattle.bundle_sched.proofs.Putting.{bundle_put}
use Rattle.bundle_sched.proofs.ordering.ordered.Goals as goal

pub loop-bundle-preserved : goal.loop-bundle-preserved
loop-bundle-preserved c =
    bundle_put c.args.bundles.now c.loop-bundle.bundle-index c.bundle-item.result c.loop-bundle.list.items
    c.put_unless_idle.new.bundles.items (ordered c.args.bundles.now)
    c.loop-bundle-test.true c.bundle-item.is (c.in_ok-put_unless_idle.ensures
    ∙ ap (λ b. put_unless_idle b c.loop-bundle.list.items) c.without_nop.ensures) c.loop-bundle.invariant
