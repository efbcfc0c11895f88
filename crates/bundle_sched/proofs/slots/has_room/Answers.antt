use Rattle.std.proofs.Common.{sym, ap, ◌∙◌}
use Rattle.std.specs.Prelude.{◌&&◌}
use Rattle.sp_shape.specs.Bundles.{is_idle}
use Rattle.bundle_sched.proofs.LastBundle.{room_at}
use Rattle.bundle_sched.proofs.slots.has_room.Goals as goal

pub returns-then-lets_pass : goal.returns-then-lets_pass
returns-then-lets_pass c =
    c.does_nothing.ensures ∙ ap (λ p. p && is_idle c.in-Some.last.now) (sym (sym c.lets_pass.ensures
    ∙ c.if-lets_pass.true))
    ∙ sym (room_at c.args.bundle.now c.args.tail.now c.in-Some.field-0-1.now c.flow-item.result c.in-Some.last.now
    c.flow-item.is c.in-Some.ensures.cases.0)
