use Rattle.std.proofs.Common.{◌∙◌}
use Rattle.sp_shape.specs.Shown.{parts_of}
use Rattle.sp_emit.specs.Statements.{element_write}
use Rattle.sp_emit.proofs.Pushed.{straight_as}
use Rattle.sp_emit.proofs.writes.element_write.Goals as goal

pub returns : goal.returns
returns c =
    straight_as (parts_of c.args.out.now.items) (parts_of c.push_straight.new.out.items) c.deref.result.now
    (element_write c.args.homes c.args.mask c.args.array)
    c.in_ok-push_straight.ensures (c.deref.ensures.value ∙ c.in_ok-bundles.ensures)
