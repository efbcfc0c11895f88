use Rattle.std.proofs.Common.{ap, ◌∙◌}
use Rattle.sp_shape.specs.Shown.{parts_of}
use Rattle.bundle_sched.specs.Packing.{left_over, parts_merged}
use Rattle.bundle_sched.proofs.PackingParts.{function_done}
use Rattle.bundle_sched.proofs.packing.function_packed.Goals as goal

pub returns-clause-parts : goal.returns-clause-parts
returns-clause-parts c =
    ap parts_of c.of.ensures
    ∙ function_done c.in_ok-list.list.items c.push_held.new.out.items c.parts_packed.new.held.items
    (parts_of c.args.parts.now)
    (c.in_ok-list.ensures.parts ∙ ap (λ h. parts_merged h (parts_of c.args.parts.now)) c.new-held.ensures.items)
    (c.in_ok-list.ensures.left ∙ ap (λ h. left_over h (parts_of c.args.parts.now)) c.new-held.ensures.items)
    c.in_ok-push_held.ensures.out
