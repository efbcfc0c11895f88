-- The digits come after the operands without their signs.
use Rattle.std.proofs.Common.{◌≡◌, OnOk, subst}
use Rattle.sp_emit.specs.Division as specs
use Rattle.sp_shape.specs.Parts.{joined}
use Rattle.sp_shape.specs.Shown.{parts_of}
use Rattle.sp_emit.proofs.division.signed_division.Goals as goal

pub returns : goal.returns
returns c = subst (λ before. OnOk c.around.result (parts_of c.around.new.out.items
    ≡ joined (parts_of c.args.out.now.items) (specs.around before c.args.after.now))) c.signed_operands.ensures
    c.around.ensures
