use Rattle.std.proofs.Common.{ap, ◌∙◌}
use Rattle.sp_shape.proofs.Plain.{plain_repeat}
use Rattle.sp_shape.specs.Parts.{calls_to, one, repeats}
use Rattle.sp_shape.specs.Shown.{parts_of}
use Rattle.sp_shape.specs.Small as small
use Rattle.tests_code.proofs.making.iterations.Goals as goal

pub returns : goal.returns
returns c =
    plain_repeat 3 c.of-body.result c.in_ok-tail.tail
    ∙ ap (λ ps. repeats 3 ps c.in_ok-tail.tail) (ap parts_of (c.of-body.ensures ∙ c.in_ok-vec.ensures.items)
    ∙ ap one c.in_ok-call.ensures)
    ∙ ap (λ bs. repeats 3 (one (calls_to 0 small.call)) bs) c.in_ok-tail.ensures
