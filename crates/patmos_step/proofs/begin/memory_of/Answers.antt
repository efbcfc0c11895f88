use Rattle.std.proofs.Common.{length, min, ap, ◌∙◌}
use Rattle.std.specs.Prelude.{slice_index}
use Rattle.patmos_step.proofs.Overlays.{all_zero}
use Rattle.patmos_step.proofs.Beginnings.{private_at_start, taken_input}
use Rattle.patmos_step.proofs.begin.memory_of.Goals as goal

pub returns-clause-scratch : goal.returns-clause-scratch
returns-clause-scratch c =
    ap slice_index (c.put-2.ensures.scratch ∙ c.put.ensures.scratch ∙ ap (λ m. m.scratch) c.in_ok-store.ensures)
    ∙ all_zero 2048

pub returns-clause-private : goal.returns-clause-private
returns-clause-private c =
    private_at_start c.args.image.now c.args.input.now _ _ _ _ _ _ c.put-2.ensures.private c.put.ensures.private
    (ap (λ m. slice_index m.private) c.in_ok-store.ensures ∙ all_zero 65536)
    c.input_at.ensures.value c.initial.ensures.value
    (taken_input c.args.image.now.input_room _ c.args.input.now _ (c.min-count.ensures
    ∙ ap (min (length c.args.input.now)) c.input_room.ensures.value) c.split_at.ensures.front)
