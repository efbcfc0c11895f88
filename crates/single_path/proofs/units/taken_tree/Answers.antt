use Rattle.std.proofs.Common.{ap, map, ◌∙◌}
use Rattle.c_tree.specs.Plain.{plain, plain_item}
use Rattle.sp_tree.specs.Shown.{plain_unit}
use Rattle.single_path.proofs.Limited.{taken_same}
use Rattle.single_path.proofs.units.taken_tree.Goals as goal

pub returns : goal.returns
returns c =
    let program = c.args.program.now in
    taken_same program.place.cores program.place.core (plain program.unit) program.valid
    (map plain_item c.as_slice-items.result.now)
    (ap (map plain_item) c.as_slice-items.ensures)
    (plain_unit c.in_ok-tree.tree) _ _ c.take_in.result
    c.in_ok-tree.ensures (c.as_slice.ensures.value ∙ c.in_ok-weights.ensures) (c.as_slice-2.ensures.value
    ∙ c.in_ok-frames.ensures) c.take_in.ensures
