use Rattle.std.proofs.Common.{◌+◌, ◌-◌, ap, ◌∙◌}
use Rattle.slot_arbiter.specs.Slot.{is_slot_start}
use Rattle.sp_shape.specs.Shown.{plain_shape}
use Rattle.cycle_bound.specs.Bound.{shape_bound}
use Rattle.cycle_bound.specs.Gap.{gap}
use Rattle.cycle_bound.specs.Held.{held}
use Rattle.cycle_bound.proofs.Gaps.{one_gap, place_gap}
use Rattle.cycle_bound.proofs.Learning.{entry_bound}
use Rattle.cycle_bound.proofs.shapes.bound.Goals as goal

pub returns-clause-exact : goal.returns-clause-exact
returns-clause-exact g c =
    λ far is.
    let place = c.args.place.now in
    let same = one_gap (is_slot_start place.table place.slot place.core) c.gap_of.result far c.gap_of.ensures.gap is in
    let here = entry_bound c.args.shape.now c.as_slice-functions.result.now (c.gap_of.result + c.from.result - 1)
    c.cycles_of_functions-known.result c.plus.result
    c.as_slice-functions.ensures c.requires.formed (c.cycles_of_functions-known.ensures.known _
    c.fills_of_functions-fills.ensures.fills) c.plus.ensures in
    c.within.ensures (shape_bound (far + place.slot - 1) (plain_shape c.args.shape.now))
    (here
    ∙ ap (λ n. held (shape_bound (c.gap_of.result + n - 1) (plain_shape c.args.shape.now))) c.from.ensures
    ∙ ap (λ n. held (shape_bound (n + place.slot - 1) (plain_shape c.args.shape.now))) same)

pub returns-clause-number : goal.returns-clause-number
returns-clause-number g c =
    let place = c.args.place.now in
    returns-clause-exact g c (gap place.table place.slot place.core) (place_gap place)

pub returns-clause-gap : goal.returns-clause-gap
returns-clause-gap g c = place_gap c.args.place.now
