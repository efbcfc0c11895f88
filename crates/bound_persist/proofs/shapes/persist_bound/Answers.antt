use Rattle.std.proofs.Common.{◌+◌, ◌-◌, ap, sym, ◌∙◌, subst}
use Rattle.slot_arbiter.specs.Slot.{is_slot_start}
use Rattle.sp_shape.specs.Shown.{plain_shape}
use Rattle.cycle_bound.specs.Answered.{Answers}
use Rattle.cycle_bound.specs.Bound.{shape_bound}
use Rattle.cycle_bound.specs.Gap.{gap}
use Rattle.cycle_bound.specs.Held.{held}
use Rattle.cycle_bound.proofs.Gaps.{one_gap, place_gap}
use Rattle.bound_persist.specs.Persist.{persist}
use Rattle.bound_persist.proofs.Summing.{once_is, else_is}
use Rattle.bound_persist.proofs.Tighter.{persist_less}
use Rattle.bound_persist.proofs.shapes.persist_bound.Goals as goal

-- what is reached stays in the method cache together

pub returns-clause-exact : goal.returns-clause-exact
returns-clause-exact g c =
    λ far is.
    let place = c.args.place.now in
    let same = one_gap (is_slot_start place.table place.slot place.core) c.gap_of.result far c.gap_of.ensures.gap is in
    let here = once_is c.args.shape.now c.as_slice-functions.result.now (c.gap_of.result + c.from.result - 1)
    c.mark_all-marks.result.set c.sums_of-sums.result
    c.as_slice-functions.ensures c.mark_all-marks.ensures.marks c.sums_of-sums.ensures.sums (sym c.if-not-fit.ensures)
    c.plus.result c.run_of_function.result c.plus.ensures c.run_of_function.ensures.run in
    c.within.ensures (persist (far + place.slot - 1) (plain_shape c.args.shape.now))
    (here
    ∙ ap (λ n. held (persist (c.gap_of.result + n - 1) (plain_shape c.args.shape.now))) c.from.ensures
    ∙ ap (λ n. held (persist (n + place.slot - 1) (plain_shape c.args.shape.now))) same)

pub returns-clause-number : goal.returns-clause-number
returns-clause-number g c =
    let place = c.args.place.now in
    returns-clause-exact g c (gap place.table place.slot place.core) (place_gap place)

pub returns-clause-tighter : goal.returns-clause-tighter
returns-clause-tighter g c =
    let place = c.args.place.now in
    persist_less (gap place.table place.slot place.core + place.slot - 1) (plain_shape c.args.shape.now)
    c.requires.formed

-- it does not

pub returns-then-not-fit-clause-exact : goal.returns-then-not-fit-clause-exact
returns-then-not-fit-clause-exact g c =
    λ far is.
    let place = c.args.place.now in
    let same = one_gap (is_slot_start place.table place.slot place.core) c.gap_of.result far c.gap_of.ensures.gap is in
    let here = else_is c.args.shape.now c.as_slice-functions.result.now (c.gap_of.result + c.from.result - 1)
    c.mark_all-marks.result.set c.sums_of-sums.result
    c.as_slice-functions.ensures c.mark_all-marks.ensures.marks c.sums_of-sums.ensures.sums
    (sym c.if-not-fit.ensures) in
    subst (Answers c.bound.result)
    (ap (λ n. shape_bound (n + place.slot - 1) (plain_shape c.args.shape.now)) (sym same)
    ∙ ap (λ n. shape_bound (c.gap_of.result + n - 1) (plain_shape c.args.shape.now)) (sym c.from.ensures)
    ∙ here
    ∙ ap (λ n. persist (c.gap_of.result + n - 1) (plain_shape c.args.shape.now)) c.from.ensures
    ∙ ap (λ n. persist (n + place.slot - 1) (plain_shape c.args.shape.now)) same)
    (c.bound.ensures.exact far is)

pub returns-then-not-fit-clause-number : goal.returns-then-not-fit-clause-number
returns-then-not-fit-clause-number g c =
    let place = c.args.place.now in
    returns-then-not-fit-clause-exact g c (gap place.table place.slot place.core) (place_gap place)

pub returns-then-not-fit-clause-tighter : goal.returns-then-not-fit-clause-tighter
returns-then-not-fit-clause-tighter g c =
    let place = c.args.place.now in
    persist_less (gap place.table place.slot place.core + place.slot - 1) (plain_shape c.args.shape.now)
    c.requires.formed
