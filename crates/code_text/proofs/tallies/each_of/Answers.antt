use Rattle.std.proofs.Common.{arith}
use Rattle.slot_arbiter.specs.Slot.{is_slot_start}
use Rattle.cycle_bound.specs.Gap.{gap}
use Rattle.cycle_bound.proofs.Gaps.{one_gap, place_gap}
use Rattle.code_text.proofs.tallies.each_of.Goals as goal

pub returns-clause-each : goal.returns-clause-each
returns-clause-each c =
    let place = c.args.place.now in
    let same = one_gap (is_slot_start place.table place.slot place.core) c.gap_of.result
    (gap place.table place.slot place.core) c.gap_of.ensures.gap (place_gap place) in
    omega (arith, same, c.from.ensures)
