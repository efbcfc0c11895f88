use Rattle.std.proofs.Common.{◌≡◌, ◌+◌, ◌-◌, ap}
use Rattle.slot_arbiter.specs.Slot.{is_slot_start}
use Rattle.core_pace.specs.Starts.{gap_in}
use Rattle.core_pace.proofs.SlotStarts.{gap_is_greatest}
use Rattle.cycle_bound.specs.Bound.{shape_bound}
use Rattle.cycle_bound.specs.Gap.{gap}
use Rattle.cycle_bound.proofs.Gaps.{one_gap, place_gap}
use Rattle.tc_link.specs.Placed.{linked}
use Rattle.code_times.proofs.Exact.{accesses_at, end_from, end_within}
use Rattle.code_times.proofs.Safe.{never_trapped}
use Rattle.code_times.proofs.laws.code_keeps_its_times.Goals as goal

pub returns-clause-accesses : goal.returns-clause-accesses
returns-clause-accesses c = λ s addresses input values link behaves given cycles.
    accesses_at c.args.place.now s addresses link behaves (c.place_has_slots.ensures (linked s))
    c.args.place.now.in_range.among input values given cycles

pub returns-clause-end : goal.returns-clause-end
returns-clause-end c = λ s addresses input values link behaves given limit enough.
    end_from c.args.place.now s addresses link behaves (c.place_has_slots.ensures (linked s))
    c.args.place.now.in_range.among input values given limit enough

pub returns-clause-within : goal.returns-clause-within
returns-clause-within c = λ s addresses link behaves.
    end_within c.args.place.now s addresses link behaves (c.place_has_slots.ensures (linked s))
    c.args.place.now.in_range.among

pub returns-clause-number : goal.returns-clause-number
returns-clause-number c = λ s.
    let p = c.args.place.now in
    let same : gap_in p.table p.slot p.core ≡ gap p.table p.slot p.core =
    one_gap (is_slot_start p.table p.slot p.core) (gap_in p.table p.slot p.core) (gap p.table p.slot p.core)
    (gap_is_greatest p.table p.slot p.core (c.place_has_slots.ensures (linked s))) (place_gap p) in
    ap (λ far. p.start + shape_bound (far + p.slot - 1) s) same

pub returns-clause-never : goal.returns-clause-never
returns-clause-never c = λ s addresses input values link behaves given cycles fault at is.
    never_trapped c.args.place.now s addresses link behaves (c.place_has_slots.ensures (linked s))
    c.args.place.now.in_range.among input values given cycles fault at is
