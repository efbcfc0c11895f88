use Rattle.tc_link.specs.Placed.{linked}
use Rattle.code_core.proofs.Shapes.{ends}
use Rattle.code_core.proofs.laws.code_is_followed.Goals as goal

pub returns : goal.returns
returns c = λ s addresses input values link behaves given.
    ends c.args.place.now s addresses link behaves (c.place_has_slots.ensures (linked s))
    c.args.place.now.in_range.among input values given
