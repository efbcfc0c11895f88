-- To be believed. The times of code at a core's place: those of the run in which nothing is put in and
-- nothing is read, after the cycles of its bound.
use Rattle.std.specs.Prelude.{ℕ, ◌+◌}
use Rattle.slot_arbiter.specs.declared.place.Place.{Place}
use Rattle.patmos_model.specs.Apart.{site_of}
use Rattle.core_pace.specs.Bound.{most_in_slot}
use Rattle.core_pace.specs.Times.{Times, times}
use Rattle.sp_shape.specs.Parts.{PlainShape}
use Rattle.cycle_bound.specs.Bound.{shape_bound}
use Rattle.tc_link.specs.Placed.{linked}

-- the cycle by which the code has ended: its start, and its bound
abbrev pub bound_at : Place → PlainShape → ℕ
bound_at place s = place.start + shape_bound (most_in_slot (site_of place (linked s))) s

abbrev pub times_at : Place → PlainShape → Times
times_at place s = times place (linked s) (bound_at place s)
