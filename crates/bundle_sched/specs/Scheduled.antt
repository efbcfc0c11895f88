-- To be believed. Scheduled code: packed first, as if each value were there at once; and then bundles that do nothing
-- stand after those whose late values are waited for.
use Rattle.sp_shape.specs.Parts.{PlainShape}
use Rattle.bundle_sched.specs.Packing.{merged}
use Rattle.bundle_sched.specs.Placed.{placed}

abbrev pub scheduled : PlainShape → PlainShape
scheduled s = placed (merged s)
