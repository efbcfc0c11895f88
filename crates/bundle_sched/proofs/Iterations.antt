-- Loops that make all their iterations where a shape's trail is read at once make them where the scheduled one's is
-- read late.
use Rattle.std.proofs.Common.{◌≡◌, ℕ, ◌<◌, true, length, slice_index_or}
use Rattle.std.specs.Prelude.{◌&&◌, nat_lt, nat_le}
use Rattle.std.proofs.lemmas.Bool.{and_parts}
use Rattle.sp_shape.specs.Formed.{functions_formed, is_formed}
use Rattle.sp_shape.proofs.Functions.{each_formed}
use Rattle.sp_tree.specs.declared.limits.TheConstants.{MOST_FUNCTIONS}
use Rattle.bundle_sched.proofs.Shaped.{parts_shaped, function_is_shaped}
use Rattle.sp_shape.specs.Parts.{no_part, PlainShape}
use Rattle.sp_shape.specs.Run.{Run, IsWhole, Sources, run, run_late}
use Rattle.sp_shape.specs.Iterating.{ShapeIterations, ShapeLoops}
use Rattle.bundle_sched.specs.Packing.{merged}
use Rattle.bundle_sched.specs.Scheduled.{scheduled}
use Rattle.bundle_sched.proofs.PackedIterations.{merged_iterations, merged_loops}
use Rattle.bundle_sched.proofs.SpacedIterations.{spaced_iterations, spaced_loops}

-- the parts of each function have their shape
shaped_as : (s : PlainShape) → is_formed s ≡ true → (k : ℕ) → k < length s.functions
    → parts_shaped (slice_index_or s.functions k no_part) ≡ true
shaped_as s formed k below =
    let n = length s.functions in
    let few = and_parts (nat_le n MOST_FUNCTIONS) (functions_formed s.functions n && nat_lt s.entry n) formed in
    let each = (and_parts (functions_formed s.functions n) (nat_lt s.entry n) few.1).0 in
    function_is_shaped k (slice_index_or s.functions k no_part) (each_formed s.functions k n below each)

pub iterations_as : (s t : PlainShape) → t ≡ scheduled s → is_formed s ≡ true → (from : Sources) (m : Run) → IsWhole m
    → ShapeIterations (run from) s m → ShapeIterations (run_late from) t m
iterations_as s t told formed from m whole h =
    spaced_iterations (merged s) t told from m whole (merged_iterations s from m whole (shaped_as s formed) h)

pub loops_as : (s t : PlainShape) → t ≡ scheduled s → is_formed s ≡ true → (from : Sources) (m : Run) → IsWhole m
    → ShapeLoops (run from) s m → ShapeLoops (run_late from) t m
loops_as s t told formed from m whole h =
    spaced_loops (merged s) t told from m whole (merged_loops s from m whole (shaped_as s formed) h)
