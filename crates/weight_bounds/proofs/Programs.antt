-- The bound of a program by its weights; and calls that are taken in.
use Rattle.std.proofs.Common.{ℕ, ◌<◌, ◌≤◌, List, length, slice_index_or}
use Rattle.c_tree.specs.Plain.{PlainItem}
use Rattle.c_tree.specs.Valid.{IsValid}
use Rattle.c_task.specs.Translation.{bound_on}
use Rattle.slot_arbiter.specs.declared.table.TheConstants.{MOST_CORES}
use Rattle.sp_tree.specs.Statements.{no_function}
use Rattle.sp_emit.specs.Functions.{emitted}
use Rattle.bundle_sched.specs.Scheduled.{scheduled}
use Rattle.single_path.specs.Single.{weights_in, frames_in, with_calls, single}
use Rattle.single_path.proofs.TakenIn.{taken_is_formed, taken_costs}
use Rattle.weight_bounds.specs.Leaves.{AreLeaves, HasNoMore}
use Rattle.weight_bounds.specs.Weights.{transaction_cycles, weight_bound}
use Rattle.weight_bounds.proofs.Bounding.{shape_weighed}
use Rattle.weight_bounds.proofs.Weighing.{tree_weighed}
use Rattle.weight_bounds.proofs.Taking.{taken_no_more}

pub program_no_more : (items : List PlainItem) (k : ℕ) → k < length (with_calls items).functions
    → AreLeaves (with_calls items).functions k
    → HasNoMore (slice_index_or (with_calls items).functions k no_function) (slice_index_or
    (single items).functions k no_function)
program_no_more items k below leaves = taken_no_more (weights_in items) (frames_in items) (with_calls items).functions
    (length (with_calls items).functions) k below leaves

pub program_bounded : (cores own slot : ℕ) (table : List ℕ) (items : List PlainItem) → cores ≤ MOST_CORES
    → IsValid items cores own
    → bound_on table slot own items ≤ weight_bound (transaction_cycles table slot own) (weights_in items) (single items)
program_bounded cores own slot table items most valid =
    shape_weighed (transaction_cycles table slot own) (scheduled (emitted (single items))) (weights_in items)
    (single items).functions
    (tree_weighed (single items) (weights_in items) (taken_is_formed cores own items most valid)
    (taken_costs cores own items most valid))
