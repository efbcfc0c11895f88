-- The cost and the frame of each function are within its weight and the frame that the checks count.
use Rattle.std.proofs.Common.{ℕ, zero, suc, ◌<◌, ◌≤◌, List, [], ◌∷◌, ◌++◌, length, slice_index, slice_index_or, arith}
use Rattle.c_tree.specs.declared.layout.Slot.{Slot}
use Rattle.c_tree.specs.Plain.{PlainItem, global, function}
use Rattle.sp_tree.specs.Cost.{cost}
use Rattle.sp_tree.specs.Statements.{no_function}
use Rattle.c_meaning.specs.Meaning.{parameter_variables}
use Rattle.c_meaning.specs.Resolve.{resolved_items, parameters_in}
use Rattle.single_path.specs.Single.{made_functions, weights_in, frames_in}
use Rattle.single_path.proofs.Costs.{cost_within}
use Rattle.single_path.proofs.FramesWithin.{frame_within}

pub costs_within : (slots : List Slot) (fs : List (List ℕ)) (items : List PlainItem) (k : ℕ)
    → k < length (made_functions (parameters_in items) (resolved_items slots fs items))
    → cost (slice_index_or (made_functions (parameters_in items) (resolved_items slots fs items)) k no_function)
    ≤ slice_index (weights_in items) k
costs_within slots fs [] k within = absurd (omega (arith, within))
costs_within slots fs (global g ∷ items) k within = costs_within slots fs items k within
costs_within slots fs (function kind text void_word parameters body ∷ items) zero within =
    cost_within fs (record { slots = slots; variables = parameter_variables parameters }) (length parameters) body
costs_within slots fs (function kind text void_word parameters body ∷ items) (suc k) within =
    costs_within slots (fs ++ text ∷ []) items k (omega (arith, within))

pub frames_within : (slots : List Slot) (fs : List (List ℕ)) (items : List PlainItem) (k : ℕ)
    → k < length (made_functions (parameters_in items) (resolved_items slots fs items))
    → (slice_index_or (made_functions (parameters_in items) (resolved_items slots fs items)) k no_function).frame
    ≤ slice_index (frames_in items) k
frames_within slots fs [] k within = absurd (omega (arith, within))
frames_within slots fs (global g ∷ items) k within = frames_within slots fs items k within
frames_within slots fs (function kind text void_word parameters body ∷ items) zero within =
    frame_within fs slots parameters body
frames_within slots fs (function kind text void_word parameters body ∷ items) (suc k) within =
    frames_within slots (fs ++ text ∷ []) items k (omega (arith, within))
