-- The first words and the input of a valid program lie where variables and arrays stand, and its functions are few.
use Rattle.std.proofs.Common.{◌≡◌, ℕ, ◌+◌, ◌*◌, ◌≤◌, true, List, [], ◌∷◌, ◌++◌, length, arith, le-leb}
use Rattle.std.proofs.lemmas.Bool.{and_from}
use Rattle.std.proofs.lemmas.List.Sums.{sum_by-cons}
use Rattle.c_tree.specs.declared.layout.Slot.{Slot}
use Rattle.c_tree.specs.Layout.{initial_of, input_of, layout_of}
use Rattle.c_tree.specs.Plain.{PlainItem, global, function}
use Rattle.c_tree.specs.Valid.{IsValid}
use Rattle.c_tree.specs.Weight.{item_weight, items_weight}
use Rattle.sp_tree.specs.Formed.{data_formed}
use Rattle.c_meaning.specs.Resolve.{resolved_items, parameters_in}
use Rattle.c_tree.proofs.Typing.{typed_of}
use Rattle.c_meaning.proofs.Fits.{initial_fits, input_within}
use Rattle.single_path.specs.Single.{with_calls}
use Rattle.single_path.proofs.Formed.{as_many, made_length}

pub data_is_formed : (cores own : ℕ) (items : List PlainItem) → IsValid items cores own → data_formed (with_calls items)
    ≡ true
data_is_formed cores own items valid =
    let input = input_within 4 items (omega arith) in
    let private = (typed_of cores own items valid).private in
    and_from _ _ (le-leb (4 + length (initial_of items)) 49152 (omega (arith, initial_fits cores own items valid)))
    (and_from _ _ (le-leb 4 (input_of items).at input.0)
    (le-leb ((input_of items).at + (input_of items).room) 49152 (omega (arith, input.1, private))))

-- ---- each function weighs at least 64

functions_weigh : (slots : List Slot) (fs : List (List ℕ)) (items : List PlainItem)
    → 64 * length (resolved_items slots fs items) ≤ items_weight items
functions_weigh slots fs [] = omega arith
functions_weigh slots fs (global g ∷ items) =
    let rest = functions_weigh slots fs items in omega (arith, rest, sum_by-cons item_weight (global g) items)
functions_weigh slots fs (function kind text void_word parameters body ∷ items) =
    let rest = functions_weigh slots (fs ++ text ∷ []) items in
    omega (arith, rest, sum_by-cons item_weight (function kind text void_word parameters body) items)

pub functions_are_few : (cores own : ℕ) (items : List PlainItem) → IsValid items cores own
    → length (with_calls items).functions ≤ 512
functions_are_few cores own items valid =
    let bodies = resolved_items (layout_of items) [] items in
    let same = as_many (layout_of items) [] items in
    let weighs = functions_weigh (layout_of items) [] items in
    let light = (typed_of cores own items valid).light in
    omega (arith, weighs, made_length (parameters_in items) bodies same, light)
