-- The code of a valid program fits an image: with its size, each function takes at most as many words as it weighs.
use Rattle.std.proofs.Common.{◌≡◌, ℕ, zero, suc, ◌+◌, ◌<◌, ◌≤◌, nat_le, true, List, [], ◌∷◌, ◌++◌, length, slice_index, slice_index_or, refl, ap, ◌∙◌, arith}
use Rattle.std.proofs.lemmas.Bool.{and_parts, leb-true}
use Rattle.std.proofs.lemmas.List.Sums.{sum_by-cons}
use Rattle.c_tree.specs.declared.checks.CheckFault.TheVariants as fault
use Rattle.c_tree.specs.Plain.{PlainItem, global, function}
use Rattle.c_tree.specs.Valid.{IsValid}
use Rattle.c_tree.specs.Weight.{item_weight, items_weight}
use Rattle.c_tree.proofs.Typing.{typed_of}
use Rattle.slot_arbiter.specs.declared.place.Place.{Place}
use Rattle.sp_tree.specs.Cost.{cost}
use Rattle.sp_tree.specs.Formed as tree
use Rattle.sp_tree.specs.Statements.{PlainUnit, no_function}
use Rattle.sp_shape.specs.Formed as shape
use Rattle.sp_shape.specs.Parts.{no_part}
use Rattle.sp_shape.specs.Bundles.{parts_idle}
use Rattle.sp_emit.specs.Functions.{emitted}
use Rattle.sp_emit.proofs.Codes.{codes_length}
use Rattle.sp_emit.proofs.Formed as emit_formed
use Rattle.sp_emit.proofs.Kept as emit
use Rattle.bundle_sched.proofs.Kept as schedule
use Rattle.bundle_sched.proofs.WellFormed as schedule_formed
use Rattle.tc_link.specs.Fits.{FitsImage}
use Rattle.tc_link.specs.Placed.{words_below, size_of}
use Rattle.single_path.specs.Single.{weights_in, single}
use Rattle.single_path.proofs.Limited.{light}
use Rattle.single_path.proofs.TakenIn.{taken_is_formed, taken_costs}
use Rattle.task_core.specs.Tasks.{code_of}

-- ---- what a function weighs

abbrev sum : List ℕ → ℕ
sum [] = 0
sum (n ∷ ns) = n + sum ns

-- together they weigh what the task weighs
weights_sum : (items : List PlainItem) → sum (weights_in items) ≡ items_weight items
weights_sum [] = refl
weights_sum (global of ∷ items) = omega (arith, weights_sum items, sum_by-cons item_weight (global of) items)
weights_sum (function kind text void_word parameters body ∷ items) =
    omega (arith, weights_sum items, sum_by-cons item_weight (function kind text void_word parameters body) items)

-- ---- the words of the first functions

abbrev first_sum : List ℕ → ℕ → ℕ
first_sum ws zero = 0
first_sum [] (suc n) = 0
first_sum (w ∷ ws) (suc n) = w + first_sum ws n

one_more : (ws : List ℕ) (n : ℕ) → first_sum ws n + slice_index ws n ≡ first_sum ws (suc n)
one_more [] zero = omega arith
one_more [] (suc n) = omega arith
one_more (w ∷ ws) zero = omega arith
one_more (w ∷ ws) (suc n) = omega (arith, one_more ws n)

first_of_all : (ws : List ℕ) (n : ℕ) → first_sum ws n ≤ sum ws
first_of_all ws zero = omega arith
first_of_all [] (suc n) = omega arith
first_of_all (w ∷ ws) (suc n) = omega (arith, first_of_all ws n)

words_within : (size : ℕ → ℕ) (ws : List ℕ) (n : ℕ) → ((k : ℕ) → k < n → 1 + size k ≤ slice_index ws k)
    → words_below size n ≤ first_sum ws n
words_within size ws zero each = omega arith
words_within size ws (suc n) each =
    omega (
      arith,
      words_within size ws n (λ k below. each k (omega (arith, below))),
      each n (omega arith),
      one_more ws n,
    )

-- ---- the code of a tree

code_length : (u : PlainUnit) → length (code_of u).functions ≡ length u.functions
code_length u = schedule.functions_stay (emitted u) ∙ codes_length u.functions

idle_slots : (u : PlainUnit) → tree.is_formed u ≡ true → (k : ℕ) → k < length (emitted u).functions
    → parts_idle (slice_index_or (emitted u).functions k no_part) ≡ true
idle_slots u formed k below =
    emit.idle_as (emitted u) u refl formed k (omega (arith, below, codes_length u.functions))

code_formed : (u : PlainUnit) → tree.is_formed u ≡ true → shape.is_formed (code_of u) ≡ true
code_formed u formed = schedule_formed.formed_as (emitted u) (code_of u) refl
    (emit_formed.formed_as (emitted u) u refl formed) (idle_slots u formed)

function_size : (u : PlainUnit) → tree.is_formed u ≡ true → (k : ℕ) → k < length u.functions → 1 + size_of (code_of u) k
    ≤ cost (slice_index_or u.functions k no_function)
function_size u formed k below =
    omega (arith, schedule.room_as (emitted u) (code_of u) refl k, emit.room_as (emitted u) u refl formed k below)

-- ---- a valid program

module _ (place : Place) (items : List PlainItem) (valid : IsValid items place.cores place.core) where
  formed : tree.is_formed (single items) ≡ true
  formed = taken_is_formed place.cores place.core items place.in_range.cores_most valid

  pub program_formed : shape.is_formed (code_of (single items)) ≡ true
  program_formed = code_formed (single items) formed

  tree_size : (k : ℕ) → k < length (single items).functions → 1 + size_of (code_of (single items)) k
      ≤ slice_index (weights_in items) k
  tree_size k below = omega (
    arith,
    function_size (single items) formed k below,
    taken_costs place.cores place.core
        items place.in_range.cores_most valid k below,
  )

  pub program_size : (k : ℕ) → k < length (code_of (single items)).functions → 1 + size_of (code_of (single items)) k
      ≤ slice_index (weights_in items) k
  program_size k below = tree_size k (omega (arith, below, code_length (single items)))

  pub program_fits : FitsImage (code_of (single items))
  program_fits =
      let u : PlainUnit = single items in
      let count = code_length u in
      let words = words_within (size_of (code_of u)) (weights_in items) (length u.functions) tree_size in
      let all = first_of_all (weights_in items) (length u.functions) in
      let a = and_parts (nat_le (length u.functions) 512) _ formed in
      let b = and_parts (tree.functions_formed u.functions (length u.functions)) _ a.1 in
      let c = and_parts (tree.entry_formed u) _ b.1 in
      let d = and_parts (tree.data_formed u) _ c.1 in
      let first = and_parts (nat_le (4 + length u.initial) 49152) _ d.0 in
      let second = and_parts (nat_le 4 u.input_at) (nat_le (u.input_at + u.input_room) 49152) first.1 in
      record {
        small = λ k below. omega (arith, program_size k below, light place.cores place.core items valid k);
        within = let same = ap (words_below (size_of (code_of u))) count in
            omega (arith, same, words, all, weights_sum items, (typed_of place.cores place.core items valid).light);
        initial = let few = leb-true (4 + length u.initial) 49152 first.0 in omega (arith, few);
        input_from = leb-true 4 u.input_at second.0;
        input_room = leb-true (u.input_at + u.input_room) 49152 second.1;
      }
