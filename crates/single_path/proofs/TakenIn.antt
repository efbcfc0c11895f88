-- The tree of a valid program with the calls that it takes in: each promise of the tree is one of it.
use Rattle.std.proofs.Common.{◌≡◌, ℕ, ◌<◌, ◌≤◌, Bool, true, false, ◌||◌, List, [], ◌∷◌, length, slice_index, slice_index_or, refl, ap, sym, ◌∙◌, arith, true≢false}
use Rattle.std.specs.List.{AllByRecursion as Each, list_any}
use Rattle.c_tree.specs.Layout.{layout_of}
use Rattle.c_tree.specs.Plain.{PlainItem}
use Rattle.c_tree.specs.Valid.{IsValid}
use Rattle.sp_tree.specs.Begun.{straight}
use Rattle.sp_tree.specs.Cost.{cost}
use Rattle.sp_tree.specs.Formed.{is_formed}
use Rattle.sp_tree.specs.Statements.{PlainFunction, no_function}
use Rattle.sp_tree.specs.Uses.{Use, uses_of}
use Rattle.sp_tree.proofs.Forms.{parts_of_function, earlier_one}
use Rattle.sp_inline.specs.Taken.{first_taken}
use Rattle.sp_inline.proofs.Taking.{first_at, first_length, taken_straight}
use Rattle.sp_inline.proofs.Limits.{function_kept}
use Rattle.sp_inline.proofs.Used.{uses_each}
use Rattle.sp_inline.proofs.Forms.{Roomy, taken_grown, unit_formed}
use Rattle.c_meaning.specs.Begun.{meaning}
use Rattle.c_mentions.specs.Mentions.{Array, mentions, assigns, sends_to}
use Rattle.single_path.specs.Meant.{IsMeant}
use Rattle.single_path.specs.Single.{single, with_calls, weights_in, frames_in}
use Rattle.single_path.specs.Used.{reads_region, writes_region, is_send_to, memory_of}
use Rattle.single_path.proofs.Budgets.{costs_within, frames_within}
use Rattle.single_path.proofs.Formed.{functions_are_formed}
use Rattle.single_path.proofs.Limited.{framed}
use Rattle.single_path.proofs.Meant.{meant}
use Rattle.single_path.proofs.Used.{reads_only_mentioned, writes_only_assigned, sends_only_sent}
use Rattle.single_path.proofs.Whole.{single_is_formed}

roomy : (cores own : ℕ) (items : List PlainItem) → IsValid items cores own
    → Roomy (frames_in items) (with_calls items).functions (length (with_calls items).functions)
roomy cores own items valid = record {
  within = λ k below. frames_within (layout_of items) [] items k below;
  small = λ k below. (let room = framed cores own items valid k in omega (arith, room));
}

-- ---- what is promised

pub taken_is_formed : (cores own : ℕ) (items : List PlainItem) → cores ≤ 16 → IsValid items cores own
    → is_formed (single items) ≡ true
taken_is_formed cores own items few valid =
    unit_formed (weights_in items) (frames_in items) (with_calls items) (roomy cores own items valid)
    (single_is_formed cores own items few valid)

pub taken_meant : (cores own : ℕ) (items : List PlainItem) → cores ≤ 16 → IsValid items cores own → (input : List ℕ)
    (shared comm : ℕ → ℕ)
    → IsMeant (straight (single items) input shared comm) (meaning items input shared comm)
taken_meant cores own items few valid input shared comm =
    let same = taken_straight (weights_in items) (frames_in items) (with_calls items) input shared comm in
    let m = meant cores own items few valid input shared comm in
    record { value = ap (λ g. g.value) same ∙ m.value; world = ap (λ g. g.world) same ∙ m.world }

-- a function keeps to its weight and its frame
kept_at : (cores own : ℕ) (items : List PlainItem) → cores ≤ 16 → IsValid items cores own → (k : ℕ)
    → k < length (with_calls items).functions
    → (cost (slice_index_or (single items).functions k no_function) ≤ slice_index (weights_in items) k)
    × ((slice_index_or (single items).functions k no_function).frame ≤ slice_index (frames_in items) k)
kept_at cores own items few valid k below =
    let fs = (with_calls items).functions in
    let most = slice_index (weights_in items) k in
    let room = slice_index (frames_in items) k in
    let before = first_taken (weights_in items) (frames_in items) fs k in
    let f = slice_index_or fs k no_function in
    let formed = earlier_one fs k (length fs) below (functions_are_formed cores own items few valid) in
    let kept = function_kept before most room f (parts_of_function fs k f formed).mask in
    let is = first_at (weights_in items) (frames_in items) fs (length fs) k below
    ∙ taken_grown before fs k most room f (first_length (weights_in items) (frames_in items) fs k) formed in
    let light = kept.cost (costs_within (layout_of items) [] items k below) in
    let small = kept.frame (frames_within (layout_of items) [] items k below) in
    let costs = ap cost is in
    let frames = ap (λ (g : PlainFunction). g.frame) is in
    (omega (arith, light, costs), omega (arith, small, frames))

pub taken_costs : (cores own : ℕ) (items : List PlainItem) → cores ≤ 16 → IsValid items cores own → (k : ℕ)
    → k < length (single items).functions
    → cost (slice_index_or (single items).functions k no_function) ≤ slice_index (weights_in items) k
taken_costs cores own items few valid k below =
    let many = first_length (weights_in items) (frames_in items) (with_calls items).functions
    (length (with_calls items).functions) in
    (kept_at cores own items few valid k (omega (arith, below, many))).0

pub taken_frames : (cores own : ℕ) (items : List PlainItem) → cores ≤ 16 → IsValid items cores own → (k : ℕ)
    → k < length (single items).functions
    → (slice_index_or (single items).functions k no_function).frame ≤ slice_index (frames_in items) k
taken_frames cores own items few valid k below =
    let many = first_length (weights_in items) (frames_in items) (with_calls items).functions
    (length (with_calls items).functions) in
    (kept_at cores own items few valid k (omega (arith, below, many))).1

-- ---- what is used

each_so : (q : Use → Bool) (Z : Type 0) (us : List Use) → (list_any q us ≡ true → Z) → Each (λ x. q x ≡ true → Z) us
each_so q Z [] so = tt
each_so q Z (x ∷ us) so = (one (q x) so, each_so q Z us (λ later. so (more (q x) later)))
  where
    one : (b : Bool) → ((b || list_any q us) ≡ true → Z) → b ≡ true → Z
    one true so is = so refl
    one false so is = absurd (true≢false (sym is))

    more : (b : Bool) → list_any q us ≡ true → (b || list_any q us) ≡ true
    more true is = refl
    more false is = is

any_so : (q : Use → Bool) (Z : Type 0) (us : List Use) → Each (λ x. q x ≡ true → Z) us → list_any q us ≡ true → Z
any_so q Z [] each is = absurd (true≢false (sym is))
any_so q Z (x ∷ us) each is = by (q x) each.0 (any_so q Z us each.1) is
  where
    by : (b : Bool) → (b ≡ true → Z) → (list_any q us ≡ true → Z) → (b || list_any q us) ≡ true → Z
    by true here later is = here refl
    by false here later is = later is

-- a use of the tree with calls that are taken in is one of the tree
no_more : (q : Use → Bool) (Z : Type 0) (items : List PlainItem) → (list_any q (uses_of (with_calls items)) ≡ true → Z)
    → list_any q (uses_of (single items)) ≡ true → Z
no_more q Z items so =
    any_so q Z (uses_of (single items))
    (uses_each (λ x. q x ≡ true → Z) (weights_in items) (frames_in items) (with_calls items)
    (each_so q Z (uses_of (with_calls items)) so))

pub taken_reads : (a : Array) (items : List PlainItem) → list_any (reads_region (memory_of a)) (uses_of (single items))
    ≡ true → mentions a items ≡ true
taken_reads a items =
    no_more (reads_region (memory_of a)) (mentions a items ≡ true) items (reads_only_mentioned a items)

pub taken_writes : (a : Array) (items : List PlainItem) → list_any (writes_region (memory_of a)) (uses_of
    (single items)) ≡ true → assigns a items ≡ true
taken_writes a items =
    no_more (writes_region (memory_of a)) (assigns a items ≡ true) items (writes_only_assigned a items)

pub taken_sends : (core : ℕ) (items : List PlainItem) → list_any (is_send_to core) (uses_of (single items)) ≡ true
    → sends_to core items ≡ true
taken_sends core items = no_more (is_send_to core) (sends_to core items ≡ true) items (sends_only_sent core items)
