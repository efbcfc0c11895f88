-- What each function may weigh and how many words its frame may have, as words tell it.
use Rattle.std.proofs.Common.{◌≡◌, ℕ, zero, suc, ◌+◌, ◌<◌, ◌≤◌, ◌^◌, slice_index, List, [], ◌∷◌, ◌++◌, length, map, get_or, drop, refl, sym, ◌∙◌, ap, ap₂, arith, IfOk, append_assoc}
use Rattle.std.specs.List.{AllByRecursion as Each}
use Rattle.std.specs.Prelude.{Result, Ok, Err}
use Rattle.std.proofs.lemmas.List.{drop_all, append-nil}
use Rattle.tc_word.proofs.Items.{drop_item}
use Rattle.c_tree.specs.declared.units.Function.{Function}
use Rattle.c_tree.specs.declared.units.Global.{Global}
use Rattle.c_tree.specs.declared.units.Item.{Item}
use Rattle.c_tree.specs.declared.units.Item.TheVariants as item
use Rattle.c_tree.specs.Frame.{function_frame}
use Rattle.c_tree.specs.Names.{Named, given}
use Rattle.c_tree.specs.Plain.{PlainItem, global, function, plain_item, plain_stmt}
use Rattle.c_tree.specs.Valid.{IsValid, with_item}
use Rattle.c_tree.specs.Weight.{function_weight}
use Rattle.c_tree.specs.Typed.{ItemsTyped}
use Rattle.c_tree.proofs.Typing.{typed_of}
use Rattle.c_tree.specs.declared.limits.TheConstants.{MOST_FRAME_WORDS, MOST_FUNCTION_WEIGHT}
use Rattle.c_check.specs.Capped.{capped}
use Rattle.sp_tree.specs.declared.statements.SpUnit.{SpUnit}
use Rattle.sp_tree.specs.Shown.{plain_unit}
use Rattle.sp_tree.specs.Statements.{PlainUnit}
use Rattle.sp_inline.specs.Taken.{unit_taken}
use Rattle.single_path.specs.Single.{single, with_calls, weights_in, frames_in}

-- ---- of a valid program

-- none is heavier than a function may be
weights_within : (cores own : ℕ) (names : List Named) (items : List PlainItem) → ItemsTyped cores own names items
    → Each (λ w. w ≤ MOST_FUNCTION_WEIGHT) (weights_in items)
weights_within cores own names [] typed = tt
weights_within cores own names (global g ∷ items) typed =
    weights_within cores own (with_item names (global g)) items typed.1
weights_within cores own names (function kind text void_word parameters body ∷ items) typed = (
  typed.0.light,
  weights_within cores own (with_item names (function kind text void_word parameters body)) items
      typed.1,
)

-- none has more words in its frame
frames_within : (cores own : ℕ) (names : List Named) (items : List PlainItem) → ItemsTyped cores own names items
    → Each (λ w. w ≤ MOST_FRAME_WORDS) (frames_in items)
frames_within cores own names [] typed = tt
frames_within cores own names (global g ∷ items) typed =
    frames_within cores own (with_item names (global g)) items typed.1
frames_within cores own names (function kind text void_word parameters body ∷ items) typed = (
  typed.0.framed,
  frames_within cores own (with_item names (function kind text void_word parameters body)) items
      typed.1,
)

within_at : (most : ℕ) (ws : List ℕ) → Each (λ w. w ≤ most) ws → (k : ℕ) → slice_index ws k ≤ most
within_at most [] within k = omega arith
within_at most (w ∷ ws) within zero = within.0
within_at most (w ∷ ws) within (suc k) = within_at most ws within.1 k

pub light : (cores own : ℕ) (items : List PlainItem) → IsValid items cores own → (k : ℕ)
    → slice_index (weights_in items) k ≤ MOST_FUNCTION_WEIGHT
light cores own items valid =
    within_at MOST_FUNCTION_WEIGHT (weights_in items) (weights_within cores own given items
    (typed_of cores own items valid).each)

pub framed : (cores own : ℕ) (items : List PlainItem) → IsValid items cores own → (k : ℕ)
    → slice_index (frames_in items) k ≤ MOST_FRAME_WORDS
framed cores own items valid =
    within_at MOST_FRAME_WORDS (frames_in items) (frames_within cores own given items
    (typed_of cores own items valid).each)

-- they are told whole
told : (most : ℕ) (ws : List ℕ) → most < 2 ^ 32 → Each (λ w. w ≤ most) ws → map capped ws ≡ ws
told most [] small within = refl
told most (w ∷ ws) small within = ap₂ (λ x xs. x ∷ xs) (omega (arith, small, within.0)) (told most ws small within.1)

if_same : {E : Type 0} (made : Result SpUnit E) (a b : PlainUnit) → a ≡ b → IfOk made (λ u. plain_unit u ≡ a)
    → IfOk made (λ u. plain_unit u ≡ b)
if_same (Ok u) a b same is = is ∙ same
if_same (Err e) a b same is = is

pub taken_same : {E : Type 0} (cores own : ℕ) (items : List PlainItem) → IsValid items cores own
    → (shown : List PlainItem) → shown ≡ items → (tree : PlainUnit)
    (weights frames : List ℕ) (made : Result SpUnit E) → tree ≡ with_calls items → weights
    ≡ map capped (weights_in shown) → frames ≡ map capped (frames_in shown)
    → IfOk made (λ u. plain_unit u ≡ unit_taken weights frames tree) → IfOk made (λ u. plain_unit u ≡ single items)
taken_same cores own items valid shown same tree weights frames made is_tree is_weights is_frames =
    let typed = (typed_of cores own items valid).each in
    let w = is_weights ∙ ap (λ x. map capped (weights_in x)) same ∙ told MOST_FUNCTION_WEIGHT (weights_in items)
    (omega arith) (weights_within cores own given items typed) in
    let f = is_frames ∙ ap (λ x. map capped (frames_in x)) same ∙ told MOST_FRAME_WORDS (frames_in items)
    (omega arith) (frames_within cores own given items typed) in
    if_same made (unit_taken weights frames tree) (single items) (λ i. unit_taken (w i) (f i) (is_tree i))

-- ---- one function more, or a variable

abbrev pub told_weights : List Item → List ℕ
told_weights items = map capped (weights_in (map plain_item items))

abbrev pub told_frames : List Item → List ℕ
told_frames items = map capped (frames_in (map plain_item items))

pub next_weight : (front : List ℕ) (w : ℕ) (items : List Item) (i : ℕ) (x : Item) (f : Function) (whole : List ℕ)
    → i < length items → x ≡ get_or items i x
    → x ≡ item.Function f → w ≡ capped (function_weight (map plain_stmt f.body)) → front ++ told_weights (drop i items)
    ≡ whole
    → (front ++ w ∷ []) ++ told_weights (drop (i + 1) items) ≡ whole
next_weight front w items i x f whole within at is weighs so_far =
    append_assoc front (w ∷ []) (told_weights (drop (i + 1) items))
    ∙ ap (λ n. front ++ n ∷ told_weights (drop (i + 1) items)) weighs
    ∙ sym (ap (λ xs. front ++ told_weights xs) (drop_item items i x within at ∙ ap (λ y. y ∷ drop (i + 1) items) is))
    ∙ so_far

pub same_weights : (front : List ℕ) (items : List Item) (i : ℕ) (x : Item) (g : Global) (whole : List ℕ)
    → i < length items → x ≡ get_or items i x
    → x ≡ item.Global g → front ++ told_weights (drop i items) ≡ whole → front ++ told_weights (drop (i + 1) items)
    ≡ whole
same_weights front items i x g whole within at is so_far =
    sym (ap (λ xs. front ++ told_weights xs) (drop_item items i x within at ∙ ap (λ y. y ∷ drop (i + 1) items) is))
    ∙ so_far

pub all_weights : (front : List ℕ) (items : List Item) (i : ℕ) (whole : List ℕ) → length items ≤ i → front
    ++ told_weights (drop i items) ≡ whole → front ≡ whole
all_weights front items i whole past so_far =
    sym (append-nil front) ∙ ap (λ xs. front ++ told_weights xs) (sym (drop_all i items past)) ∙ so_far

pub next_frame : (front : List ℕ) (w : ℕ) (items : List Item) (i : ℕ) (x : Item) (f : Function) (whole : List ℕ)
    → i < length items → x ≡ get_or items i x
    → x ≡ item.Function f → w ≡ capped (function_frame f.parameters (map plain_stmt f.body)) → front
    ++ told_frames (drop i items) ≡ whole
    → (front ++ w ∷ []) ++ told_frames (drop (i + 1) items) ≡ whole
next_frame front w items i x f whole within at is wide so_far =
    append_assoc front (w ∷ []) (told_frames (drop (i + 1) items))
    ∙ ap (λ n. front ++ n ∷ told_frames (drop (i + 1) items)) wide
    ∙ sym (ap (λ xs. front ++ told_frames xs) (drop_item items i x within at ∙ ap (λ y. y ∷ drop (i + 1) items) is))
    ∙ so_far

pub same_frames : (front : List ℕ) (items : List Item) (i : ℕ) (x : Item) (g : Global) (whole : List ℕ)
    → i < length items → x ≡ get_or items i x
    → x ≡ item.Global g → front ++ told_frames (drop i items) ≡ whole → front ++ told_frames (drop (i + 1) items)
    ≡ whole
same_frames front items i x g whole within at is so_far =
    sym (ap (λ xs. front ++ told_frames xs) (drop_item items i x within at ∙ ap (λ y. y ∷ drop (i + 1) items) is))
    ∙ so_far

pub all_frames : (front : List ℕ) (items : List Item) (i : ℕ) (whole : List ℕ) → length items ≤ i → front
    ++ told_frames (drop i items) ≡ whole → front ≡ whole
all_frames front items i whole past so_far =
    sym (append-nil front) ∙ ap (λ xs. front ++ told_frames xs) (sym (drop_all i items past)) ∙ so_far
