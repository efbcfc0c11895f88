-- The functions of a valid program are well formed.
use Rattle.std.proofs.Common.{◌≡◌, ℕ, zero, suc, ◌+◌, ◌^◌, ◌<◌, ◌≤◌, true, false, List, [], ◌∷◌, ◌++◌, length, is_some, slice_index, slice_index_or, refl, ap, ap₂, sym, ◌∙◌, subst, arith, append_assoc, length-append, lt-ltb, le-leb, eq-eqb, None}
use Rattle.std.proofs.lemmas.Bool.{and_from}
use Rattle.std.specs.List.{AllByRecursion as Each}
use Rattle.std.specs.Prelude.{codes}
use Rattle.c_tree.specs.declared.checks.Meaning.TheVariants as means
use Rattle.c_tree.specs.declared.layout.Slot.{Slot}
use Rattle.c_tree.specs.Layout.{layout_of}
use Rattle.c_tree.specs.Names.{Named, declared, given}
use Rattle.c_tree.specs.Plain.{PlainItem, global, function}
use Rattle.c_tree.specs.Valid.{IsValid, means_of, with_item}
use Rattle.sp_tree.specs.Formed.{slots_of, function_formed, functions_formed}
use Rattle.sp_tree.specs.Statements.{PlainFunction, no_function, masks}
use Rattle.c_meaning.specs.Actions.{PlainActions, no_action}
use Rattle.c_meaning.specs.Meaning.{parameter_variables}
use Rattle.c_meaning.specs.Resolve.{resolved_body, resolved_items, parameters_in}
use Rattle.single_path.specs.Made.{made}
use Rattle.single_path.specs.PartWords.{outermost}
use Rattle.single_path.specs.Single.{variables, begun_mask, made_function, made_functions, with_calls}
use Rattle.single_path.specs.Widths as width
use Rattle.c_tree.specs.Typed.{ItemsTyped}
use Rattle.c_tree.proofs.Typing.{typed_of}
use Rattle.single_path.proofs.FunctionNames.{Knows, knows_more, knows_global, knows_function, array_hides}
use Rattle.single_path.proofs.FormedParts.{MayCall, made_formed}
use Rattle.single_path.proofs.FramesWithin.{frame_within}
use Rattle.single_path.proofs.Functions.{outermost_order, made_at}
use Rattle.single_path.proofs.Sound.{Callable}
use Rattle.single_path.proofs.MasksFormed.{below, begun_formed, more_formed}
use Rattle.single_path.proofs.Placed.{SlotFits, layout_fits}
use Rattle.single_path.proofs.Sound.{AllSound}
use Rattle.single_path.proofs.SoundFunctions.{function_sound}

-- ---- the functions of a valid program are sound

nothing_known : (counts : List ℕ) → Knows [] [] counts
nothing_known counts = record { earlier = λ text c gives h. absurd (cc) }

given_known : (counts : List ℕ) → Knows given [] counts
given_known counts =
    let shared = knows_more [] [] counts (codes "shared") means.Array array_hides (nothing_known counts) in
    knows_more (declared [] (codes "shared") means.Array) [] counts (codes "comm") means.Array array_hides shared

-- what is known of a function with so many parameters
pub record FunctionSound (Fit : ℕ → ℕ → Type 0) (parameters : ℕ) (body : PlainActions) : Type 0 where
  pub few : parameters ≤ 6
  pub frame : (made_function parameters body).frame ≤ 120
  pub sound : AllSound Fit false body

at_front : (front : List ℕ) (c : ℕ) (counts : List ℕ) → slice_index (front ++ c ∷ counts) (length front) ≡ c
at_front [] c counts = refl
at_front (x ∷ front) c counts = at_front front c counts

module _ (cores own : ℕ) (low : cores ≤ 16) (slots : List Slot) (each : Each SlotFits slots) (counts : List ℕ) where
  items_sound : (names : List Named) (fs : List (List ℕ)) (front : List ℕ) → Knows names fs counts
      → (items : List PlainItem) → length front ≡ length fs → counts ≡ front ++ parameters_in items
      → ItemsTyped cores own names items → (k : ℕ) → k < length (resolved_items slots fs items)
      → FunctionSound (Callable counts (length fs + k)) (slice_index (parameters_in items) k)
      (slice_index_or (resolved_items slots fs items) k no_action)
  items_sound names fs front known [] count split typed k within = absurd (omega (arith, within))
  items_sound names fs front known (global g ∷ items) count split typed k within =
      items_sound (declared names g.name (means_of g)) fs front (knows_global names fs counts g.name g.length known)
      items count split typed.1 k within
  items_sound names fs front known (function kind text void_word ps body ∷ items) count split typed zero within =
      let same : length fs ≡ length fs + 0 = omega arith in
      subst (λ n. FunctionSound (Callable counts n) (length ps) (resolved_body fs
      (record { slots = slots; variables = parameter_variables ps }) body)) same
      (record {
        few = typed.0.few;
        frame = omega (arith, typed.0.framed, frame_within fs slots ps body);
        sound = function_sound cores own low fs counts slots each names known kind text ps body typed.0;
      })
  items_sound names fs front known (function kind text void_word ps body ∷ items) count split typed (suc j) within =
      let same : length (fs ++ text ∷ []) + j ≡ length fs + suc j = omega (arith, length-append fs (text ∷ [])) in
      subst (λ n. FunctionSound (Callable counts n) (slice_index (parameters_in items) j) (slice_index_or
      (resolved_items slots (fs ++ text ∷ []) items) j no_action)) same
      (items_sound (with_item names (function kind text void_word ps body)) (fs ++ text ∷ []) (front ++ length ps ∷ [])
      (knows_function names fs counts text (length ps) (is_some kind)
      (ap₂ slice_index split (sym count) ∙ at_front front (length ps) (parameters_in items)) known) items
      (length-append front (length ps ∷ []) ∙ ap (λ m. m + 1) count ∙ sym (length-append fs (text ∷ [])))
      (split ∙ sym (append_assoc front (length ps ∷ []) (parameters_in items))) typed.1 j (omega (arith, within)))

pub functions_sound : (cores own : ℕ) (items : List PlainItem) → cores ≤ 16 → IsValid items cores own → (k : ℕ)
    → k < length (resolved_items (layout_of items) [] items)
    → FunctionSound (Callable (parameters_in items) k) (slice_index (parameters_in items) k)
    (slice_index_or (resolved_items (layout_of items) [] items) k no_action)
functions_sound cores own items few valid k within =
    let counts = parameters_in items in
    let none_before : 0 + k ≡ k = omega arith in
    subst (λ n. FunctionSound (Callable counts n) (slice_index counts k)
    (slice_index_or (resolved_items (layout_of items) [] items) k no_action)) none_before
    (items_sound cores own few (layout_of items) (layout_fits cores own items valid) counts given [] []
    (given_known counts) items refl refl (typed_of cores own items valid).each k within)

-- ---- what is made of them is well formed

function_made_formed : (Fit : ℕ → ℕ → Type 0) (fs : List PlainFunction) (number : ℕ) → MayCall Fit fs number
    → (parameters : ℕ) (body : PlainActions) → FunctionSound Fit parameters body
    → function_formed fs number (made_function parameters body) ≡ true
function_made_formed Fit fs number each parameters body known =
    let n = variables parameters body in
    let p = outermost n in
    let f = made_function parameters body in
    let slots : slots_of f ≡ p.free + width.masks body = omega arith in
    let within : p.free ≤ slots_of f = omega (arith, slots) in
    and_from _ _ (le-leb f.frame 128 (omega (arith, known.frame)))
    (and_from _ _ (le-leb parameters 6 known.few)
    (and_from _ _ (le-leb parameters p.function (omega arith))
    (and_from _ _ (lt-ltb p.function (slots_of f) (omega (arith, within)))
    (and_from _ _ (le-leb parameters p.result (omega arith))
    (and_from _ _ (lt-ltb p.result (slots_of f) (omega (arith, within)))
    (more_formed fs number (slots_of f) (masks p.function (begun_mask p)) (made None p body)
    (begun_formed fs number (slots_of f) p (below n (slots_of f) p (outermost_order n) within))
    (made_formed Fit fs number (slots_of f) n each body false None p (outermost_order n) (omega arith)
    (omega (arith, slots)) known.sound)))))))

-- an earlier function is there, and has as many parameters as it is given arguments
callable_formed : (counts : List ℕ) (bodies : List PlainActions) (n : ℕ) → length counts ≡ length bodies
    → n ≤ length bodies
    → MayCall (Callable counts n) (made_functions counts bodies) n
callable_formed counts bodies n same within k args call =
    and_from _ _ (lt-ltb k n call.0)
    (eq-eqb args (slice_index_or (made_functions counts bodies) k no_function).parameters
    (call.1 ∙ sym (ap (λ f. f.parameters) (made_at counts bodies k (omega (arith, call.0, within, same))
    (omega (arith, call.0, within))))))

all_formed : (counts : List ℕ) (bodies : List PlainActions) → length counts ≡ length bodies
    → ((k : ℕ) → k < length bodies
    → FunctionSound (Callable counts k) (slice_index counts k) (slice_index_or bodies k no_action)) → (n : ℕ)
    → n ≤ length bodies
    → functions_formed (made_functions counts bodies) n ≡ true
all_formed counts bodies same sound zero within = refl
all_formed counts bodies same sound (suc n) within =
    and_from _ _ (all_formed counts bodies same sound n (omega (arith, within)))
    (ap (function_formed (made_functions counts bodies) n) (made_at counts bodies n (omega (arith, within, same))
    (omega (arith, within)))
    ∙ function_made_formed (Callable counts n) (made_functions counts bodies) n
    (callable_formed counts bodies n same (omega (arith, within))) (slice_index counts n)
    (slice_index_or bodies n no_action)
    (sound n (omega (arith, within))))

-- ---- a whole program

-- each function has parameters and a body
pub as_many : (slots : List Slot) (fs : List (List ℕ)) (items : List PlainItem)
    → length (parameters_in items) ≡ length (resolved_items slots fs items)
as_many slots fs [] = refl
as_many slots fs (global g ∷ items) = as_many slots fs items
as_many slots fs (function kind text void_word parameters body ∷ items) = ap suc (as_many slots (fs ++ text ∷ []) items)

pub made_length : (counts : List ℕ) (bodies : List PlainActions) → length counts ≡ length bodies
    → length (made_functions counts bodies) ≡ length bodies
made_length [] [] same = refl
made_length [] (body ∷ bodies) same = absurd (omega (arith, same))
made_length (n ∷ counts) [] same = absurd (omega (arith, same))
made_length (n ∷ counts) (body ∷ bodies) same = ap suc (made_length counts bodies (omega (arith, same)))

pub functions_are_formed : (cores own : ℕ) (items : List PlainItem) → cores ≤ 16 → IsValid items cores own
    → functions_formed (with_calls items).functions (length (with_calls items).functions) ≡ true
functions_are_formed cores own items few valid =
    let counts = parameters_in items in
    let bodies = resolved_items (layout_of items) [] items in
    let same = as_many (layout_of items) [] items in
    all_formed counts bodies same (functions_sound cores own items few valid)
    (length (made_functions counts bodies)) (omega (arith, made_length counts bodies same))

-- the frame of each function of a valid program
pub frames_small : (cores own : ℕ) (items : List PlainItem) → cores ≤ 16 → IsValid items cores own → (k : ℕ)
    → k < length (resolved_items (layout_of items) [] items)
    → (made_function (slice_index (parameters_in items) k) (slice_index_or (resolved_items (layout_of items) [] items) k
    no_action)).frame ≤ 120
frames_small cores own items few valid k within =
    (functions_sound cores own items few valid k within).frame

-- the same of parameters and actions that were found to be those of the program
pub frames_fit : (cores own : ℕ) (items : List PlainItem) → cores ≤ 16 → IsValid items cores own → (slots : List Slot)
    (counts : List ℕ)
    (bodies : List PlainActions) → slots ≡ layout_of items → counts ≡ parameters_in items → bodies
    ≡ resolved_items slots [] items → (k : ℕ)
    → k < length bodies → (made_function (slice_index counts k) (slice_index_or bodies k no_action)).frame < 2 ^ 32
frames_fit cores own items few valid slots counts bodies laid counted resolved k within =
    let same = resolved ∙ ap (λ l. resolved_items l [] items) laid in
    let many = ap length same in
    let frames = ap₂ (λ cs bs. (made_function (slice_index cs k) (slice_index_or bs k no_action)).frame) counted same in
    omega (arith, frames, frames_small cores own items few valid k (omega (arith, within, many)))
