-- What is so of all trees with the calls that they take in, of functions under another mask than 1.
use Rattle.std.proofs.Common.{◌≡◌, ◌≢◌, ℕ, zero, suc, ◌<◌, ◌≤◌, Bool, true, false, if◌then◌else◌, List, [], ◌∷◌, length, slice_index, slice_index_or, refl, ap, sym, ◌∙◌, arith, subst, ◌⊎◌, inl, inr}
use Rattle.std.proofs.lemmas.Bool.{cases_lt}
use Rattle.std.proofs.lemmas.List.{get_or_past}
use Rattle.c_tree.specs.Layout.{layout_of}
use Rattle.c_tree.specs.Plain.{PlainItem}
use Rattle.shared_order.specs.Words.{put}
use Rattle.c_world.specs.World.{World}
use Rattle.sp_tree.specs.Formed.{slots_of}
use Rattle.sp_tree.specs.Statements.{PlainFunction, no_function}
use Rattle.sp_tree.specs.Straight.{State, Outcome, Serves, stmts_done, begun_frame, serves}
use Rattle.sp_inline.specs.Taken.{is_whole, body_taken, grown, function_taken, first_taken}
use Rattle.sp_inline.proofs.Taking.{first_at, first_length, first_before, same_given}
use Rattle.c_meaning.specs.Actions.{PlainActions}
use Rattle.c_meaning.specs.Resolve.{resolved_items, parameters_in}
use Rattle.single_path.specs.Masked.{stmts_mask}
use Rattle.single_path.specs.Single.{made_functions, single, with_calls, weights_in, frames_in}
use Rattle.single_path.proofs.Functions.{made_stands, made_rests}
use Rattle.single_path.proofs.Idle.{Quiet}
use Rattle.single_path.proofs.OtherMasks.{quiet}
use Rattle.single_path.proofs.Resting.{all_rest}
use Rattle.single_path.proofs.TakenRests.{FunctionRests, function_rests, rests_of, function_both}

-- ---- all functions rest

functions_rest : (g : Serves) → Quiet g → (most frames : List ℕ) (fs : List PlainFunction)
    → ((k : ℕ) → FunctionRests g (slice_index_or fs k no_function)) → (n k : ℕ)
    → k < n → FunctionRests g (slice_index_or (first_taken most frames fs n) k no_function)
functions_rest g still most frames fs each zero k below = absurd (omega (arith, below))
functions_rest g still most frames fs each (suc n) k below =
    by (functions_rest g still most frames fs each n) (cases_lt k n)
  where
    by : ((j : ℕ) → j < n → FunctionRests g (slice_index_or (first_taken most frames fs n) j no_function))
        → (k < n) ⊎ (n ≤ k)
        → FunctionRests g (slice_index_or (first_taken most frames fs (suc n)) k no_function)
    by earlier (inl less) =
        subst (FunctionRests g) (first_before most frames fs n (suc n) k less below) (earlier k less)
    by earlier (inr past) =
        let same : n ≡ k = omega (arith, past, below) in
        subst (λ j. FunctionRests g (slice_index_or (first_taken most frames fs (suc n)) j no_function)) same
        (subst (FunctionRests g) (sym (first_at most frames fs (suc n) n (omega arith)))
        (function_rests g (function_taken (first_taken most frames fs n) (slice_index most n) (slice_index frames n)
        (slice_index_or fs n no_function))
        (λ under args w other. (function_both (first_taken most frames fs n) (slice_index most n)
        (slice_index frames n) g still
        (λ j within. earlier j (let size = first_length most frames fs n in omega (arith, within, size)))
        (slice_index_or fs n no_function) (each n)
        under args w other).0)))

-- ---- trees of programs

-- the words up to a function's result are its own
result_inside : (counts : List ℕ) (bodies : List PlainActions) (k x : ℕ) → k < length (made_functions counts bodies)
    → x ≤ (slice_index_or (made_functions counts bodies) k no_function).result
    → x < slots_of (slice_index_or (made_functions counts bodies) k no_function)
result_inside [] bodies k x there within = absurd (omega (arith, there))
result_inside (c ∷ counts) [] k x there within = absurd (omega (arith, there))
result_inside (c ∷ counts) (body ∷ bodies) zero x there within = omega (arith, within)
result_inside (c ∷ counts) (body ∷ bodies) (suc k) x there within =
    result_inside counts bodies k x (omega (arith, there)) within

pub taken_quiet : (items : List PlainItem) (n k under : ℕ) (args : List ℕ) (w : World) → under ≢ 1
    → (serves (single items).functions n k under args w).world ≡ w
taken_quiet items n k under args w other =
    ap (λ (x : Outcome). x.world) ((same_given (weights_in items) (frames_in items) (with_calls items).functions
    n).gives k under args w)
    ∙ quiet items n k under args w other

same_result : (before : List PlainFunction) (most frame : ℕ) (f : PlainFunction)
    → (function_taken before most frame f).result ≡ f.result
same_result before most frame f = by (is_whole (length before) f)
  where
    by : (b : Bool) → (if b then grown f (body_taken before most frame f) else f).result ≡ f.result
    by true = refl
    by false = refl

same_mask : (before : List PlainFunction) (most frame : ℕ) (f : PlainFunction)
    → (function_taken before most frame f).mask ≡ f.mask
same_mask before most frame f = by (is_whole (length before) f)
  where
    by : (b : Bool) → (if b then grown f (body_taken before most frame f) else f).mask ≡ f.mask
    by true = refl
    by false = refl

pub taken_words_stand : (items : List PlainItem) (n k under : ℕ) (args : List ℕ) (w : World) (x : ℕ) → under ≢ 1
    → let f = slice_index_or (single items).functions k no_function in x ≤ f.result
    → (stmts_done (serves (single items).functions n) f.body (record {
      frame = begun_frame f under args;
      world = w;
    })).frame x ≡ begun_frame f under args x
taken_words_stand items n k under args w x other = by (cases_lt k (length fs))
  where
    counts : List ℕ
    counts = parameters_in items

    bodies : List PlainActions
    bodies = resolved_items (layout_of items) [] items

    fs : List PlainFunction
    fs = (with_calls items).functions

    most : List ℕ
    most = weights_in items

    frames : List ℕ
    frames = frames_in items

    g : Serves
    g = serves (single items).functions n

    still : Quiet g
    still = record { world = λ j u vs v off. taken_quiet items n j u vs v off }

    Stands : PlainFunction → Type 0
    Stands f = x ≤ f.result
        → (stmts_done g f.body (record { frame = begun_frame f under args; world = w })).frame x
        ≡ begun_frame f under args x

    each : (j : ℕ) → FunctionRests g (slice_index_or fs j no_function)
    each j = function_rests g (slice_index_or fs j no_function)
        (λ u vs v off. made_rests g still counts bodies j u vs v off)

    by : (k < length fs) ⊎ (length fs ≤ k) → let f =
        slice_index_or (single items).functions k no_function in x ≤ f.result
        → (stmts_done g f.body (record { frame = begun_frame f under args; world = w })).frame x
        ≡ begun_frame f under args x
    by (inr past) =
        subst Stands (sym (get_or_past (single items).functions k no_function (let size = first_length most frames fs
        (length fs) in omega (arith, past, size))))
        (λ within. refl)
    by (inl there) =
        let f = slice_index_or fs k no_function in
        let before = first_taken most frames fs k in
        let m = slice_index most k in
        let r = slice_index frames k in
        let h = function_taken before m r f in
        let both = function_both before m r g still
        (λ j within. functions_rest g still most frames fs each k j (let size = first_length most frames fs k in
        omega (arith, within, size))) f (each k) under args w other in
        subst Stands (sym (first_at most frames fs (length fs) k there))
        (λ within.
        let old : x ≤ f.result = (let same = same_result before m r f in omega (arith, within, same)) in
        let begins : begun_frame h under args ≡ begun_frame f under args =
        ap (λ mask. put mask under (slice_index args)) (same_mask before m r f) in
        both.1 x (result_inside counts bodies k x there old)
        ∙ ap (λ words. let s : State = record { frame = words; world = w } in (stmts_done g f.body s).frame x) begins
        ∙ made_stands g still counts bodies k under args w x other old ∙ sym (ap (λ words. words x) begins))

pub taken_others_stand : (items : List PlainItem) (n k under : ℕ) (args : List ℕ) (w : World) (x : ℕ) → under ≢ 1
    → let f = slice_index_or (single items).functions k no_function in stmts_mask x f.body ≡ false
    → (stmts_done (serves (single items).functions n) f.body (record {
      frame = begun_frame f under args;
      world = w;
    })).frame x ≡ begun_frame f under args x
taken_others_stand items n k under args w x other none = by (cases_lt k (length fs)) none
  where
    fs : List PlainFunction
    fs = (with_calls items).functions

    most : List ℕ
    most = weights_in items

    frames : List ℕ
    frames = frames_in items

    g : Serves
    g = serves (single items).functions n

    still : Quiet g
    still = record { world = λ j u vs v off. taken_quiet items n j u vs v off }

    Stands : PlainFunction → Type 0
    Stands f = stmts_mask x f.body ≡ false
        → (stmts_done g f.body (record { frame = begun_frame f under args; world = w })).frame x
        ≡ begun_frame f under args x

    each : (j : ℕ) → FunctionRests g (slice_index_or fs j no_function)
    each j = function_rests g (slice_index_or fs j no_function)
        (λ u vs v off. made_rests g still (parameters_in items) (resolved_items (layout_of items) [] items) j u vs v
        off)

    by : (k < length fs) ⊎ (length fs ≤ k) → Stands (slice_index_or (single items).functions k no_function)
    by (inr past) =
        subst Stands (sym (get_or_past (single items).functions k no_function (let size = first_length most frames fs
        (length fs) in omega (arith, past, size))))
        (λ within. refl)
    by (inl there) =
        let f = slice_index_or (single items).functions k no_function in
        λ is. all_rest g x f.body (record { frame = begun_frame f under args; world = w })
        (rests_of g f (functions_rest g still most frames fs each (length fs) k there) under args w other) is
