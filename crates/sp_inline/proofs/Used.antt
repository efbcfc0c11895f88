-- A unit that takes in calls does with memories what it did, and no more.
use Rattle.std.proofs.Common.{◌≡◌, ℕ, zero, suc, ◌+◌, Bool, true, false, if◌then◌else◌, List, [], ◌∷◌, ◌++◌, length, Option, Some, None, slice_index, slice_index_or, refl, ap, sym, ap₂, subst}
use Rattle.std.specs.List.{AllByRecursion as Each, list_all}
use Rattle.std.proofs.lemmas.Bool.{and_parts, and_from}
use Rattle.shared_order.proofs.Lists.{each-append, each_first, each_rest, each_map}
use Rattle.sp_tree.specs.declared.expressions.SpCell.{SpCell}
use Rattle.sp_tree.specs.Formed.{slots_of}
use Rattle.sp_tree.specs.Plain.{PlainSp, constant, frame_word, cell_word, array_word, before_one, between_two}
use Rattle.sp_tree.specs.Statements.{one, PlainSpTarget, to_slot, to_cell, to_array, PlainStmt, masks, writes, calls, transfers, overruns, iterations, PlainStmts, no_stmt, stmt, joined, PlainFunction, no_function, PlainUnit}
use Rattle.sp_tree.specs.Uses.{Use, reads_cell, reads_array, writes_cell, writes_array, sends_to, expr_uses, args_uses, target_uses, stmt_uses, stmts_uses, functions_uses, uses_of, cell_apart, use_apart, are_apart}
use Rattle.sp_tree.proofs.Joins.{joined_uses}
use Rattle.sp_inline.specs.Moved.{moved, args_moved, target_moved, stmt_moved, stmts_moved}
use Rattle.sp_inline.specs.declared.room.Room.{Room}
use Rattle.sp_inline.proofs.Shortened.{short_is}
use Rattle.sp_inline.proofs.Entered.{entered_so}
use Rattle.sp_inline.specs.Taken.{begun_words, handed, call_mask, entered, given_set, call_statements, front, short_body, shortened, PlainCaller, Taken, callee, room_after, is_taken, kept, stmt_taken, stmts_taken, body_taken, grown, is_whole, function_taken, first_taken, unit_taken}
use Rattle.sp_tree.specs.MaskTests.{tests_mask}

-- ---- words of a frame from a place on

moved_expr : (o : ℕ) (e : PlainSp) → expr_uses (moved o e) ≡ expr_uses e
moved_expr o (array_word array index) = ap (λ us. reads_array array ∷ us) (moved_expr o index)
moved_expr o (before_one op of) = moved_expr o of
moved_expr o (between_two op a b) = ap₂ (λ us vs. us ++ vs) (moved_expr o a) (moved_expr o b)
moved_expr o _ = refl

moved_args : (o : ℕ) (args : List PlainSp) → args_uses (args_moved o args) ≡ args_uses args
moved_args o [] = refl
moved_args o (e ∷ args) = ap₂ (λ us vs. us ++ vs) (moved_expr o e) (moved_args o args)

moved_target : (o : ℕ) (target : PlainSpTarget) → target_uses (target_moved o target) ≡ target_uses target
moved_target o (to_slot slot) = refl
moved_target o (to_cell cell) = refl
moved_target o (to_array array index) = ap (λ us. writes_array array ∷ us) (moved_expr o index)

mutual
  moved_stmt : (o : ℕ) (t : PlainStmt) → stmt_uses (stmt_moved o t) ≡ stmt_uses t
  moved_stmt o (masks slot e) = moved_expr o e
  moved_stmt o (writes mask target e) = ap₂ (λ us vs. us ++ vs) (moved_target o target) (moved_expr o e)
  moved_stmt o (calls mask k args result) = moved_args o args
  moved_stmt o (transfers mask core source target count) =
      ap₂ (λ us vs. sends_to core ∷ (us ++ vs)) (moved_expr o source) (ap₂ (λ us vs. us ++ vs) (moved_expr o target)
      (moved_expr o count))
  moved_stmt o (overruns mask e) = moved_expr o e
  moved_stmt o (iterations count body) = moved_stmts o body

  moved_stmts : (o : ℕ) (ts : PlainStmts) → stmts_uses (stmts_moved o ts) ≡ stmts_uses ts
  moved_stmts o no_stmt = refl
  moved_stmts o (stmt t rest) = ap₂ (λ us vs. us ++ vs) (moved_stmt o t) (moved_stmts o rest)

-- ---- calls that are taken in

joined_each : (P : Use → Type 0) (xs ys : PlainStmts) → Each P (stmts_uses xs) → Each P (stmts_uses ys)
    → Each P (stmts_uses (joined xs ys))
joined_each P xs ys hx hy =
    subst (Each P) (sym (joined_uses xs ys)) (each-append P (stmts_uses xs) (stmts_uses ys) hx hy)

begun_each : (P : Use → Type 0) (at n : ℕ) (args : List PlainSp) → Each P (args_uses args)
    → Each P (stmts_uses (begun_words at n args))
begun_each P at zero args h = tt
begun_each P at (suc n) [] h = begun_each P (at + 1) n [] tt
begun_each P at (suc n) (e ∷ args) h =
    each-append P (expr_uses e) (stmts_uses (begun_words (at + 1) n args))
    (each_first P (expr_uses e) (args_uses args) h)
    (begun_each P (at + 1) n args (each_rest P (expr_uses e) (args_uses args) h))

handed_each : (P : Use → Type 0) (at : ℕ) (tests : Bool) (mask : ℕ) (args : List PlainSp) → Each P (args_uses args)
    → Each P (args_uses (handed at (call_mask tests mask) args))
handed_each P zero true mask args h = tt
handed_each P zero false mask args h = tt
handed_each P (suc n) tests mask [] h = handed_each P n tests mask [] tt
handed_each P (suc n) tests mask (e ∷ args) h =
    each-append P (expr_uses e) (args_uses (handed n (call_mask tests mask) args))
    (each_first P (expr_uses e) (args_uses args) h)
    (handed_each P n tests mask args (each_rest P (expr_uses e) (args_uses args) h))

-- a mask that is left out used nothing that the others do not
short_each : (P : Use → Type 0) (result : ℕ) (ts : PlainStmts) → Each P (stmts_uses ts)
    → Each P (stmts_uses (short_body result ts))
short_each P result ts h =
    short_is (λ xs. Each P (stmts_uses xs)) result ts h
    (λ x. each_first P (stmts_uses (front ts)) (stmts_uses (one (masks x.slot x.value)))
    (subst (Each P) (joined_uses (front ts) (one (masks x.slot x.value))) (subst (λ xs. Each P (stmts_uses xs))
    (sym x.is) h)))

given_each : (P : Use → Type 0) (mask : ℕ) (result : Option ℕ) (word : ℕ)
    → Each P (stmts_uses (given_set mask result word))
given_each P mask None word = tt
given_each P mask (Some slot) word = tt

call_each : (P : Use → Type 0) (o : ℕ) (f : PlainFunction) (mask : ℕ) (args : List PlainSp) (result : Option ℕ)
    → Each P (args_uses args) → Each P (stmts_uses f.body)
    → Each P (stmts_uses (call_statements o f mask args result))
call_each P o f mask args result h body =
    let tests = tests_mask f.mask f.body in
    let own = entered tests f.body in
    let all = handed f.mask (call_mask tests mask) args in
    let last = given_set mask result (o + f.result) in
    joined_each P (begun_words o (slots_of f) all) (joined (stmts_moved o own) last)
    (begun_each P o (slots_of f) all (handed_each P f.mask tests mask args h))
    (joined_each P (stmts_moved o own) last
    (subst (Each P) (sym (moved_stmts o own))
    (entered_so (λ xs. Each P (stmts_uses xs)) (λ t rest. each_rest P (stmt_uses t) (stmts_uses rest))
    tests f.body body))
    (given_each P mask result (o + f.result)))

one_each : (P : Use → Type 0) (t : PlainStmt) → Each P (stmt_uses t) → Each P (stmts_uses (stmt t no_stmt))
one_each P t h = each-append P (stmt_uses t) [] h tt

mutual
  stmt_each : (P : Use → Type 0) (c : PlainCaller) → ((k : ℕ) → Each P (stmts_uses (callee c k).body))
      → (depth : ℕ) (r : Room) (t : PlainStmt) → Each P (stmt_uses t)
      → Each P (stmts_uses (stmt_taken c depth r t).body)
  stmt_each P c each depth r (masks slot e) h = one_each P (masks slot e) h
  stmt_each P c each depth r (writes mask target e) h = one_each P (writes mask target e) h
  stmt_each P c each depth r (calls mask k args result) h =
      by (is_taken c depth r k (call_statements c.words (shortened (callee c k)) mask args result) args)
    where
      by : (b : Bool) → Each P (stmts_uses
          (if b then (let t : Taken = record {
            body = call_statements c.words (shortened (callee c k)) mask args result;
            room = room_after c depth r (callee c k) (call_statements c.words (shortened (callee c k)) mask args result)
                args;
          } in t) else kept r (calls mask k args result)).body)
      by true = call_each P c.words (shortened (callee c k)) mask args result h (short_each P (callee c k).result
          (callee c k).body (each k))
      by false = one_each P (calls mask k args result) h
  stmt_each P c each depth r (transfers mask core source target count) h =
      one_each P (transfers mask core source target count) h
  stmt_each P c each depth r (overruns mask e) h = one_each P (overruns mask e) h
  stmt_each P c each depth r (iterations count body) h =
      one_each P (iterations count (stmts_taken c (depth + 1) r body).body) (stmts_each P c each (depth + 1) r body h)

  stmts_each : (P : Use → Type 0) (c : PlainCaller) → ((k : ℕ) → Each P (stmts_uses (callee c k).body))
      → (depth : ℕ) (r : Room) (ts : PlainStmts) → Each P (stmts_uses ts)
      → Each P (stmts_uses (stmts_taken c depth r ts).body)
  stmts_each P c each depth r no_stmt h = tt
  stmts_each P c each depth r (stmt t rest) h =
      let first = stmt_taken c depth r t in
      joined_each P first.body (stmts_taken c depth first.room rest).body (stmt_each P c each depth r t
      (each_first P (stmt_uses t) (stmts_uses rest) h))
      (stmts_each P c each depth first.room rest (each_rest P (stmt_uses t) (stmts_uses rest) h))

-- ---- functions and units

function_each : (P : Use → Type 0) (fs : List PlainFunction) → Each P (functions_uses fs) → (k : ℕ)
    → Each P (stmts_uses (slice_index_or fs k no_function).body)
function_each P [] h k = tt
function_each P (f ∷ fs) h zero = each_first P (stmts_uses f.body) (functions_uses fs) h
function_each P (f ∷ fs) h (suc k) = function_each P fs (each_rest P (stmts_uses f.body) (functions_uses fs) h) k

pushed_each : (P : Use → Type 0) (fs : List PlainFunction) (f : PlainFunction) → Each P (functions_uses fs)
    → Each P (stmts_uses f.body)
    → Each P (functions_uses (fs ++ f ∷ []))
pushed_each P [] f h own = each-append P (stmts_uses f.body) [] own tt
pushed_each P (g ∷ fs) f h own =
    each-append P (stmts_uses g.body) (functions_uses (fs ++ f ∷ [])) (each_first P (stmts_uses g.body)
    (functions_uses fs) h)
    (pushed_each P fs f (each_rest P (stmts_uses g.body) (functions_uses fs) h) own)

first_each : (P : Use → Type 0) (most frames : List ℕ) (fs : List PlainFunction) → Each P (functions_uses fs) → (n : ℕ)
    → Each P (functions_uses (first_taken most frames fs n))
first_each P most frames fs h zero = tt
first_each P most frames fs h (suc n) = by (first_each P most frames fs h n)
  where
    before : List PlainFunction
    before = first_taken most frames fs n

    f : PlainFunction
    f = slice_index_or fs n no_function

    by : Each P (functions_uses before)
        → Each P (functions_uses (before ++ function_taken before (slice_index most n) (slice_index frames n) f ∷ []))
    by earlier = pushed_each P before (function_taken before (slice_index most n) (slice_index frames n) f) earlier
        (taken (is_whole (length before) f))
      where
        taken : (whole : Bool)
            → Each P (stmts_uses (if whole then grown f (body_taken before (slice_index most n) (slice_index frames n)
            f) else f).body)
        taken true = stmts_each P _ (function_each P before earlier) 0 _ f.body (function_each P fs h n)
        taken false = function_each P fs h n

pub uses_each : (P : Use → Type 0) (most frames : List ℕ) (u : PlainUnit) → Each P (uses_of u)
    → Each P (uses_of (unit_taken most frames u))
uses_each P most frames u h = first_each P most frames u.functions h (length u.functions)

-- ---- private variables and private arrays

all_each : (Q : Use → Bool) (us : List Use) → list_all Q us ≡ true → Each (λ x. Q x ≡ true) us
all_each Q [] h = tt
all_each Q (x ∷ us) h = let both = and_parts (Q x) (list_all Q us) h in (both.0, all_each Q us both.1)

each_all : (Q : Use → Bool) (us : List Use) → Each (λ x. Q x ≡ true) us → list_all Q us ≡ true
each_all Q [] h = refl
each_all Q (x ∷ us) h = and_from (Q x) (list_all Q us) h.0 (each_all Q us h.1)

pub still_apart : (most frames : List ℕ) (u : PlainUnit) → are_apart (uses_of u) ≡ true
    → are_apart (uses_of (unit_taken most frames u)) ≡ true
still_apart most frames u h =
    each_all (use_apart now) now (each_map (λ x. use_apart (uses_of u) x ≡ true) (λ x. use_apart now x ≡ true) one now
    (uses_each (λ x. use_apart (uses_of u) x ≡ true) most frames u (all_each (use_apart (uses_of u)) (uses_of u) h)))
  where
    now : List Use
    now = uses_of (unit_taken most frames u)

    cell : (c : SpCell) → list_all (cell_apart c) (uses_of u) ≡ true → list_all (cell_apart c) now ≡ true
    cell c is = each_all (cell_apart c) now
        (uses_each (λ x. cell_apart c x ≡ true) most frames u (all_each (cell_apart c) (uses_of u) is))

    one : (x : Use) → use_apart (uses_of u) x ≡ true → use_apart now x ≡ true
    one (reads_cell c) is = cell c is
    one (writes_cell c) is = cell c is
    one _ is = refl

pub all_uses : (q : Use → Bool) (most frames : List ℕ) (u : PlainUnit) → list_all q (uses_of u) ≡ true
    → list_all q (uses_of (unit_taken most frames u)) ≡ true
all_uses q most frames u h = each_all q (uses_of (unit_taken most frames u)) (uses_each (λ x. q x ≡ true) most frames u
    (all_each q (uses_of u) h))
