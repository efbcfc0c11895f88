-- Functions that take in calls of functions without loops and calls have no more iterations and calls than before.
use Rattle.std.proofs.Common.{◌≡◌, ℕ, zero, suc, ◌+◌, ◌*◌, ◌<◌, ◌≤◌, ◌⊎◌, inl, inr, Bool, true, false, if◌then◌else◌, List, [], ◌∷◌, length, slice_index, slice_index_or, Option, None, Some, refl, sym, ap, ◌∙◌, subst, arith, mul-le-mul_left}
use Rattle.std.specs.Prelude.{max, nat_lt}
use Rattle.std.proofs.lemmas.Bool.{and_parts, ltb-true, cases_lt}
use Rattle.sp_tree.specs.Formed.{slots_of}
use Rattle.sp_tree.specs.Plain.{PlainSp, array_word, before_one, between_two}
use Rattle.sp_tree.specs.Statements.{PlainSpTarget, to_slot, to_cell, to_array, PlainStmt, masks, writes, calls, transfers, overruns, iterations, PlainStmts, no_stmt, stmt, one, joined, PlainFunction, no_function}
use Rattle.sp_inline.specs.declared.room.Room.{Room}
use Rattle.sp_inline.specs.Moved.{moved, args_moved, target_moved, stmt_moved, stmts_moved}
use Rattle.sp_inline.specs.Taken.{begun_words, handed, call_mask, entered, ends_so, front, shortened, given_set, call_statements, PlainCaller, Taken, callee, growth, room_after, is_whole, may_take, has_room, is_taken, call_taken, stmt_taken, stmts_taken, body_taken, grown, function_taken, first_taken}
use Rattle.sp_tree.specs.MaskTests.{tests_mask}
use Rattle.sp_inline.proofs.Entered.{entered_so}
use Rattle.sp_inline.proofs.Taking.{first_at, first_length}
use Rattle.weight_bounds.specs.Trees.{expr_iterations, args_iterations, target_iterations, stmt_iterations, stmts_iterations, stmt_call_count, stmts_call_count}
use Rattle.weight_bounds.specs.Leaves.{IsLeaf, AreLeaves, HasNoMore}
use Rattle.weight_bounds.proofs.Trees.{some_expr, some_args, some_stmt, joined_iterations, joined_calls}

-- ---- over further words of the frame all counts are the same

expr_same : (o : ℕ) (e : PlainSp) → expr_iterations (moved o e) ≡ expr_iterations e
expr_same o (array_word array index) = expr_same o index
expr_same o (before_one op of) = expr_same o of
expr_same o (between_two op a b) = omega (arith, expr_same o a, expr_same o b)
expr_same o _ = refl

args_same : (o : ℕ) (args : List PlainSp) → args_iterations (args_moved o args) ≡ args_iterations args
args_same o [] = refl
args_same o (e ∷ args) = omega (arith, expr_same o e, args_same o args)

target_same : (o : ℕ) (target : PlainSpTarget) → target_iterations (target_moved o target) ≡ target_iterations target
target_same o (to_slot slot) = refl
target_same o (to_cell cell) = refl
target_same o (to_array array index) = expr_same o index

mutual
  stmt_same : (o : ℕ) (t : PlainStmt) → stmt_iterations (stmt_moved o t) ≡ stmt_iterations t
  stmt_same o (masks slot e) = expr_same o e
  stmt_same o (writes mask target e) = omega (arith, target_same o target, expr_same o e)
  stmt_same o (calls mask k args result) = args_same o args
  stmt_same o (transfers mask core source target count) =
      omega (arith, expr_same o source, expr_same o target, expr_same o count)
  stmt_same o (overruns mask e) = expr_same o e
  stmt_same o (iterations count body) = ap (λ n. max 1 (count * n)) (stmts_same o body)

  stmts_same : (o : ℕ) (ts : PlainStmts) → stmts_iterations (stmts_moved o ts) ≡ stmts_iterations ts
  stmts_same o no_stmt = refl
  stmts_same o (stmt t rest) = omega (arith, stmt_same o t, stmts_same o rest)

mutual
  call_same : (o : ℕ) (t : PlainStmt) → stmt_call_count (stmt_moved o t) ≡ stmt_call_count t
  call_same o (iterations count body) = calls_same o body
  call_same o _ = refl

  calls_same : (o : ℕ) (ts : PlainStmts) → stmts_call_count (stmts_moved o ts) ≡ stmts_call_count ts
  calls_same o no_stmt = refl
  calls_same o (stmt t rest) = omega (arith, call_same o t, calls_same o rest)

-- ---- a call that is taken in

record IsWithin (most count : ℕ) (ts : PlainStmts) : Type 0 where
  iterations : stmts_iterations ts ≤ most
  calls : stmts_call_count ts ≤ count

begun_within : (at n : ℕ) (args : List PlainSp) → IsWithin (args_iterations args) 0 (begun_words at n args)
begun_within at zero [] = record { iterations = omega arith; calls = omega arith }
begun_within at zero (e ∷ args) = record { iterations = omega (arith, some_expr e); calls = omega arith }
begun_within at (suc n) [] = let x = begun_within (at + 1) n [] in record {
  iterations = omega (arith, x.iterations);
  calls = omega (arith, x.calls);
}
begun_within at (suc n) (e ∷ args) = let x = begun_within (at + 1) n args in
    record { iterations = omega (arith, x.iterations); calls = omega (arith, x.calls) }

-- the arguments with the mask, and a body without its first statement or its last
handed_within : (n : ℕ) (tests : Bool) (mask : ℕ) (args : List PlainSp)
    → args_iterations (handed n (call_mask tests mask) args) ≤ args_iterations args
handed_within zero true mask args = omega (arith, some_args args)
handed_within zero false mask args = omega (arith, some_args args)
handed_within (suc n) tests mask [] = omega (arith, handed_within n tests mask [])
handed_within (suc n) tests mask (e ∷ args) = omega (arith, handed_within n tests mask args)

entered_within : (tests : Bool) (ts : PlainStmts) → IsWithin (stmts_iterations ts) (stmts_call_count ts)
    (entered tests ts)
entered_within tests ts =
    entered_so (IsWithin (stmts_iterations ts) (stmts_call_count ts))
    (λ t rest h. record { iterations = omega (arith, h.iterations); calls = omega (arith, h.calls) })
    tests ts (record { iterations = omega arith; calls = omega arith })

front_within : (ts : PlainStmts) → IsWithin (stmts_iterations ts) (stmts_call_count ts) (front ts)
front_within no_stmt = record { iterations = omega arith; calls = omega arith }
front_within (stmt t no_stmt) = record { iterations = omega arith; calls = omega arith }
front_within (stmt t (stmt s rest)) = let x = front_within (stmt s rest) in
    record { iterations = omega (arith, x.iterations); calls = omega (arith, x.calls) }

shortened_leaf : (f : PlainFunction) → IsLeaf f → IsLeaf (shortened f)
shortened_leaf f leaf = by (ends_so f.result false f.body)
  where
    by : (b : Bool) → IsLeaf (record f { body = if b then front f.body else f.body })
    by true = let x = front_within f.body in record {
      iterations = omega (arith, x.iterations, leaf.iterations);
      calls = omega (arith, x.calls, leaf.calls);
    }
    by false = record { iterations = leaf.iterations; calls = leaf.calls }

given_within : (mask : ℕ) (result : Option ℕ) (word : ℕ) → IsWithin 1 0 (given_set mask result word)
given_within mask None word = record { iterations = omega arith; calls = omega arith }
given_within mask (Some slot) word = record { iterations = omega arith; calls = omega arith }

statements_within : (o : ℕ) (f : PlainFunction) (mask : ℕ) (args : List PlainSp) (result : Option ℕ) → IsLeaf f
    → IsWithin (args_iterations args) 0 (call_statements o f mask args result)
statements_within o f mask args result leaf =
    let tests = tests_mask f.mask f.body in
    let words = handed f.mask (call_mask tests mask) args in
    let begun = begun_words o (slots_of f) words in
    let given = given_set mask result (o + f.result) in
    let body = entered tests f.body in
    let own = stmts_moved o body in
    let last = joined own given in
    let a = begun_within o (slots_of f) words in
    let b = given_within mask result (o + f.result) in
    let e = entered_within tests f.body in
    record {
      iterations = omega (
        arith,
        joined_iterations begun last,
        joined_iterations own given,
        stmts_same o body,
        leaf.iterations,
        a.iterations,
        b.iterations,
        e.iterations,
        handed_within f.mask tests mask args,
        some_args args,
      );
      calls = omega (
        arith,
        joined_calls begun last,
        joined_calls own given,
        calls_same o body,
        leaf.calls,
        a.calls,
        b.calls,
        e.calls,
      );
    }

-- ---- statements

module _ (c : PlainCaller) (leaves : (k : ℕ) → k < length c.functions → IsLeaf (callee c k)) where
  call_within : (depth : ℕ) (r : Room) (mask k : ℕ) (args : List PlainSp) (result : Option ℕ)
      → IsWithin (args_iterations args) 1 (call_taken c depth r mask k args result).body
  call_within depth r mask k args result = by (is_taken c depth r k more args) refl
    where
      more : PlainStmts
      more = call_statements c.words (shortened (callee c k)) mask args result

      chosen : Bool → Taken
      chosen b = if b then record { body = more; room = room_after c depth r (callee c k) more args } else record {
        body = one (calls mask k args result);
        room = r;
      }

      by : (b : Bool) → is_taken c depth r k more args ≡ b → IsWithin (args_iterations args) 1 (chosen b).body
      by true is =
          let may = (and_parts (may_take c depth k args) (has_room c r (growth more args)
          (room_after c depth r (callee c k) more args)) is).0 in
          let there = (and_parts (nat_lt k (length c.functions)) _ (and_parts (nat_lt 0 depth) _ may).1).0 in
          let x = statements_within c.words (shortened (callee c k)) mask args result (shortened_leaf (callee c k)
          (leaves k (ltb-true k (length c.functions) there))) in
          record { iterations = x.iterations; calls = omega (arith, x.calls) }
      by false is = let some = some_stmt (calls mask k args result) in record {
        iterations = omega (arith, some);
        calls = omega arith;
      }

  kept_within : (t : PlainStmt) → IsWithin (stmt_iterations t) (stmt_call_count t) (one t)
  kept_within t = record { iterations = omega (arith, some_stmt t); calls = omega arith }

  mutual
    stmt_within : (depth : ℕ) (r : Room) (t : PlainStmt) → IsWithin (stmt_iterations t) (stmt_call_count t)
        (stmt_taken c depth r t).body
    stmt_within depth r (calls mask k args result) = call_within depth r mask k args result
    stmt_within depth r (iterations count body) =
        let x = stmts_within (depth + 1) r body in
        let times = mul-le-mul_left count x.iterations in
        record { iterations = omega (arith, times); calls = omega (arith, x.calls) }
    stmt_within depth r other = kept_within other

    stmts_within : (depth : ℕ) (r : Room) (ts : PlainStmts) → IsWithin (stmts_iterations ts) (stmts_call_count ts)
        (stmts_taken c depth r ts).body
    stmts_within depth r no_stmt = record { iterations = omega arith; calls = omega arith }
    stmts_within depth r (stmt t rest) =
        let first = stmt_taken c depth r t in
        let others = stmts_taken c depth first.room rest in
        let x = stmt_within depth r t in
        let y = stmts_within depth first.room rest in
        record {
          iterations = omega (arith, joined_iterations first.body others.body, x.iterations, y.iterations);
          calls = omega (arith, joined_calls first.body others.body, x.calls, y.calls);
        }

-- ---- functions

function_no_more : (fs : List PlainFunction) (most frame : ℕ) (f : PlainFunction)
    → ((k : ℕ) → k < length fs → IsLeaf (slice_index_or fs k no_function))
    → HasNoMore f (function_taken fs most frame f)
function_no_more fs most frame f leaves = by (is_whole (length fs) f)
  where
    by : (b : Bool) → HasNoMore f (if b then grown f (body_taken fs most frame f) else f)
    by true =
        let x = stmts_within (record { functions = fs; words = slots_of f; frame = frame }) leaves 0 _ f.body in
        record { iterations = x.iterations; calls = x.calls }
    by false = record { iterations = omega arith; calls = omega arith }

pub leaf_of : (f g : PlainFunction) → HasNoMore f g → IsLeaf f → IsLeaf g
leaf_of f g less leaf = record {
  iterations = omega (arith, less.iterations, leaf.iterations);
  calls = omega (arith, less.calls, leaf.calls);
}

module _ (most frames : List ℕ) (fs : List PlainFunction) where
  next_no_more : (n k : ℕ) → k < n → AreLeaves (first_taken most frames fs k) k
      → HasNoMore (slice_index_or fs k no_function) (slice_index_or (first_taken most frames fs n) k no_function)
  next_no_more n k below leaves =
      let before = first_taken most frames fs k in
      subst (HasNoMore (slice_index_or fs k no_function)) (sym (first_at most frames fs n k below))
      (function_no_more before (slice_index most k) (slice_index frames k) (slice_index_or fs k no_function)
      (λ j less. leaves j (omega (arith, less, first_length most frames fs k))))

  leaves_stay : (n : ℕ) → AreLeaves fs n → AreLeaves (first_taken most frames fs n) n
  leaves_stay zero leaves k below = absurd (omega (arith, below))
  leaves_stay (suc n) leaves k below = by (leaves_stay n (λ j less. leaves j (omega (arith, less)))) (cases_lt k n)
    where
      by : AreLeaves (first_taken most frames fs n) n → (k < n) ⊎ (n ≤ k)
          → IsLeaf (slice_index_or (first_taken most frames fs (suc n)) k no_function)
      by earlier (inl less) = subst IsLeaf (first_at most frames fs n k less
          ∙ sym (first_at most frames fs (suc n) k below)) (earlier k less)
      by earlier (inr past) =
          let here : k ≡ n = omega (arith, below, past) in
          leaf_of (slice_index_or fs k no_function) (slice_index_or (first_taken most frames fs (suc n)) k no_function)
          (next_no_more (suc n) k below (subst (λ m. AreLeaves (first_taken most frames fs m) m) (sym here) earlier))
          (leaves k below)

  pub taken_no_more : (n k : ℕ) → k < n → AreLeaves fs k → HasNoMore (slice_index_or fs k no_function) (slice_index_or
      (first_taken most frames fs n) k no_function)
  taken_no_more n k below leaves = next_no_more n k below (leaves_stay k leaves)
