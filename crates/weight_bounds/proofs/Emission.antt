-- Emitted code: its iterations and calls are those of its tree, and each call, and the function itself, takes or
-- brings back the words of a frame once.
use Rattle.std.proofs.Common.{Bool, false, ◌≡◌, ℕ, ◌+◌, ◌-◌, ◌*◌, ◌≤◌, ◌==◌, nat_lt, true, List, [], ◌∷◌, ◌++◌, Option, None, Some, refl, arith, mul-le-mul_left}
use Rattle.std.specs.Prelude.{max}
use Rattle.std.specs.List.{list_all}
use Rattle.std.proofs.lemmas.Bool.{and_parts, eqb-true}
use Rattle.patmos_instr.specs.Bundles.{PlainBundle}
use Rattle.patmos_instr.specs.declared.instructions.Op.{Op}
use Rattle.sp_tree.specs.Formed.{slots_of}
use Rattle.sp_tree.specs.Need.{need}
use Rattle.sp_tree.specs.Plain.{PlainSp, constant, frame_word, cell_word, array_word, before_one, between_two}
use Rattle.sp_tree.specs.Statements.{PlainSpTarget, to_slot, to_cell, to_array, PlainStmt, masks, writes, calls, transfers, overruns, iterations, PlainStmts, no_stmt, stmt, PlainFunction}
use Rattle.sp_tree.specs.declared.operators.SpBinary.{SpBinary}
use Rattle.sp_shape.specs.Parts.{straight, repeats, PlainParts, one, joined}
use Rattle.sp_emit.specs.Division.{unsigned_quotient_to}
use Rattle.sp_emit.specs.Expressions.{word_code, unary_code, binary_code, held_code, cell_code, element_code, number_of, value_at, value_code, operands_code, expr_to, expr_code, is_immediate}
use Rattle.sp_emit.specs.Flags.{behind_first, begun_body}
use Rattle.sp_emit.specs.Functions.{first_counter, frame_words, arguments_kept, state_kept, frame_taken, function_begin, function_end, function_rest, body_code, function_code}
use Rattle.sp_emit.specs.Instructions.{always, where_so, under, set_number, combine}
use Rattle.sp_emit.specs.Places.{flag_of, mask_test, told_at, set_word, words_cleared}
use Rattle.sp_emit.specs.Truths.{bit_sought}
use Rattle.sp_emit.specs.Statements.{slot_write, result_write, cell_write, element_write, target_write, guarded_code, args_code, call_code, send_code, overrun_code, iterations_begin, iterations_tail, slot_set, stmt_code, stmts_code, mask_handed}
use Rattle.sp_emit.specs.declared.registers.TheConstants.{RESULT, FIRST}
use Rattle.sp_emit.proofs.Around.{kept_in, ends_in, wide_begins, wide_ends}
use Rattle.sp_emit.proofs.Effects.{Footprint, is_in, AreIn, everything, IsWide}
use Rattle.sp_tree.proofs.Forms.{FunctionParts}
use Rattle.patmos_instr.specs.declared.functions.StackFunc.{StackFunc}
use Rattle.patmos_instr.specs.declared.functions.StackFunc.TheVariants.{Sfree}
use Rattle.sp_emit.proofs.BegunBody.{begun_is}
use Rattle.sp_emit.proofs.Footprints.{tests_in, unary_in, held_in, number_in, set_in, word_in, bit_in, seek_in, match_in, begin_in, tail_in, handed_in, overrun_in, cell_in, element_in, cell_write_in, element_write_in, send_in, alu_in}
use Rattle.sp_shape.proofs.Lists.{all_weaker}
use Rattle.sp_emit.proofs.Codes.{taken_is}
use Rattle.sp_emit.proofs.Lasts.{is_alu, write_is}
use Rattle.sp_emit.proofs.Operands.{Handed, one_of, operands_are, mask_is}
use Rattle.sp_emit.proofs.TruthCode.{TruthParts, flag_is}
use Rattle.sp_emit.specs.declared.stands.Flags.{Flags}
use Rattle.sp_emit.specs.declared.stands.Homes.{Homes}
use Rattle.weight_bounds.specs.Counts.{parts_iterations, parts_calls, bundle_past, bundles_past, parts_past}
use Rattle.weight_bounds.specs.Trees.{op_iterations, expr_iterations, args_iterations, target_iterations, stmt_iterations, stmts_iterations, stmt_call_count, stmts_call_count}
use Rattle.weight_bounds.proofs.Trees.{some_expr, some_args}
use Rattle.weight_bounds.proofs.Bounding.{IsFewOf}
use Rattle.weight_bounds.proofs.Joins.{joined_iterations, joined_calls, joined_past, past_append}

-- code of at most so many iterations and calls, with a stack instruction at each call
pub record IsFew (most count : ℕ) (ps : PlainParts) : Type 0 where
  pub some : 1 ≤ most
  pub iterations : parts_iterations ps ≤ most
  pub calls : parts_calls ps ≤ count
  pub past : parts_past ps ≤ 31 * count

few_both : (most a b : ℕ) (xs ys : PlainParts) → IsFew most a xs → IsFew most b ys → IsFew most (a + b) (joined xs ys)
few_both most a b xs ys x y = record {
  some = x.some;
  iterations = omega (arith, joined_iterations xs ys, x.iterations, y.iterations);
  calls = omega (arith, joined_calls xs ys, x.calls, y.calls);
  past = omega (arith, joined_past xs ys, x.past, y.past);
}

few_more : (i j count : ℕ) (ps : PlainParts) → i ≤ j → IsFew i count ps → IsFew j count ps
few_more i j count ps more x = record {
  some = omega (arith, more, x.some);
  iterations = omega
      (arith, more, x.iterations);
  calls = x.calls;
  past = x.past;
}

few_straight : (most count : ℕ) (bs : List PlainBundle) → 1 ≤ most → bundles_past bs ≤ 31 * count
    → IsFew most count (one (straight bs))
few_straight most count bs some past =
    record { some = some; iterations = omega (arith, some); calls = omega arith; past = omega (arith, past) }

-- ---- bundles that have no transactions past one

abbrev is_quick : PlainBundle → Bool
is_quick b = bundle_past b == 0

-- no words of the stack are taken, and no frame is brought back
abbrev frees : StackFunc → ℕ → Bool
frees Sfree count = true
frees _ count = false

abbrev quick : Footprint
quick = record everything { stacks = frees }

quick_wide : IsWide quick
quick_wide = record { sets = λ r. refl; reads = λ word. refl; stores = λ word. refl }

is_kept : (b : PlainBundle) → is_in quick b ≡ true → is_quick b ≡ true
is_kept b within = grind (arith, within)

all_quick : (bs : List PlainBundle) → AreIn quick bs → list_all is_quick bs ≡ true
all_quick bs = all_weaker (is_in quick) is_quick is_kept bs

none_past : (bs : List PlainBundle) → list_all is_quick bs ≡ true → bundles_past bs ≤ 0
none_past [] h = omega arith
none_past (b ∷ bs) h =
    let both = and_parts (is_quick b) (list_all is_quick bs) h in
    omega (arith, eqb-true (bundle_past b) 0 both.0, none_past bs both.1)

in_past : (bs : List PlainBundle) → AreIn quick bs → bundles_past bs ≤ 0
in_past bs all = none_past bs (all_quick bs all)

few_lone : (most : ℕ) (bs : List PlainBundle) → 1 ≤ most → AreIn quick bs → IsFew most 0 (one (straight bs))
few_lone most bs some all = few_straight most 0 bs some (omega (arith, in_past bs all))

-- ---- expressions

binary_iterations : (op : SpBinary) (rd ra rb : ℕ) → parts_iterations (binary_code op rd ra rb) ≤ op_iterations op
binary_iterations op rd ra rb = grind arith

binary_calls : (op : SpBinary) (rd ra rb : ℕ) → parts_calls (binary_code op rd ra rb) ≤ 0
binary_calls op rd ra rb = grind arith

binary_past : (op : SpBinary) (rd ra rb : ℕ) → parts_past (binary_code op rd ra rb) ≤ 0
unfolding unsigned_quotient_to
binary_past op rd ra rb = grind arith

binary_few : (most : ℕ) (op : SpBinary) (rd ra rb : ℕ) → 1 ≤ most → op_iterations op ≤ most
    → IsFew most 0 (binary_code op rd ra rb)
binary_few most op rd ra rb some within = record {
  some = some;
  iterations = omega (arith, binary_iterations op rd ra rb, within);
  calls = binary_calls op rd ra rb;
  past = omega (arith, binary_past op rd ra rb);
}

value_few : (most : ℕ) (homes : Homes) (e : PlainSp) (rd to : ℕ) → 1 ≤ most → expr_iterations e ≤ most
    → IsFew most 0 (value_code homes e rd to)
value_few most homes (constant n) rd to some within =
    few_lone most (set_number to n ∷ []) some (rw (number_in quick to n refl) refl)
value_few most homes (frame_word slot) rd to some within =
    few_lone most (word_code (flag_of homes.flags slot) homes.first to slot) some
    (word_in quick homes to slot refl (λ out. refl))
value_few most homes (cell_word cell) rd to some within =
    few_lone most (cell_code cell to) some (cell_in quick cell to refl refl)
value_few most homes (array_word array index) rd to some within =
    few_lone most (element_code array to (value_at homes index rd)) some
    (element_in quick array to (value_at homes index rd) refl refl)
value_few most homes (before_one op of) rd to some within = few_lone most
    (unary_code op to (value_at homes of rd)) some (unary_in quick op to (value_at homes of rd) refl)
value_few most homes (between_two op a b) rd to some within =
    let own : op_iterations op ≤ most = omega (arith, within) in
    one_of (IsFew most 0) (is_immediate op b) (nat_lt (need a) (need b))
    (one (straight (held_code op to (value_at homes a rd) (number_of b))))
    (binary_code op to (value_at homes a (rd + 1)) (value_at homes b rd))
    (binary_code op to (value_at homes a rd) (value_at homes b (rd + 1)))
    (few_lone most (held_code op to (value_at homes a rd) (number_of b)) some
    (held_in quick op to (value_at homes a rd) (number_of b) refl))
    (λ less. binary_few most op to (value_at homes a (rd + 1)) (value_at homes b rd) some own)
    (λ more. binary_few most op to (value_at homes a rd) (value_at homes b (rd + 1)) some own)

iterations_handed : (most : ℕ) → Handed (λ e rd. expr_iterations e ≤ most)
iterations_handed most = record {
  index = λ array index rd h. h;
  operand = λ op of rd h. h;
  first = λ op a b rd h. omega (arith, h);
  second = λ op a b rd h. omega (arith, h);
  first_behind = λ op a b rd less h. omega (arith, h);
  second_behind = λ op a b rd more h. omega (arith, h);
}

operands_few : (most : ℕ) (homes : Homes) (e : PlainSp) (rd : ℕ) → 1 ≤ most → expr_iterations e ≤ most
    → IsFew most 0 (operands_code homes e rd)
operands_few most homes e rd some within =
    operands_are (IsFew most 0) homes (λ e rd. expr_iterations e ≤ most)
    (record { some = some; iterations = some; calls = omega arith; past = omega arith }) (few_both most 0 0)
    (iterations_handed most)
    (λ e rd h. value_few most homes e rd rd some h) e rd within

expr_few : (most : ℕ) (homes : Homes) (e : PlainSp) (rd to : ℕ) → 1 ≤ most → expr_iterations e ≤ most
    → IsFew most 0 (expr_to homes e rd to)
expr_few most homes e rd to some within = few_both most 0 0 (operands_code homes e rd) (value_code homes e rd to)
    (operands_few most homes e rd some within) (value_few most homes e rd to some within)

args_few : (most : ℕ) (homes : Homes) (args : List PlainSp) (rd : ℕ) → 1 ≤ most → args_iterations args ≤ most
    → IsFew most 0 (args_code homes args rd)
args_few most homes [] rd some within =
    record { some = some; iterations = some; calls = omega arith; past = omega arith }
args_few most homes (e ∷ args) rd some within =
    few_both most 0 0 (expr_code homes e rd) (args_code homes args (rd + 1)) (expr_few most homes e rd rd some
    (omega (arith, within))) (args_few most homes args (rd + 1) some (omega (arith, within)))

truths_few : (most : ℕ) (homes : Homes) → 1 ≤ most → TruthParts (IsFew most 0) homes (λ e. expr_iterations e ≤ most)
truths_few most homes some = record {
  none = record { some = some; iterations = some; calls = omega arith; past = omega arith };
  both = few_both most 0 0;
  first = λ op a b h. omega (arith, h);
  second = λ op a b h. omega (arith, h);
  operands = λ e h. operands_few most homes e FIRST some h;
  tests = λ bs tests. few_lone most bs some (tests_in quick bs tests);
  bits = λ slot h. few_lone most (bit_sought homes.first slot) some (bit_in quick homes.first slot (λ out. refl));
}

-- ---- statements

target_few : (most : ℕ) (homes : Homes) (mask : ℕ) (target : PlainSpTarget) → 1 ≤ most → target_iterations target ≤ most
    → IsFew most 0 (target_write homes mask target)
target_few most homes mask (to_slot slot) some within =
    few_lone most (slot_write homes mask slot) some (rw (
      seek_in quick homes mask (λ out. refl),
      match_in quick homes mask,
      set_in quick homes.first (where_so (told_at homes mask)) slot FIRST refl (λ out. refl),
    ) refl)
target_few most homes mask (to_cell cell) some within =
    few_lone most (cell_write homes mask cell) some (cell_write_in quick homes mask cell refl (λ out. refl))
target_few most homes mask (to_array array index) some within =
    few_both most 0 0 (expr_code homes index (FIRST + 1)) (one (straight (element_write homes mask array)))
    (expr_few most homes index (FIRST + 1) (FIRST + 1) some within)
    (few_lone most (element_write homes mask array) some
    (element_write_in quick homes mask array refl refl (λ out. refl)))

guarded_few : (most : ℕ) (homes : Homes) (mask to : ℕ) (e : PlainSp) (op : Op) → 1 ≤ most → expr_iterations e ≤ most
    → is_alu to op ≡ true → IsFew most 0 (guarded_code homes mask e op)
guarded_few most homes mask to e op some within alu =
    let last = mask_test homes mask ++ under (where_so (told_at homes mask)) op ∷ [] in
    few_both most 0 0 (operands_code homes e FIRST) (one (straight last))
    (operands_few most homes e FIRST some within) (few_lone most last some (rw (
      seek_in quick homes mask (λ out. refl),
      match_in quick homes mask,
      alu_in quick (where_so (told_at homes mask)) to op alu refl,
    ) refl))

result_past : (homes : Homes) (mask : ℕ) (result : Option ℕ) → bundles_past (result_write homes mask result) ≤ 0
result_past homes mask None = omega arith
result_past homes mask (Some slot) = in_past (result_write homes mask (Some slot)) (rw (
  seek_in quick homes mask (λ out. refl),
  match_in quick homes mask,
  set_in quick homes.first (where_so (told_at homes mask)) slot RESULT refl (λ out. refl),
) refl)

call_few : (most : ℕ) (homes : Homes) (frame mask k : ℕ) (result : Option ℕ) → 1 ≤ most
    → IsFew most 1 (call_code homes frame mask k result)
call_few most homes frame mask k result some = record {
  some = some;
  iterations = omega (arith, some);
  calls = omega arith;
  past = omega (
    arith,
    in_past (mask_handed homes mask) (handed_in quick homes mask refl (λ out. refl)),
    result_past homes mask result,
  );
}

repeated_few : (homes count counter most made : ℕ) (body : PlainParts) → IsFew most made body
    → IsFew (max 1 (count * most)) made (joined (one (straight (iterations_begin homes counter count)))
    (one (repeats count body (iterations_tail homes counter))))
repeated_few homes count counter most made body x = record {
  some = omega arith;
  iterations = let times = mul-le-mul_left count x.iterations in omega (arith, times);
  calls = omega (arith, x.calls);
  past = omega (
    arith,
    x.past,
    in_past (iterations_begin homes counter count) (begin_in quick homes counter count refl (λ out. refl)),
    in_past (iterations_tail homes counter) (tail_in quick homes counter refl (λ out. refl) (λ out. refl) refl),
  );
}

mutual
  stmt_few : (homes : Homes) (frame counter : ℕ) (t : PlainStmt) → IsFew (stmt_iterations t) (stmt_call_count t)
      (stmt_code homes frame counter t)
  stmt_few homes frame counter (masks slot e) =
      let i = expr_iterations e in
      let some = some_expr e in
      mask_is (IsFew i 0) homes slot e (λ p is. flag_is (truths_few i homes some) p (λ func a b. few_straight i 0
      (combine func p a b ∷ []) some (omega arith)) e (omega arith))
      (λ plain here. expr_few i homes e FIRST (homes.first + slot) some (omega arith))
      (λ plain there. few_both i 0 0 (expr_code homes e FIRST) (slot_set homes.first slot)
      (expr_few i homes e FIRST FIRST some (omega arith))
      (few_lone i (set_word homes.first always slot FIRST ∷ []) some
      (rw (set_in quick homes.first always slot FIRST refl (λ out. refl)) refl)))
  stmt_few homes frame counter (writes mask target e) =
      let i = max (target_iterations target) (expr_iterations e) in
      let some : 1 ≤ i = omega (arith, some_expr e) in
      write_is (IsFew i 0) homes mask target e
      (few_both i 0 0 (expr_code homes e FIRST) (target_write homes mask target) (expr_few i homes e FIRST FIRST some
      (omega arith)) (target_few i homes mask target some (omega arith)))
      (λ slot op is gives. guarded_few i homes mask (homes.first + slot) e op some (omega arith) gives.alu)
  stmt_few homes frame counter (calls mask k args result) =
      let i = args_iterations args in
      few_both i 0 1 (args_code homes args FIRST) (call_code homes frame mask k result) (args_few i homes args FIRST
      (some_args args) (omega arith)) (call_few i homes frame mask k result (some_args args))
  stmt_few homes frame counter (transfers mask core source target count) =
      let i = max (expr_iterations source) (max (expr_iterations target) (expr_iterations count)) in
      let some : 1 ≤ i = omega (arith, some_expr source) in
      let sent = one (straight (send_code homes mask core)) in
      few_both i 0 0 (expr_code homes source FIRST) (joined (expr_code homes target (FIRST + 1))
      (joined (expr_code homes count (FIRST + 2)) sent)) (expr_few i homes source FIRST FIRST some (omega arith))
      (few_both i 0 0 (expr_code homes target (FIRST + 1)) (joined (expr_code homes count (FIRST + 2)) sent)
      (expr_few i homes target (FIRST + 1) (FIRST + 1) some (omega arith))
      (few_both i 0 0 (expr_code homes count (FIRST + 2)) sent (expr_few i homes count (FIRST + 2) (FIRST + 2) some
      (omega arith)) (few_lone i (send_code homes mask core) some
      (send_in quick homes mask core refl refl (λ out. refl)))))
  stmt_few homes frame counter (overruns mask e) =
      let i = expr_iterations e in
      let some = some_expr e in
      few_both i 0 0 (expr_code homes e FIRST) (one (straight (overrun_code homes mask)))
      (expr_few i homes e FIRST FIRST some (omega arith)) (few_lone i (overrun_code homes mask) some
      (overrun_in quick homes mask refl (λ out. refl)))
  stmt_few homes frame counter (iterations count body) =
      repeated_few homes.first count counter (stmts_iterations body) (stmts_call_count body)
      (stmts_code homes frame (counter - 1) body) (stmts_few homes frame (counter - 1) body)

  pub stmts_few : (homes : Homes) (frame counter : ℕ) (ts : PlainStmts)
      → IsFew (stmts_iterations ts) (stmts_call_count ts) (stmts_code homes frame counter ts)
  stmts_few homes frame counter no_stmt =
      record { some = omega arith; iterations = omega arith; calls = omega arith; past = omega arith }
  stmts_few homes frame counter (stmt t rest) =
      let i = stmt_iterations t in
      let j = stmts_iterations rest in
      few_both (max i j) (stmt_call_count t) (stmts_call_count rest) (stmt_code homes frame counter t)
      (stmts_code homes frame counter rest)
      (few_more i (max i j) (stmt_call_count t) (stmt_code homes frame counter t) (omega arith)
      (stmt_few homes frame counter t))
      (few_more j (max i j) (stmts_call_count rest) (stmts_code homes frame counter rest) (omega arith)
      (stmts_few homes frame counter rest))

-- ---- functions

begin_past : {fs : List PlainFunction} {number : ℕ} (homes : Homes) (f : PlainFunction) → FunctionParts fs number f
    → bundles_past (function_begin homes f) ≤ 31
begin_past homes f p =
    let kept = words_cleared homes (slots_of f) ++ (arguments_kept homes.first f.parameters ++ state_kept homes f) in
    omega (
      arith,
      past_append (frame_taken homes.first f) kept,
      taken_is (λ bs. bundles_past bs ≤ 31) (frame_words homes.first f) (omega arith) (omega arith),
      in_past kept (kept_in (wide_begins quick_wide homes f (λ slot p is. refl)) p),
    )

end_past : (homes : ℕ) (f : PlainFunction) → bundles_past (function_end homes f) ≤ 0
end_past homes f = in_past (function_end homes f) (ends_in (wide_ends quick_wide refl homes f) refl)

begun_iterations : (flags : Flags) (f : PlainFunction) → stmts_iterations (begun_body flags f) ≤ stmts_iterations f.body
begun_iterations flags f =
    begun_is (λ ts. stmts_iterations ts ≤ stmts_iterations f.body) flags f (omega arith) (by f.body)
  where
    by : (ts : PlainStmts) → stmts_iterations (behind_first ts) ≤ stmts_iterations ts
    by no_stmt = omega arith
    by (stmt t rest) = omega arith

begun_calls : (flags : Flags) (f : PlainFunction) → stmts_call_count (begun_body flags f) ≤ stmts_call_count f.body
begun_calls flags f = begun_is (λ ts. stmts_call_count ts ≤ stmts_call_count f.body) flags f (omega arith) (by f.body)
  where
    by : (ts : PlainStmts) → stmts_call_count (behind_first ts) ≤ stmts_call_count ts
    by no_stmt = omega arith
    by (stmt t rest) = omega arith

pub function_few : {fs : List PlainFunction} {number : ℕ} (homes : Homes) (f : PlainFunction) → FunctionParts fs number f
    → IsFewOf f (function_code homes f)
function_few homes f p =
    let body = body_code homes f in
    let x = stmts_few homes (frame_words homes.first f) (first_counter f) (begun_body homes.flags f) in
    let fewer = begun_iterations homes.flags f in
    let less = begun_calls homes.flags f in
    record {
      iterations = omega (arith, joined_iterations body (function_rest homes.first f), x.iterations, x.some, fewer);
      calls = omega (arith, joined_calls body (function_rest homes.first f), x.calls, less);
      past = omega (
        arith,
        joined_past body (function_rest homes.first f),
        x.past,
        less,
        begin_past homes f p,
        end_past homes.first f,
      );
    }
