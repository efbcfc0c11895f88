-- What is known of the parts of what is well formed.
use Rattle.std.proofs.Common.{◌≡◌, ℕ, zero, suc, ◌+◌, ◌<◌, ◌≤◌, true, List, [], ◌∷◌, length, map, get_or, slice_index_or, refl, ap, sym, ◌∙◌, subst, arith, inl, inr}
use Rattle.std.proofs.lemmas.Bool.{cases_lt, and_parts, and_from, ltb-true, lt-ltb, leb-true, eqb-true}
use Rattle.std.specs.Prelude.{nat_eq, nat_lt, nat_le, ◌&&◌, Option, None, Some}
use denote.Hole.Carrier.{hidden}
use Rattle.sp_tree.specs.declared.expressions.SpExpr.{SpExpr}
use Rattle.sp_tree.specs.declared.expressions.SpTarget.{SpTarget}
use Rattle.sp_tree.specs.declared.statements.SpFunction.{SpFunction}
use Rattle.sp_tree.specs.declared.statements.SpStmt.{SpStmt, Mask, Write, Call}
use Rattle.sp_tree.specs.declared.statements.SpStmt.TheViews.{Iterations}
use Rattle.sp_tree.specs.declared.statements.SpStmt.TheBlock.{hidden-the_row-SpStmt-0}
use Rattle.sp_tree.specs.Formed.{names_words, expr_formed, args_formed, target_formed, result_formed, callee_formed, send_formed, stmt_formed, stmts_formed, stmts_levels, slots_of, function_formed, functions_formed, array_formed}
use Rattle.sp_tree.specs.Need.{need}
use Rattle.sp_tree.specs.Plain.{PlainSp, constant, frame_word, cell_word, array_word, before_one, between_two, plain_sp}
use Rattle.sp_tree.specs.Shown.{plain_stmt, plain_row, plain_sp_target, stmts_of, plain_function, functions_of}
use Rattle.sp_tree.specs.Sizes.{stmt_size, stmts_size, total}
use Rattle.sp_tree.specs.Statements.{PlainSpTarget, to_slot, to_cell, to_array, PlainStmt, masks, writes, calls, transfers, overruns, iterations, PlainStmts, no_stmt, stmt, PlainFunction, no_function}

-- ---- iterations by the list of their statements

row_stmts : (body : List SpStmt) → plain_row (hidden-the_row-SpStmt-0 body) ≡ stmts_of body
unfolding plain_stmt plain_row hidden-the_row-SpStmt-0 hidden
row_stmts [] = refl
row_stmts (t ∷ body) = ap (stmt (plain_stmt t)) (row_stmts body)

pub plain_iterations : (count : ℕ) (body : List SpStmt) → plain_stmt (Iterations count body)
    ≡ iterations count (stmts_of body)
unfolding plain_stmt
plain_iterations count body = ap (iterations count) (row_stmts body)

-- ---- more words of a frame

more_names : (slots width : ℕ) (e : PlainSp) → slots ≤ width → names_words slots e ≡ true → names_words width e ≡ true
more_names slots width (constant n) more h = refl
more_names slots width (frame_word slot) more h = lt-ltb slot width (omega (arith, more, ltb-true slot slots h))
more_names slots width (cell_word cell) more h = h
more_names slots width (array_word array index) more h =
    let both = and_parts (array_formed array) (names_words slots index) h in
    and_from (array_formed array) (names_words width index) both.0 (more_names slots width index more both.1)
more_names slots width (before_one op of) more h = more_names slots width of more h
more_names slots width (between_two op a b) more h =
    let both = and_parts (names_words slots a) (names_words slots b) h in
    and_from (names_words width a) (names_words width b) (more_names slots width a more both.0)
    (more_names slots width b more both.1)

more_expr : (slots width : ℕ) (e : PlainSp) → slots ≤ width → expr_formed slots e ≡ true → expr_formed width e ≡ true
more_expr slots width e more h =
    let both = and_parts (names_words slots e) (nat_le (need e) 12) h in
    and_from (names_words width e) (nat_le (need e) 12) (more_names slots width e more both.0) both.1

more_args : (slots width : ℕ) (args : List PlainSp) → slots ≤ width → args_formed slots args ≡ true
    → args_formed width args ≡ true
more_args slots width [] more h = refl
more_args slots width (e ∷ args) more h =
    let both = and_parts (expr_formed slots e) (args_formed slots args) h in
    and_from (expr_formed width e) (args_formed width args) (more_expr slots width e more both.0)
    (more_args slots width args more both.1)

more_slot : (slots width slot : ℕ) → slots ≤ width → nat_lt slot slots ≡ true → nat_lt slot width ≡ true
more_slot slots width slot more h = lt-ltb slot width (omega (arith, more, ltb-true slot slots h))

more_target : (slots width : ℕ) (target : PlainSpTarget) → slots ≤ width → target_formed slots target ≡ true
    → target_formed width target ≡ true
more_target slots width (to_slot slot) more h = more_slot slots width slot more h
more_target slots width (to_cell cell) more h = h
more_target slots width (to_array array index) more h =
    let both = and_parts (array_formed array) (expr_formed slots index) h in
    and_from (array_formed array) (expr_formed width index) both.0 (more_expr slots width index more both.1)

more_result : (slots width : ℕ) (given : Option ℕ) → slots ≤ width → result_formed slots given ≡ true
    → result_formed width given ≡ true
more_result slots width None more h = refl
more_result slots width (Some slot) more h = more_slot slots width slot more h

more_send : (slots width core : ℕ) (source target count : PlainSp) → slots ≤ width
    → send_formed slots core source target count ≡ true
    → send_formed width core source target count ≡ true
more_send slots width core source target count more h =
    let a = and_parts (nat_lt core 16)
    (expr_formed slots source && (expr_formed slots target && expr_formed slots count)) h in
    let b = and_parts (expr_formed slots source) (expr_formed slots target && expr_formed slots count) a.1 in
    let c = and_parts (expr_formed slots target) (expr_formed slots count) b.1 in
    and_from (nat_lt core 16) (expr_formed width source && (expr_formed width target && expr_formed width count)) a.0
    (and_from (expr_formed width source) (expr_formed width target && expr_formed width count)
    (more_expr slots width source more b.0)
    (and_from (expr_formed width target) (expr_formed width count) (more_expr slots width target more c.0)
    (more_expr slots width count more c.1)))

mutual
  more_stmt : (fs : List PlainFunction) (number slots width : ℕ) (t : PlainStmt) → slots ≤ width
      → stmt_formed fs number slots t ≡ true
      → stmt_formed fs number width t ≡ true
  more_stmt fs number slots width (masks slot e) more h =
      let both = and_parts (nat_lt slot slots) (expr_formed slots e) h in
      and_from (nat_lt slot width) (expr_formed width e) (more_slot slots width slot more both.0)
      (more_expr slots width e more both.1)
  more_stmt fs number slots width (writes mask target e) more h =
      let a = and_parts (nat_lt mask slots) (target_formed slots target && expr_formed slots e) h in
      let b = and_parts (target_formed slots target) (expr_formed slots e) a.1 in
      and_from (nat_lt mask width) (target_formed width target && expr_formed width e)
      (more_slot slots width mask more a.0)
      (and_from (target_formed width target) (expr_formed width e) (more_target slots width target more b.0)
      (more_expr slots width e more b.1))
  more_stmt fs number slots width (calls mask k args given) more h =
      let a = and_parts (nat_lt mask slots) (callee_formed fs number k (length args)
      && (args_formed slots args && result_formed slots given)) h in
      let b = and_parts (callee_formed fs number k (length args)) (args_formed slots args && result_formed slots given)
      a.1 in
      let c = and_parts (args_formed slots args) (result_formed slots given) b.1 in
      and_from (nat_lt mask width) (callee_formed fs number k (length args)
      && (args_formed width args && result_formed width given)) (more_slot slots width mask more a.0)
      (and_from (callee_formed fs number k (length args)) (args_formed width args && result_formed width given) b.0
      (and_from (args_formed width args) (result_formed width given) (more_args slots width args more c.0)
      (more_result slots width given more c.1)))
  more_stmt fs number slots width (transfers mask core source target count) more h =
      let both = and_parts (nat_lt mask slots) (send_formed slots core source target count) h in
      and_from (nat_lt mask width) (send_formed width core source target count) (more_slot slots width mask more both.0)
      (more_send slots width core source target count more both.1)
  more_stmt fs number slots width (overruns mask e) more h =
      let both = and_parts (nat_lt mask slots) (expr_formed slots e) h in
      and_from (nat_lt mask width) (expr_formed width e) (more_slot slots width mask more both.0)
      (more_expr slots width e more both.1)
  more_stmt fs number slots width (iterations count body) more h =
      let both = and_parts (nat_lt 0 count) (stmts_formed fs number slots body) h in
      and_from (nat_lt 0 count) (stmts_formed fs number width body) both.0
      (more_stmts fs number slots width body more both.1)

  pub more_stmts : (fs : List PlainFunction) (number slots width : ℕ) (ts : PlainStmts) → slots ≤ width
      → stmts_formed fs number slots ts ≡ true
      → stmts_formed fs number width ts ≡ true
  more_stmts fs number slots width no_stmt more h = refl
  more_stmts fs number slots width (stmt t rest) more h =
      let both = and_parts (stmt_formed fs number slots t) (stmts_formed fs number slots rest) h in
      and_from (stmt_formed fs number width t) (stmts_formed fs number width rest)
      (more_stmt fs number slots width t more both.0) (more_stmts fs number slots width rest more both.1)

-- ---- parts of a statement

pub mask_part : (fs : List PlainFunction) (number slots : ℕ) (t : SpStmt) (slot : ℕ) (e : SpExpr) → t ≡ Mask slot e
    → stmt_formed fs number slots (plain_stmt t) ≡ true → slot < slots
unfolding plain_stmt
mask_part fs number slots t slot e is h =
    ltb-true slot slots (and_parts (nat_lt slot slots) (expr_formed slots (plain_sp e))
    (ap (λ x. stmt_formed fs number slots (plain_stmt x)) (sym is) ∙ h)).0

pub write_part : (fs : List PlainFunction) (number slots : ℕ) (t : SpStmt) (mask : ℕ) (target : SpTarget) (e : SpExpr)
    → t ≡ Write mask target e
    → stmt_formed fs number slots (plain_stmt t) ≡ true → target_formed slots (plain_sp_target target) ≡ true
unfolding plain_stmt
write_part fs number slots t mask target e is h =
    let a = and_parts (nat_lt mask slots) (target_formed slots (plain_sp_target target)
    && expr_formed slots (plain_sp e))
    (ap (λ x. stmt_formed fs number slots (plain_stmt x)) (sym is) ∙ h) in
    (and_parts (target_formed slots (plain_sp_target target)) (expr_formed slots (plain_sp e)) a.1).0

-- what is known of a call
pub record CallFormed (fs : List PlainFunction) (number slots k : ℕ) (args : List SpExpr)
    (given : Option ℕ) : Type 0 where
  pub earlier : k < number
  pub passed : length args ≡ (slice_index_or fs k no_function).parameters
  pub set : result_formed slots given ≡ true

mapped : (args : List SpExpr) → length (map plain_sp args) ≡ length args
mapped [] = refl
mapped (e ∷ args) = ap suc (mapped args)

pub call_part : (fs : List PlainFunction) (number slots : ℕ) (t : SpStmt) (mask k : ℕ) (args : List SpExpr)
    (given : Option ℕ) → t ≡ Call mask k args given
    → stmt_formed fs number slots (plain_stmt t) ≡ true → CallFormed fs number slots k args given
unfolding plain_stmt
call_part fs number slots t mask k args given is h =
    let a = and_parts (nat_lt mask slots) (callee_formed fs number k (length (map plain_sp args))
    && (args_formed slots (map plain_sp args) && result_formed slots given))
    (ap (λ x. stmt_formed fs number slots (plain_stmt x)) (sym is) ∙ h) in
    let b = and_parts (callee_formed fs number k (length (map plain_sp args))) (args_formed slots (map plain_sp args)
    && result_formed slots given) a.1 in
    let c = and_parts (nat_lt k number) (nat_eq (length (map plain_sp args))
    (slice_index_or fs k no_function).parameters) b.0 in
    record {
      earlier = ltb-true k number c.0;
      passed = sym (mapped args) ∙ eqb-true (length (map plain_sp args)) (slice_index_or fs k
          no_function).parameters c.1;
      set = (and_parts (args_formed slots (map plain_sp args)) (result_formed slots given) b.1).1;
    }

pub iterations_part : (fs : List PlainFunction) (number slots : ℕ) (t : SpStmt) (count : ℕ) (body : List SpStmt) → t
    ≡ Iterations count body
    → stmt_formed fs number slots (plain_stmt t) ≡ true → stmts_formed fs number slots (stmts_of body) ≡ true
iterations_part fs number slots t count body is h =
    (and_parts (nat_lt 0 count) (stmts_formed fs number slots (stmts_of body))
    (ap (stmt_formed fs number slots) (sym (plain_iterations count body))
    ∙ ap (λ x. stmt_formed fs number slots (plain_stmt x)) (sym is) ∙ h)).1

pub item_part : (fs : List PlainFunction) (number slots : ℕ) (stmts : List SpStmt) (i : ℕ) (t : SpStmt)
    → i < length stmts → t ≡ get_or stmts i t
    → stmts_formed fs number slots (stmts_of stmts) ≡ true → stmt_formed fs number slots (plain_stmt t) ≡ true
item_part fs number slots [] i t within is h = absurd (omega arith)
item_part fs number slots (x ∷ stmts) zero t within is h =
    ap (λ y. stmt_formed fs number slots (plain_stmt y)) is
    ∙ (and_parts (stmt_formed fs number slots (plain_stmt x)) (stmts_formed fs number slots (stmts_of stmts)) h).0
item_part fs number slots (x ∷ stmts) (suc i) t within is h =
    item_part fs number slots stmts i t (omega arith) is
    (and_parts (stmt_formed fs number slots (plain_stmt x)) (stmts_formed fs number slots (stmts_of stmts)) h).1

-- ---- functions

pub function_at : (functions : List SpFunction) (n : ℕ) (f : SpFunction) → n < length functions → f
    ≡ get_or functions n f
    → slice_index_or (functions_of functions) n no_function ≡ plain_function f
function_at [] n f within is = absurd (omega arith)
function_at (x ∷ functions) zero f within is = ap plain_function (sym is)
function_at (x ∷ functions) (suc n) f within is = function_at functions n f (omega arith) is

pub earlier_one : (fs : List PlainFunction) (k n : ℕ) → k < n → functions_formed fs n ≡ true
    → function_formed fs k (slice_index_or fs k no_function) ≡ true
earlier_one fs k zero below h = absurd (omega arith)
earlier_one fs k (suc n) below h =
    let both = and_parts (functions_formed fs n) (function_formed fs n (slice_index_or fs n no_function)) h in
    elim (cases_lt k n) [
      | inl less ↦ earlier_one fs k n less both.0
      | inr more ↦ let same : n ≡ k =
          omega arith in subst (λ j. function_formed fs j (slice_index_or fs j no_function) ≡ true) same both.1
    ]

pub earlier_ones : (fs : List PlainFunction) (k n : ℕ) → k ≤ n → functions_formed fs n ≡ true
    → functions_formed fs k ≡ true
earlier_ones fs k zero below h = let none : k ≡ zero = omega arith in ap (functions_formed fs) none
earlier_ones fs k (suc n) below h =
    let both = and_parts (functions_formed fs n) (function_formed fs n (slice_index_or fs n no_function)) h in
    elim (cases_lt k (suc n)) [
      | inl less ↦ earlier_ones fs k n (omega arith) both.0
      | inr more ↦ let same : k ≡ suc n = omega arith in ap (functions_formed fs) same ∙ h
    ]

-- what is well formed of a function, part by part
pub record FunctionParts (fs : List PlainFunction) (number : ℕ) (f : PlainFunction) : Type 0 where
  pub frame : f.frame ≤ 128
  pub parameters : f.parameters ≤ 6
  pub before_mask : f.parameters ≤ f.mask
  pub mask : f.mask < slots_of f
  pub before_result : f.parameters ≤ f.result
  pub result : f.result < slots_of f
  pub body : stmts_formed fs number (slots_of f) f.body ≡ true
  pub room : slots_of f + stmts_levels f.body + 2 ≡ f.frame

pub parts_of_function : (fs : List PlainFunction) (number : ℕ) (f : PlainFunction) → function_formed fs number f ≡ true
    → FunctionParts fs number f
parts_of_function fs number f formed =
    let a = and_parts (nat_le f.frame 128) _ formed in
    let b = and_parts (nat_le f.parameters 6) _ a.1 in
    let c = and_parts (nat_le f.parameters f.mask) _ b.1 in
    let d = and_parts (nat_lt f.mask (slots_of f)) _ c.1 in
    let e = and_parts (nat_le f.parameters f.result) _ d.1 in
    let g = and_parts (nat_lt f.result (slots_of f)) (stmts_formed fs number (slots_of f) f.body) e.1 in
    let mask = ltb-true f.mask (slots_of f) d.0 in
    record {
      frame = leb-true f.frame 128 a.0;
      parameters = leb-true f.parameters 6 b.0;
      before_mask = leb-true f.parameters f.mask c.0;
      mask = mask;
      before_result = leb-true f.parameters f.result e.0;
      result = ltb-true f.result (slots_of f) g.0;
      body = g.1;
      room = omega (arith, mask);
    }

-- and what of that holds with as many words as any frame has
pub record FunctionFormed (fs : List PlainFunction) (number : ℕ) (f : PlainFunction) : Type 0 where
  pub few : f.parameters ≤ 6
  pub mask : f.mask < 128
  pub body : stmts_formed fs number 128 f.body ≡ true

in_any_frame : {fs : List PlainFunction} {number : ℕ} {f : PlainFunction} → FunctionParts fs number f
    → FunctionFormed fs number f
in_any_frame {fs} {number} {f} p = record {
  few = p.parameters;
  mask = omega (arith, p.frame, p.mask);
  body = more_stmts fs number (slots_of f) 128 f.body (omega (arith, p.frame)) p.body;
}

pub known_function : (functions : List SpFunction) (k n : ℕ) (f : SpFunction) → k < n → k < length functions → f
    ≡ get_or functions k f
    → functions_formed (functions_of functions) n ≡ true → FunctionFormed (functions_of functions) k (plain_function f)
known_function functions k n f below within is h =
    in_any_frame (parts_of_function (functions_of functions) k (plain_function f)
    (ap (function_formed (functions_of functions) k) (sym (function_at functions k f within is))
    ∙ earlier_one (functions_of functions) k n below h))

-- as many arguments as an earlier function has parameters are few
pub few_arguments : (fs : List PlainFunction) (k n : ℕ) → k < n → functions_formed fs n ≡ true
    → (slice_index_or fs k no_function).parameters ≤ 6
few_arguments fs k n below h =
    (parts_of_function fs k (slice_index_or fs k no_function) (earlier_one fs k n below h)).parameters

-- ---- a call goes to something smaller

pub call_size : (t : SpStmt) (mask k : ℕ) (args : List SpExpr) (given : Option ℕ) → t ≡ Call mask k args given
    → stmt_size (plain_stmt t) ≡ 2
unfolding plain_stmt
call_size t mask k args given is = ap (λ x. stmt_size (plain_stmt x)) is

pub iterations_size : (t : SpStmt) (count : ℕ) (body : List SpStmt) → t ≡ Iterations count body
    → stmt_size (plain_stmt t) ≡ 2 + stmts_size (stmts_of body)
iterations_size t count body is = ap (λ x. stmt_size (plain_stmt x)) is ∙ ap stmt_size (plain_iterations count body)

pub item_size : (stmts : List SpStmt) (i : ℕ) (t : SpStmt) → i < length stmts → t ≡ get_or stmts i t
    → stmt_size (plain_stmt t) < stmts_size (stmts_of stmts)
item_size [] i t within is = absurd (omega arith)
item_size (x ∷ stmts) zero t within is = let same = ap (λ y. stmt_size (plain_stmt y)) is in omega arith
item_size (x ∷ stmts) (suc i) t within is = let rest = item_size stmts i t (omega arith) is in omega arith

pub total_grows : (fs : List PlainFunction) (k n : ℕ) → k < n
    → total fs k + stmts_size (slice_index_or fs k no_function).body ≤ total fs n
total_grows fs k zero below = absurd (omega arith)
total_grows fs k (suc n) below = elim (cases_lt k n) [
  | inl less ↦ let before = total_grows fs k n less in omega arith
  | inr more ↦
      let same : k ≡ n = omega arith in
      subst (λ m. total fs k + stmts_size (slice_index_or fs k no_function).body ≤ total fs (suc m)) same (omega arith)
]
