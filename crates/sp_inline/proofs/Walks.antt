-- The statements of a function one after another, with the calls that are taken in.
use Rattle.std.proofs.Common.{◌≡◌, ℕ, zero, suc, ◌+◌, ◌<◌, ◌≤◌, ◌^◌, Bool, true, false, if◌then◌else◌, List, [], ◌∷◌, length, map, get_or, drop, Option, Some, None, refl, sym, ◌∙◌, ap, ap₂, arith}
use Rattle.std.specs.Prelude.{nat_le}
use Rattle.std.proofs.lemmas.Bool.{and_parts, leb-true}
use Rattle.std.proofs.lemmas.List.{drop_all, length-map}
use Rattle.tc_word.proofs.Items.{drop_item}
use Rattle.sp_tree.specs.declared.expressions.SpExpr.{SpExpr}
use Rattle.sp_tree.specs.declared.statements.SpStmt.{SpStmt, Call}
use Rattle.sp_tree.specs.declared.statements.SpStmt.TheViews.{Iterations}
use Rattle.sp_tree.specs.Formed.{stmt_levels, stmts_levels, slots_of}
use Rattle.sp_tree.specs.Plain.{PlainSp, plain_sp, constant, frame_word, cell_word, array_word, before_one, between_two}
use Rattle.sp_tree.specs.Shown.{plain_stmt, plain_function, stmts_of}
use Rattle.sp_tree.specs.Statements.{PlainSpTarget, to_slot, to_cell, to_array, PlainStmt, masks, writes, calls, transfers, overruns, iterations, PlainStmts, no_stmt, stmt, one, joined, PlainFunction}
use Rattle.sp_tree.proofs.Forms.{plain_iterations}
use Rattle.sp_inline.specs.declared.calls.Call.{Call as Called}
use Rattle.sp_inline.specs.declared.measured.Measured.{Measured}
use Rattle.sp_inline.specs.declared.room.Room.{Room}
use Rattle.sp_inline.specs.Moved.{moved, args_moved, target_moved, result_moved, stmt_moved, stmts_moved}
use Rattle.sp_inline.specs.Reach.{stmts_reach}
use Rattle.sp_inline.specs.Shown.{args_of, statements_for}
use Rattle.sp_inline.specs.Taken.{PlainCaller, Taken, with_room, callee, growth, room_after, may_take, has_room, is_taken, kept, stmt_taken, stmts_taken, taken_after}
use Rattle.sp_inline.proofs.Growth.{fitting}
use Rattle.sp_inline.proofs.Limits.{stmt_within}
use Rattle.sp_inline.proofs.Parts.{joined_joined, joined_none}

-- ---- over the words from 0 on all is as it is

moved_none : (e : PlainSp) → moved 0 e ≡ e
moved_none (constant n) = refl
moved_none (frame_word slot) = ap frame_word (omega arith)
moved_none (cell_word cell) = refl
moved_none (array_word array index) = ap (array_word array) (moved_none index)
moved_none (before_one op of) = ap (before_one op) (moved_none of)
moved_none (between_two op a b) = ap₂ (between_two op) (moved_none a) (moved_none b)

args_none : (args : List PlainSp) → args_moved 0 args ≡ args
args_none [] = refl
args_none (e ∷ args) = ap₂ (λ x xs. x ∷ xs) (moved_none e) (args_none args)

target_none : (target : PlainSpTarget) → target_moved 0 target ≡ target
target_none (to_slot slot) = ap to_slot (omega arith)
target_none (to_cell cell) = refl
target_none (to_array array index) = ap (to_array array) (moved_none index)

result_none : (given : Option ℕ) → result_moved 0 given ≡ given
result_none None = refl
result_none (Some slot) = ap (λ (n : ℕ). Some n) (omega arith)

mutual
  stmt_none : (t : PlainStmt) → stmt_moved 0 t ≡ t
  stmt_none (masks slot e) = let same : 0 + slot ≡ slot = omega arith in ap₂ masks same (moved_none e)
  stmt_none (writes mask target e) =
      let same : 0 + mask ≡ mask = omega arith in λ i. writes (same i) (target_none target i) (moved_none e i)
  stmt_none (calls mask k args given) =
      let same : 0 + mask ≡ mask = omega arith in λ i. calls (same i) k (args_none args i) (result_none given i)
  stmt_none (transfers mask core source target count) =
      let same : 0 + mask ≡ mask =
      omega arith in λ i. transfers (same i) core (moved_none source i) (moved_none target i) (moved_none count i)
  stmt_none (overruns mask e) = let same : 0 + mask ≡ mask = omega arith in ap₂ overruns same (moved_none e)
  stmt_none (iterations count body) = ap (iterations count) (stmts_none body)

  stmts_none : (ts : PlainStmts) → stmts_moved 0 ts ≡ ts
  stmts_none no_stmt = refl
  stmts_none (stmt t rest) = ap₂ stmt (stmt_none t) (stmts_none rest)

pub as_it_stands : (room : Room) (old new : PlainStmts) (t m : PlainStmt) → m ≡ stmt_moved 0 t → new
    ≡ joined old (one m)
    → with_room new room ≡ taken_after old (kept room t)
as_it_stands room old new t m moved added =
    ap (λ ts. with_room ts room) (added ∙ ap (λ x. joined old (one x)) (moved ∙ stmt_none t))

-- ---- a statement

pub call_is : (t : SpStmt) (mask k : ℕ) (args shown : List SpExpr) (given : Option ℕ) → t
    ≡ Call mask k args given → shown ≡ args
    → calls mask k (map plain_sp shown) given ≡ plain_stmt t
unfolding plain_stmt
call_is t mask k args shown given is same =
    ap (λ es. calls mask k (map plain_sp es) given) same ∙ sym (ap plain_stmt is)

either_taken : (b given : Bool) (one other : Taken) → b ≡ given → (if b then one else other)
    ≡ (if given then one else other)
either_taken b given one other is = ap (λ (x : Bool). if x then one else other) is

-- a call that stays, and one that is taken in
pub call_stays : (c : PlainCaller) (depth : ℕ) (r : Room) (t : SpStmt) (call : Called)
    → calls call.mask call.function (args_of call) call.result ≡ plain_stmt t
    → is_taken c depth r call.function (statements_for c.words (callee c call.function) call) (args_of call) ≡ false
    → stmt_taken c depth r (plain_stmt t) ≡ kept r (plain_stmt t)
call_stays c depth r t call is away =
    sym (ap (stmt_taken c depth r) is)
    ∙ either_taken (is_taken c depth r call.function (statements_for c.words (callee c call.function) call)
    (args_of call)) false
    (with_room (statements_for c.words (callee c call.function) call)
    (room_after c depth r (callee c call.function) (statements_for c.words (callee c call.function) call)
    (args_of call)))
    (kept r (calls call.mask call.function (args_of call) call.result)) away
    ∙ ap (kept r) is

pub call_goes : (c : PlainCaller) (depth : ℕ) (r : Room) (t : SpStmt) (call : Called)
    → calls call.mask call.function (args_of call) call.result ≡ plain_stmt t
    → is_taken c depth r call.function (statements_for c.words (callee c call.function) call) (args_of call) ≡ true
    → stmt_taken c depth r (plain_stmt t) ≡ with_room (statements_for c.words (callee c call.function) call)
    (room_after c depth r (callee c call.function) (statements_for c.words (callee c call.function) call)
    (args_of call))
call_goes c depth r t call is here =
    sym (ap (stmt_taken c depth r) is)
    ∙ either_taken (is_taken c depth r call.function (statements_for c.words (callee c call.function) call)
    (args_of call)) true
    (with_room (statements_for c.words (callee c call.function) call)
    (room_after c depth r (callee c call.function) (statements_for c.words (callee c call.function) call)
    (args_of call)))
    (kept r (calls call.mask call.function (args_of call) call.result)) here

pub call_taken_in : (c : PlainCaller) (depth : ℕ) (r after : Room) (t : SpStmt) (call : Called) (g : PlainFunction)
    (old new : PlainStmts)
    → calls call.mask call.function (args_of call) call.result ≡ plain_stmt t
    → is_taken c depth r call.function (statements_for c.words (callee c call.function) call) (args_of call) ≡ true → g
    ≡ callee c call.function
    → after ≡ room_after c depth r (callee c call.function) (statements_for c.words (callee c call.function)
    call) (args_of call)
    → new ≡ joined old (statements_for c.words g call) → with_room new after
    ≡ taken_after old (stmt_taken c depth r (plain_stmt t))
call_taken_in c depth r after t call g old new is here same room added =
    ap₂ with_room (added ∙ ap (λ h. joined old (statements_for c.words h call)) same) room
    ∙ sym (ap (taken_after old) (call_goes c depth r t call is here))

-- what the code asks of a function that is taken in
pub record Callable (c : PlainCaller) (m : Measured) (args : ℕ) : Type 0 where
  pub room : c.words + m.words < 2 ^ 32
  pub few : args ≤ m.function.mask
  pub reach : stmts_reach (stmts_of m.function.body) ≤ m.words
  pub mask : m.function.mask < m.words
  pub result : m.function.result < m.words

pub callable : (c : PlainCaller) (depth : ℕ) (r : Room) (m : Measured) (call : Called) → c.frame < 2 ^ 32
    → is_taken c depth r call.function (statements_for c.words (callee c call.function) call) (args_of call) ≡ true
    → plain_function m.function ≡ callee c call.function → Callable c m (length call.args.now)
callable c depth r m call narrow here same =
    let f = callee c call.function in
    let more = statements_for c.words f call in
    let after = room_after c depth r f more (args_of call) in
    let both = and_parts (may_take c depth call.function (args_of call))
    (has_room c r (growth more (args_of call)) after) here in
    let fits = leb-true (after.words + (after.levels + 2)) c.frame
    (and_parts (nat_le (growth more (args_of call)) r.left) _ both.1).1 in
    let parts = fitting c depth call.function (args_of call) both.0 in
    let words = m.words_are ∙ ap slots_of same in
    let reach = ap (λ (g : PlainFunction). stmts_reach g.body) same in
    let mask = ap (λ (g : PlainFunction). g.mask) same in
    let result = ap (λ (g : PlainFunction). g.result) same in
    record {
      room = omega (arith, fits, words, narrow);
      few = omega (arith, parts.few, mask, length-map call.args.now plain_sp);
      reach = omega (arith, parts.reach, words, reach);
      mask = omega (arith, parts.mask, words, mask);
      result = omega (arith, parts.result, words, result);
    }

-- iterations
pub iterations_taken : (c : PlainCaller) (depth : ℕ) (r after : Room) (t : SpStmt) (count : ℕ) (body : List SpStmt)
    (old inside new : PlainStmts)
    → iterations count (stmts_of body) ≡ plain_stmt t → with_room inside after
    ≡ taken_after no_stmt (stmts_taken c (depth + 1) r (stmts_of body))
    → new ≡ joined old (one (iterations count inside)) → with_room new after
    ≡ taken_after old (stmt_taken c depth r (plain_stmt t))
iterations_taken c depth r after t count body old inside new is walked added =
    ap (λ ts. with_room ts after) added
    ∙ ap (λ (x : Taken). taken_after old (with_room (one (iterations count x.body)) x.room)) walked
    ∙ ap (λ x. taken_after old (stmt_taken c depth r x)) is

-- ---- statements one after another

pub next_taken : (c : PlainCaller) (depth : ℕ) (r after : Room) (body : List SpStmt) (i : ℕ) (t : SpStmt)
    (old new : PlainStmts) (whole : Taken)
    → i < length body → t ≡ get_or body i t → with_room new after
    ≡ taken_after old (stmt_taken c depth r (plain_stmt t))
    → taken_after old (stmts_taken c depth r (stmts_of (drop i body))) ≡ whole
    → taken_after new (stmts_taken c depth after (stmts_of (drop (i + 1) body))) ≡ whole
next_taken c depth r after body i t old new whole within is taken so_far =
    let first = stmt_taken c depth r (plain_stmt t) in
    let rest = stmts_of (drop (i + 1) body) in
    ap (λ (x : Taken). taken_after x.body (stmts_taken c depth x.room rest)) taken
    ∙ ap (λ ts. with_room ts (stmts_taken c depth first.room rest).room) (joined_joined old first.body
    (stmts_taken c depth first.room rest).body)
    ∙ sym (ap (λ ts. taken_after old (stmts_taken c depth r (stmts_of ts))) (drop_item body i t within is)) ∙ so_far

pub none_taken : (c : PlainCaller) (depth : ℕ) (r : Room) (body : List SpStmt) (i : ℕ) (out : PlainStmts)
    (whole : Taken) → length body ≤ i
    → taken_after out (stmts_taken c depth r (stmts_of (drop i body))) ≡ whole → with_room out r ≡ whole
none_taken c depth r body i out whole past so_far =
    ap (λ ts. with_room ts r) (sym (joined_none out))
    ∙ sym (ap (λ ts. taken_after out (stmts_taken c depth r (stmts_of ts))) (drop_all i body past)) ∙ so_far

pub level_kept : (c : PlainCaller) (depth : ℕ) (r after : Room) (t : PlainStmt) (old new : PlainStmts)
    → with_room new after ≡ taken_after old (stmt_taken c depth r t)
    → depth + stmt_levels t ≤ r.levels → r.levels ≤ after.levels
level_kept c depth r after t old new taken above =
    let h = stmt_within c depth r t above in
    let same = ap (λ (x : Taken). x.room.levels) taken in
    let grows = h.levels in
    omega (arith, same, grows)

-- levels of iterations
pub iterations_levels : (t : SpStmt) (count : ℕ) (body : List SpStmt) → t ≡ Iterations count body
    → stmt_levels (plain_stmt t) ≡ 1 + stmts_levels (stmts_of body)
iterations_levels t count body is =
    ap (λ x. stmt_levels (plain_stmt x)) is ∙ ap stmt_levels (plain_iterations count body)

pub level_part : (body : List SpStmt) (i : ℕ) (t : SpStmt) → i < length body → t ≡ get_or body i t
    → stmt_levels (plain_stmt t) ≤ stmts_levels (stmts_of body)
level_part [] i t within is = absurd (omega (arith, within))
level_part (x ∷ body) zero t within is = let same = ap (λ y. stmt_levels (plain_stmt y)) is in omega (arith, same)
level_part (x ∷ body) (suc i) t within is =
    let rest = level_part body i t (omega (arith, within)) is in omega (arith, rest)
