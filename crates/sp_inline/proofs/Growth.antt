-- By how much a function grows that takes in a call, and whether there is room for it.
use Rattle.std.proofs.Common.{◌≡◌, ℕ, zero, suc, ◌+◌, ◌*◌, ◌<◌, ◌≤◌, ◌^◌, Bool, true, false, if◌then◌else◌, List, [], ◌∷◌, length, map, get_or, slice_index_or, Option, Some, None, is_some, refl, sym, ◌∙◌, ap, ap₂, subst, arith, true≢false, ◌⊎◌, inl, inr}
use Rattle.std.proofs.lemmas.List.{length-map}
use Rattle.std.specs.Prelude.{◌-◌, nat_lt, nat_le, max, min, ◌&&◌}
use Rattle.std.proofs.lemmas.Bool.{and_parts, leb-true, ltb-true, lt-ltb, le-leb, cases_lt}
use Rattle.sp_tree.specs.declared.expressions.SpExpr.{SpExpr}
use Rattle.sp_tree.specs.declared.operators.SpBinary.{SpBinary}
use Rattle.sp_tree.specs.Cost.{binary_cost, unary_cost, is_held, expr_cost, args_cost, target_cost, stmt_cost, stmts_cost}
use Rattle.sp_tree.specs.Formed.{stmts_levels, slots_of}
use Rattle.sp_tree.specs.Plain.{PlainSp, plain_sp, constant, frame_word, cell_word, array_word, before_one, between_two}
use Rattle.sp_tree.specs.Shown.{plain_function}
use Rattle.sp_tree.specs.Statements.{PlainSpTarget, to_slot, to_cell, to_array, PlainStmt, masks, writes, calls, transfers, overruns, iterations, PlainStmts, no_stmt, stmt, joined, PlainFunction, no_function}
use Rattle.sp_tree.proofs.Joins.{joined_cost}
use Rattle.sp_inline.specs.declared.measured.Measured.{Measured}
use Rattle.sp_inline.specs.declared.calls.Call.{Call}
use Rattle.sp_inline.specs.declared.callers.Caller.{Caller}
use Rattle.sp_inline.specs.declared.room.Room.{Room}
use Rattle.sp_inline.specs.Capped.{capped}
use Rattle.sp_inline.specs.Moved.{moved, args_moved, target_moved, stmt_moved, stmts_moved}
use Rattle.sp_inline.specs.Reach.{stmts_reach, stmts_calls}
use Rattle.sp_inline.specs.Shown.{measured_functions, plain_caller, args_of, statements_for}
use Rattle.sp_inline.specs.Taken.{begun_words, handed, call_mask, entered, given_set, call_statements, PlainCaller, callee, growth, room_of, room_after, is_whole, may_take, has_room, is_taken}
use Rattle.sp_tree.specs.MaskTests.{tests_mask}

-- ---- what is moved costs what it cost

moved_held : (o : ℕ) (op : SpBinary) (e : PlainSp) → is_held op (moved o e) ≡ is_held op e
moved_held o op (constant n) = refl
moved_held o op _ = refl

moved_cost : (o : ℕ) (e : PlainSp) → expr_cost (moved o e) ≡ expr_cost e
moved_cost o (array_word array index) = ap (λ n. 12 + n) (moved_cost o index)
moved_cost o (before_one op of) = ap (λ n. unary_cost op + n) (moved_cost o of)
moved_cost o (between_two op a b) =
    ap₂ (λ m n. binary_cost op + m + n) (moved_cost o a)
    (ap₂ (λ (held : Bool) n. if held then 0 else n) (moved_held o op b) (moved_cost o b))
moved_cost o _ = refl

moved_args_cost : (o : ℕ) (args : List PlainSp) → args_cost (args_moved o args) ≡ args_cost args
moved_args_cost o [] = refl
moved_args_cost o (e ∷ args) = ap₂ (λ m n. m + n) (moved_cost o e) (moved_args_cost o args)

moved_target_cost : (o : ℕ) (target : PlainSpTarget) → target_cost (target_moved o target) ≡ target_cost target
moved_target_cost o (to_slot slot) = refl
moved_target_cost o (to_cell cell) = refl
moved_target_cost o (to_array array index) = ap (λ n. 16 + n) (moved_cost o index)

mutual
  moved_stmt_cost : (o : ℕ) (t : PlainStmt) → stmt_cost (stmt_moved o t) ≡ stmt_cost t
  moved_stmt_cost o (masks slot e) = ap (λ n. 1 + n) (moved_cost o e)
  moved_stmt_cost o (writes mask target e) = ap₂ (λ m n. m + n) (moved_target_cost o target) (moved_cost o e)
  moved_stmt_cost o (calls mask k args result) = ap (λ n. 16 + n) (moved_args_cost o args)
  moved_stmt_cost o (transfers mask core source target count) =
      omega (arith, moved_cost o source, moved_cost o target, moved_cost o count)
  moved_stmt_cost o (overruns mask e) = ap (λ n. 6 + n) (moved_cost o e)
  moved_stmt_cost o (iterations count body) = ap (λ n. 11 + n) (moved_stmts_cost o body)

  moved_stmts_cost : (o : ℕ) (ts : PlainStmts) → stmts_cost (stmts_moved o ts) ≡ stmts_cost ts
  moved_stmts_cost o no_stmt = refl
  moved_stmts_cost o (stmt t rest) = ap₂ (λ m n. m + n) (moved_stmt_cost o t) (moved_stmts_cost o rest)

-- ---- what a call costs that is taken in

begun_cost : (at n : ℕ) (args : List PlainSp) → length args ≤ n → stmts_cost (begun_words at n args) + length args
    ≡ args_cost args + 2 * n
begun_cost at zero [] few = refl
begun_cost at zero (e ∷ args) few = absurd (omega (arith, few))
begun_cost at (suc n) [] few = let rest = begun_cost (at + 1) n [] (omega arith) in omega (arith, rest)
begun_cost at (suc n) (e ∷ args) few = let rest = begun_cost (at + 1) n args (omega (arith, few)) in omega (arith, rest)

pub handed_length : (at : ℕ) (mask : PlainSp) (args : List PlainSp) → length (handed at mask args) ≡ at + 1
handed_length zero mask args = refl
handed_length (suc n) mask [] = let rest = handed_length n mask [] in omega (arith, rest)
handed_length (suc n) mask (e ∷ args) = let rest = handed_length n mask args in omega (arith, rest)

handed_cost : (at : ℕ) (mask : PlainSp) (args : List PlainSp) → length args ≤ at
    → args_cost (handed at mask args) + length args ≡ args_cost args + at + expr_cost mask
handed_cost zero mask [] few = omega arith
handed_cost zero mask (e ∷ args) few = absurd (omega (arith, few))
handed_cost (suc n) mask [] few = let rest = handed_cost n mask [] (omega arith) in omega (arith, rest)
handed_cost (suc n) mask (e ∷ args) few = let rest = handed_cost n mask args (omega (arith, few)) in omega (arith, rest)

call_cost : (o mask : ℕ) (f : PlainFunction) (args : List PlainSp) (result : Option ℕ) → length args ≤ f.mask
    → f.mask < slots_of f
    → let tests = tests_mask f.mask f.body in
    stmts_cost (call_statements o f mask args result) + length args + 1
    ≡ args_cost args + (2 * slots_of f + (expr_cost (call_mask tests mask) + (stmts_cost (entered tests f.body)
    + stmts_cost (given_set mask result (o + f.result)))))
call_cost o mask f args result few below =
    let tests = tests_mask f.mask f.body in
    let own = entered tests f.body in
    let last = given_set mask result (o + f.result) in
    let body = joined (stmts_moved o own) last in
    let all = handed f.mask (call_mask tests mask) args in
    let begin = begun_words o (slots_of f) all in
    let count = handed_length f.mask (call_mask tests mask) args in
    let paid = handed_cost f.mask (call_mask tests mask) args few in
    let whole = joined_cost begin body in
    let behind = joined_cost (stmts_moved o own) last in
    let first = begun_cost o (slots_of f) all (omega (arith, count, below)) in
    let same = moved_stmts_cost o own in
    numbers (stmts_cost (call_statements o f mask args result)) (stmts_cost begin) (stmts_cost body)
    (stmts_cost (stmts_moved o own)) (stmts_cost own)
    (stmts_cost last) (length args) (args_cost args) (length all) (args_cost all) (expr_cost (call_mask tests mask))
    f.mask (slots_of f) whole behind first same count paid
  where
    numbers : (all begin body moved own last n args m handed given at words : ℕ) → all ≡ begin + body → body
        ≡ moved + last → begin + m ≡ handed + 2 * words → moved ≡ own
        → m ≡ at + 1 → handed + n ≡ args + at + given → all + n + 1 ≡ args + (2 * words + (given + (own + last)))
    numbers all begin body moved own last n args m handed given at words a b c d e h = omega (arith, a, b, c, d, e, h)

pub grown : (o mask : ℕ) (f : PlainFunction) (args : List SpExpr) (result : Option ℕ) (words cost own given : ℕ)
    → words ≡ slots_of f
    → let tests = tests_mask f.mask f.body in
    cost ≡ capped (stmts_cost (entered tests f.body)) → own ≡ expr_cost (call_mask tests mask) → given
    ≡ stmts_cost (given_set mask result (o + f.result))
    → length args ≤ f.mask → f.mask < words
    → min (min (cost + (2 * words + own - 1 - length args + given)) (2 ^ 64 - 1) - 16) (2 ^ 32)
    ≡ min (growth (call_statements o f mask (map plain_sp args) result) (map plain_sp args)) (2 ^ 32)
grown o mask f args result words cost own given same_words same_cost same_own same_given few below =
    let tests = tests_mask f.mask f.body in
    let count = length-map args plain_sp in
    let whole = call_cost o mask f (map plain_sp args) result (omega (arith, few, count))
    (omega (arith, below, same_words)) in
    numbers (stmts_cost (call_statements o f mask (map plain_sp args) result)) (args_cost (map plain_sp args))
    (stmts_cost (entered tests f.body))
    (expr_cost (call_mask tests mask)) (stmts_cost (given_set mask result (o + f.result))) (length args)
    (length (map plain_sp args)) f.mask words (slots_of f) cost own given
    same_words same_cost same_own same_given few below count whole
  where
    numbers : (all paid body start last n m at words slots cost own given : ℕ) → words ≡ slots → cost
        ≡ min body (2 ^ 64 - 1) → own ≡ start → given ≡ last → n ≤ at → at < words → m ≡ n
        → all + m + 1 ≡ paid + (2 * slots + (start + (body + last)))
        → min (min (cost + (2 * words + own - 1 - n + given)) (2 ^ 64 - 1) - 16) (2 ^ 32)
        ≡ min (all - (16 + paid)) (2 ^ 32)
    numbers all paid body start last n m at words slots cost own given a b c d p e q h =
        omega (arith, a, b, c, d, p, e, q, h)

-- ---- functions that are called

pub measured_length : (ms : List Measured) → length (measured_functions ms) ≡ length ms
measured_length ms = length-map ms (λ m. plain_function m.function)

pub callee_is : (ms : List Measured) (k : ℕ) (m : Measured) → k < length ms → plain_function (get_or ms k m).function
    ≡ slice_index_or (measured_functions ms) k no_function
callee_is [] k m within = absurd (omega (arith, within))
callee_is (x ∷ ms) zero m within = refl
callee_is (x ∷ ms) (suc k) m within = callee_is ms k m (omega (arith, within))

all_of : (a b c : Bool) (k n : ℕ) → k < n → (a && (b && c)) ≡ (a && (nat_lt k n && (b && c)))
all_of false b c k n below = refl
all_of true b c k n below = sym (ap (λ (d : Bool). d && (b && c)) (lt-ltb k n below))

pub may_found : (c : Caller) (depth k : ℕ) (args : List SpExpr) (m : Measured) (b : Bool) → k < length c.functions.now
    → (nat_lt 0 depth && (is_whole k (plain_function (get_or c.functions.now k m).function)
    && nat_le (length args) (get_or c.functions.now k m).function.mask)) ≡ b
    → may_take (plain_caller c) depth k (map plain_sp args) ≡ b
may_found c depth k args m b below h =
    let ms = c.functions.now in
    let x = get_or ms k m in
    let g = callee (plain_caller c) k in
    let n = length (map plain_sp args) in
    sym (all_of (nat_lt 0 depth) (is_whole k g) (nat_le n g.mask) k (length (measured_functions ms))
    (omega (arith, below, measured_length ms)))
    ∙ sym (ap (λ (f : PlainFunction). nat_lt 0 depth && (is_whole k f && nat_le n f.mask)) (callee_is ms k m below))
    ∙ ap (λ a. nat_lt 0 depth && (is_whole k (plain_function x.function) && nat_le a x.function.mask))
    (length-map args plain_sp) ∙ h

not_true : (b : Bool) → (b ≡ true → ⊥) → b ≡ false
not_true true is_not = absurd (is_not refl)
not_true false is_not = refl

not_below : (k n : ℕ) → n ≤ k → nat_lt k n ≡ false
not_below k n past = not_true (nat_lt k n) (λ is. (let below = ltb-true k n is in omega (arith, below, past)))

no_and : (a b : Bool) → (a && (false && b)) ≡ false
no_and true b = refl
no_and false b = refl

pub may_past : (c : Caller) (depth k : ℕ) (args : List PlainSp) → length c.functions.now ≤ k
    → may_take (plain_caller c) depth k args ≡ false
may_past c depth k args past =
    let ms = c.functions.now in
    ap (λ (b : Bool). nat_lt 0 depth
    && (b && (is_whole k (callee (plain_caller c) k) && nat_le (length args) (callee (plain_caller c) k).mask)))
    (not_below k (length (measured_functions ms)) (omega (arith, past, measured_length ms)))
    ∙ no_and (nat_lt 0 depth) (is_whole k (callee (plain_caller c) k) && nat_le (length args) (callee
    (plain_caller c) k).mask)

-- what is known of one that may be taken in
pub record Fitting (f : PlainFunction) (count : ℕ) : Type 0 where
  pub reach : stmts_reach f.body ≤ slots_of f
  pub mask : f.mask < slots_of f
  pub result : f.result < slots_of f
  pub few : count ≤ f.mask

pub fitting : (c : PlainCaller) (depth k : ℕ) (args : List PlainSp) → may_take c depth k args ≡ true
    → Fitting (callee c k) (length args)
fitting c depth k args is =
    let f = callee c k in
    let a = and_parts (nat_lt 0 depth) _ is in
    let b = and_parts (nat_lt k (length c.functions)) _ a.1 in
    let d = and_parts (is_whole k f) (nat_le (length args) f.mask) b.1 in
    let e = and_parts (nat_lt f.result (slots_of f)) _ d.0 in
    let g = and_parts (nat_le (stmts_reach f.body) (slots_of f)) _ e.1 in
    let h = and_parts (nat_le (stmts_calls f.body) k) (nat_lt f.mask (slots_of f)) g.1 in
    record {
      reach = leb-true (stmts_reach f.body) (slots_of f) g.0;
      mask = ltb-true f.mask (slots_of f) h.1;
      result = ltb-true f.result (slots_of f) e.0;
      few = leb-true (length args) f.mask d.1;
    }

-- ---- room

over : (a b : ℕ) → b < a → nat_le a b ≡ false
over a b past = not_true (nat_le a b) (λ is. (let low = leb-true a b is in omega (arith, low, past)))

same_test : (a b c d : ℕ) → (a ≤ b → c ≤ d) → (c ≤ d → a ≤ b) → nat_le a b ≡ nat_le c d
same_test a b c d there back = by (cases_lt b a)
  where
    by : (b < a) ⊎ (a ≤ b) → nat_le a b ≡ nat_le c d
    by (inr small) = le-leb a b small ∙ sym (le-leb c d (there small))
    by (inl large) = over a b large ∙ sym (over c d (past (cases_lt d c)))
      where
        past : (d < c) ⊎ (c ≤ d) → d < c
        past (inl h) = h
        past (inr h) = let k = back h in absurd (omega (arith, k, large))

-- the room that is left, by numbers that are told as far as words tell them
pub room_same : (c : PlainCaller) (depth : ℕ) (r : Room) (f : PlainFunction) (more : PlainStmts) (args : List PlainSp)
    (grown words levels : ℕ)
    → grown ≡ min (growth more args) (2 ^ 32) → words ≡ max r.words (c.words + slots_of f)
    → levels ≡ max r.levels (min (capped (stmts_levels f.body) + depth) (2 ^ 64 - 1)) → r.left < 2 ^ 32
    → c.frame < 2 ^ 32
    → (if nat_le grown r.left && nat_le (words + (levels + 2)) c.frame then Some (room_of (r.left - grown) words
    levels) else None)
    ≡ (if has_room c r (growth more args) (room_after c depth r f more args) then Some
    (room_after c depth r f more args) else None)
room_same c depth r f more args grown words levels is_grown is_words is_levels small narrow =
    ap₂ (λ (a b : Bool). if a && b then Some (room_of (r.left - grown) words levels) else None) first second
    ∙ by (nat_le (growth more args) r.left) (nat_le (after.words + (after.levels + 2)) c.frame) refl refl
  where
    after : Room
    after = room_after c depth r f more args

    first : nat_le grown r.left ≡ nat_le (growth more args) r.left
    first = same_test grown r.left (growth more args) r.left (λ h. omega (arith, h, is_grown, small))
        (λ h. omega (arith, h, is_grown, small))

    second : nat_le (words + (levels + 2)) c.frame ≡ nat_le (after.words + (after.levels + 2)) c.frame
    second = same_test (words + (levels + 2)) c.frame (after.words + (after.levels + 2)) c.frame
        (λ h. omega (arith, h, is_words, is_levels, narrow)) (λ h. omega (arith, h, is_words, is_levels, narrow))

    by : (a b : Bool) → nat_le (growth more args) r.left ≡ a → nat_le (after.words + (after.levels + 2)) c.frame ≡ b
        → (if a && b then Some (room_of (r.left - grown) words levels) else None)
        ≡ (if a && b then Some after else None)
    by false b fits room = refl
    by true false fits room = refl
    by true true fits room =
        let light = leb-true (growth more args) r.left fits in
        let low = leb-true (after.words + (after.levels + 2)) c.frame room in
        let a : r.left - grown ≡ after.left = omega (arith, is_grown, light, small) in
        let b : levels ≡ after.levels = omega (arith, is_levels, low, narrow) in
        λ i. Some (room_of (a i) (is_words i) (b i))

pub taken_both : (c : PlainCaller) (depth : ℕ) (r : Room) (k : ℕ) (more : PlainStmts) (args : List PlainSp) (b : Bool)
    → may_take c depth k args ≡ true
    → has_room c r (growth more args) (room_after c depth r (callee c k) more args) ≡ b → is_taken c depth r k more args
    ≡ b
taken_both c depth r k more args b may room =
    ap (λ (a : Bool). a && has_room c r (growth more args) (room_after c depth r (callee c k) more args)) may ∙ room

pub may_not : (c : PlainCaller) (depth : ℕ) (r : Room) (k : ℕ) (more : PlainStmts) (args : List PlainSp)
    → may_take c depth k args ≡ false
    → is_taken c depth r k more args ≡ false
may_not c depth r k more args is =
    ap (λ (a : Bool). a && has_room c r (growth more args) (room_after c depth r (callee c k) more args)) is

abbrev or_given : Room → Option Room → Room
or_given given None = given
or_given given (Some other) = other

-- what is found says whether there is room
some_room : (b : Bool) (given after : Room) → Some given ≡ (if b then Some after else None) → (b ≡ true)
    × (given ≡ after)
some_room true given after is = (refl, ap (λ o. or_given given o) is)
some_room false given after is = absurd (true≢false (ap is_some is))

no_room : (b : Bool) (after : Room) → None ≡ (if b then Some after else None) → b ≡ false
no_room true after is = absurd (true≢false (sym (ap is_some is)))
no_room false after is = refl

pub taken_found : (c : PlainCaller) (depth : ℕ) (r : Room) (k : ℕ) (call : Call) (g : PlainFunction) (given : Room)
    → may_take c depth k (args_of call) ≡ true → g ≡ callee c k
    → Some given ≡ (if has_room c r (growth (statements_for c.words g call) (args_of call))
    (room_after c depth r g (statements_for c.words g call) (args_of call))
    then Some (room_after c depth r g (statements_for c.words g call) (args_of call)) else None)
    → (is_taken c depth r k (statements_for c.words (callee c k) call) (args_of call) ≡ true)
    × ((g ≡ callee c k) × (given ≡ room_after c depth r (callee c k) (statements_for c.words (callee c k) call)
    (args_of call)))
taken_found c depth r k call g given may same found =
    let more = statements_for c.words (callee c k) call in
    let here = subst (λ h. Some given ≡ (if has_room c r (growth (statements_for c.words h call) (args_of call))
    (room_after c depth r h (statements_for c.words h call) (args_of call))
    then Some (room_after c depth r h (statements_for c.words h call) (args_of call)) else None)) same found in
    let both = some_room (has_room c r (growth more (args_of call)) (room_after c depth r (callee c k) more
    (args_of call))) given _ here in
    (taken_both c depth r k more (args_of call) true may both.0, (same, both.1))

pub taken_not : (c : PlainCaller) (depth : ℕ) (r : Room) (k : ℕ) (call : Call) (g : PlainFunction)
    → may_take c depth k (args_of call) ≡ true → g ≡ callee c k
    → None ≡ (if has_room c r (growth (statements_for c.words g call) (args_of call))
    (room_after c depth r g (statements_for c.words g call) (args_of call))
    then Some (room_after c depth r g (statements_for c.words g call) (args_of call)) else None)
    → is_taken c depth r k (statements_for c.words (callee c k) call) (args_of call) ≡ false
taken_not c depth r k call g may same found =
    let more = statements_for c.words (callee c k) call in
    let here = subst (λ h. None ≡ (if has_room c r (growth (statements_for c.words h call) (args_of call))
    (room_after c depth r h (statements_for c.words h call) (args_of call))
    then Some (room_after c depth r h (statements_for c.words h call) (args_of call)) else None)) same found in
    taken_both c depth r k more (args_of call) false may
    (no_room (has_room c r (growth more (args_of call)) (room_after c depth r (callee c k) more (args_of call))) _ here)

pub few_args : (c : PlainCaller) (depth k : ℕ) (args : List SpExpr) (m : Measured)
    → may_take c depth k (map plain_sp args) ≡ true
    → plain_function m.function ≡ callee c k → length args ≤ m.function.mask
few_args c depth k args m may same =
    let fits = (fitting c depth k (map plain_sp args) may).few in
    let mask = ap (λ (f : PlainFunction). f.mask) same in
    omega (arith, fits, mask, length-map args plain_sp)

pub mask_there : (c : PlainCaller) (depth k : ℕ) (args : List SpExpr) (m : Measured)
    → may_take c depth k (map plain_sp args) ≡ true
    → plain_function m.function ≡ callee c k → m.function.mask < m.words
mask_there c depth k args m may same =
    let there = (fitting c depth k (map plain_sp args) may).mask in
    let words = m.words_are ∙ ap slots_of same in
    let mask = ap (λ (f : PlainFunction). f.mask) same in
    omega (arith, there, words, mask)
