-- A function that takes in calls gives what it gave.
use Rattle.std.proofs.Common.{◌≡◌, ℕ, zero, suc, ◌+◌, ◌<◌, ◌≤◌, ◌==◌, Bool, true, false, if◌then◌else◌, List, [], ◌∷◌, ◌++◌, length, length-append, Option, Some, None, slice_index, slice_index_or, refl, ap, sym, ◌∙◌, arith, ne_eqb, ap₂, subst, ◌⊎◌, inl, inr}
use Rattle.std.specs.Prelude.{cond, ◌-◌, nat_lt, nat_le}
use Rattle.std.proofs.lemmas.Bool.{cases_lt, and_parts, ltb-true, leb-true}
use Rattle.std.proofs.lemmas.List.{get_or_append_left, get_or_at, get_or_past}
use Rattle.c_world.specs.World.{World}
use Rattle.sp_tree.specs.Cost.{cost}
use Rattle.sp_tree.specs.Formed.{stmts_levels, slots_of}
use Rattle.sp_tree.specs.Plain.{PlainSp, frame_word}
use Rattle.sp_tree.specs.Statements.{to_slot, PlainStmt, masks, writes, calls, transfers, overruns, iterations, PlainStmts, no_stmt, stmt, joined, PlainFunction, no_function, PlainUnit}
use Rattle.sp_tree.specs.Straight.{State, Outcome, Serves, with_slot, in_world, with_result, write_done, call_done, args_worth, worth, stmt_done, stmts_done, begun_frame, function_outcome, serves}
use Rattle.sp_tree.specs.Begun.{begun, straight}
use Rattle.sp_tree.proofs.Joins.{joined_done}
use Rattle.sp_tree.proofs.Runs.{serves_own}
use Rattle.sp_inline.specs.Moved.{stmts_moved}
use Rattle.sp_inline.specs.Reach.{expr_reach, args_reach, stmt_reach, stmts_reach, stmts_calls}
use Rattle.sp_inline.specs.declared.room.Room.{Room}
use Rattle.sp_inline.specs.Taken.{begun_words, handed, call_mask, entered, given_set, call_statements, shortened, PlainCaller, Taken, callee, room_after, may_take, is_taken, kept, call_taken, stmt_taken, stmts_taken, body_taken, grown, is_whole, function_taken, first_taken, unit_taken}
use Rattle.sp_tree.specs.MaskTests.{tests_mask}
use Rattle.sp_inline.proofs.Shortened.{short_calls, short_gives, short_fits}
use Rattle.sp_inline.proofs.Entered.{entered_reach, entered_calls, mask_reach, begun_state, entered_done}
use Rattle.sp_inline.proofs.Windows.{window, put_here, put_there, stmts_window, stmts_low}
use Rattle.sp_inline.proofs.Alike.{Alike, Same, worth_alike, args_alike, slot_alike, on_alike, call_alike, times_alike, stmt_alike, stmts_alike}

-- ---- words that are begun

record Begun (at n : ℕ) (words : List ℕ) (s t : State) : Type 0 where
  here : (x : ℕ) → x < n → t.frame (at + x) ≡ slice_index words x
  before : (x : ℕ) → x < at → t.frame x ≡ s.frame x
  world : t.world ≡ s.world

-- a word is set, and those after it are begun
begun_next : (at n v : ℕ) (words : List ℕ) (s t : State) → Begun (at + 1) n words (with_slot at v s) t
    → Begun at (suc n) (v ∷ words) s t
begun_next at n v words s t h = record {
  here = each;
  before = λ x below. h.before x (omega (arith, below)) ∙ put_there at v x s.frame (omega (arith, below));
  world = h.world;
}
  where
    each : (x : ℕ) → x < suc n → t.frame (at + x) ≡ slice_index (v ∷ words) x
    each zero below = ap t.frame (omega arith) ∙ h.before at (omega arith) ∙ put_here at v s.frame
    each (suc x) below = ap t.frame (omega arith) ∙ h.here x (omega (arith, below))

begun_none : (at n : ℕ) (words : List ℕ) (s t : State) → ((x : ℕ) → slice_index (0 ∷ []) x ≡ slice_index words x)
    → Begun at n (0 ∷ []) s t → Begun at n words s t
begun_none at n words s t same h =
    record { here = λ x below. h.here x below ∙ same x; before = h.before; world = h.world }

zero_words : (x : ℕ) → slice_index (0 ∷ []) x ≡ slice_index [] x
zero_words zero = refl
zero_words (suc x) = refl

begun_done : (g : Serves) (o at n : ℕ) (args : List PlainSp) (s : State) → o ≤ at → args_reach args ≤ o
    → Begun at n (args_worth args s) s (stmts_done g (begun_words at n args) s)
begun_done g o at zero args s past within =
    record { here = λ x below. absurd (omega (arith, below)); before = λ x below. refl; world = refl }
begun_done g o at (suc n) [] s past within =
    let t = with_slot at 0 s in
    let u = stmts_done g (begun_words (at + 1) n []) t in
    begun_none at (suc n) [] s u zero_words (begun_next at n 0 [] s u (begun_done g o (at + 1) n [] t
    (omega (arith, past)) (omega arith)))
begun_done g o at (suc n) (e ∷ args) s past within =
    let t = with_slot at (worth e s) s in
    let u = stmts_done g (begun_words (at + 1) n args) t in
    let kept_low : Alike o t s =
    record { frame = λ x below. put_there at (worth e s) x s.frame (omega (arith, below, past)); world = refl } in
    begun_next at n (worth e s) (args_worth args s) s u
    (subst (λ vs. Begun (at + 1) n vs t u) (args_alike o args t s kept_low (omega (arith, within)))
    (begun_done g o (at + 1) n args t (omega (arith, past)) (omega (arith, within))))

-- ---- a call that is taken in

-- places that are one further on
same_next : (n x : ℕ) → (suc n == suc x) ≡ (n == x)
same_next n x = grind arith

-- what it is handed names no more words than the arguments and the mask
handed_reach : (o at : ℕ) (mask : PlainSp) (args : List PlainSp) → expr_reach mask ≤ o → args_reach args ≤ o
    → args_reach (handed at mask args) ≤ o
handed_reach o zero mask args mask_in within = omega (arith, mask_in)
handed_reach o (suc n) mask [] mask_in within =
    let rest = handed_reach o n mask [] mask_in (omega arith) in omega (arith, rest)
handed_reach o (suc n) mask (e ∷ args) mask_in within =
    let rest = handed_reach o n mask args mask_in (omega (arith, within)) in omega (arith, rest, within)

-- and is the mask in its own word, and each argument in its
handed_worth : (at : ℕ) (mask : PlainSp) (args : List PlainSp) (s : State) (x : ℕ) → length args ≤ at
    → slice_index (args_worth (handed at mask args) s) x ≡ cond (at == x) (worth mask s) (slice_index
    (args_worth args s) x)
handed_worth zero mask [] s zero few = refl
handed_worth zero mask [] s (suc x) few =
    sym (ap (λ b. cond b (worth mask s) (slice_index [] (suc x))) (ne_eqb zero (suc x) (omega arith)))
handed_worth zero mask (e ∷ args) s x few = absurd (omega (arith, few))
handed_worth (suc n) mask [] s zero few = sym (ap (λ b. cond b (worth mask s) 0) (ne_eqb (suc n) zero (omega arith)))
handed_worth (suc n) mask [] s (suc x) few =
    handed_worth n mask [] s x (omega arith) ∙ ap (λ b. cond b (worth mask s) 0) (sym (same_next n x))
handed_worth (suc n) mask (e ∷ args) s zero few =
    sym (ap (λ b. cond b (worth mask s) (worth e s)) (ne_eqb (suc n) zero (omega arith)))
handed_worth (suc n) mask (e ∷ args) s (suc x) few =
    handed_worth n mask args s x (omega (arith, few))
    ∙ ap (λ b. cond b (worth mask s) (slice_index (args_worth args s) x)) (sym (same_next n x))

-- what a function is handed at a call
abbrev pub words_handed : PlainFunction → ℕ → List PlainSp → List PlainSp
words_handed f mask args = handed f.mask (call_mask (tests_mask f.mask f.body) mask) args

-- as the statements of the function begin, their words are those that it begins with
pub call_entered : (o : ℕ) (g : Serves) (f : PlainFunction) (mask : ℕ) (args : List PlainSp) → mask < o
    → args_reach args ≤ o → length args ≤ f.mask → (s t : State) → Alike o s t
    → let s1 = stmts_done g (begun_words o (slots_of f) (words_handed f mask args)) s in
    let own = begun_state f (worth (call_mask (tests_mask f.mask f.body) mask) t) (args_worth args t) t.world in
    Alike (slots_of f) (window o s1) own
call_entered o g f mask args mask_in within few s t h = record { frame = each; world = begun.world ∙ h.world }
  where
    given : PlainSp
    given = call_mask (tests_mask f.mask f.body) mask

    given_in : expr_reach given ≤ o
    given_in = mask_reach o (tests_mask f.mask f.body) mask mask_in

    s1 : State
    s1 = stmts_done g (begun_words o (slots_of f) (handed f.mask given args)) s

    begun : Begun o (slots_of f) (args_worth (handed f.mask given args) s) s s1
    begun = begun_done g o o (slots_of f) (handed f.mask given args) s (omega arith)
        (handed_reach o f.mask given args given_in within)

    each : (x : ℕ) → x < slots_of f → s1.frame (o + x) ≡ begun_frame f (worth given t) (args_worth args t) x
    each x below =
        begun.here x below ∙ handed_worth f.mask given args s x few
        ∙ ap₂ (λ v vs. cond (f.mask == x) v (slice_index vs x)) (worth_alike o given s t h given_in)
        (args_alike o args s t h within)

-- and after them the words before stand
pub call_low : (o : ℕ) (g : Serves) (f : PlainFunction) (ts : PlainStmts) (mask : ℕ) (args : List PlainSp) → mask < o
    → args_reach args ≤ o → (s : State) → (x : ℕ) → x < o
    → (stmts_done g (stmts_moved o ts) (stmts_done g (begun_words o (slots_of f) (words_handed f mask args)) s)).frame x
    ≡ s.frame x
call_low o g f ts mask args mask_in within s x below =
    let all = words_handed f mask args in
    let given_in = mask_reach o (tests_mask f.mask f.body) mask mask_in in
    let s1 = stmts_done g (begun_words o (slots_of f) all) s in
    let begun = begun_done g o o (slots_of f) all s (omega arith)
    (handed_reach o f.mask (call_mask (tests_mask f.mask f.body) mask) args given_in within) in
    stmts_low g o ts x below s1 ∙ begun.before x below

pub call_alike_taken : (k o : ℕ) (g inner : Serves) → Same k g inner → (f : PlainFunction) → f.result < slots_of f
    → stmts_reach f.body ≤ slots_of f → stmts_calls f.body ≤ k
    → (mask : ℕ) (args : List PlainSp) (result : Option ℕ) → mask < o → args_reach args ≤ o → length args ≤ f.mask
    → (s t : State) → Alike o s t
    → (given : Outcome) → given ≡ function_outcome inner f (t.frame mask) (args_worth args t) t.world
    → Alike o (stmts_done g (call_statements o f mask args result) s) (call_done mask result t given)
call_alike_taken k o g inner same f result_in reach earlier mask args result mask_in within few s t h given is =
    subst (λ u. Alike o u (call_done mask result t given))
    (sym (joined_done g (begun_words o z (words_handed f mask args)) (joined (stmts_moved o body)
    (given_set mask result (o + f.result))) s
    ∙ joined_done g (stmts_moved o body) (given_set mask result (o + f.result)) s2))
    (by result)
  where
    z : ℕ
    z = slots_of f

    tests : Bool
    tests = tests_mask f.mask f.body

    body : PlainStmts
    body = entered tests f.body

    s2 : State
    s2 = stmts_done g (begun_words o z (words_handed f mask args)) s

    s3 : State
    s3 = stmts_done g (stmts_moved o body) s2

    own : State
    own = begun_state f (worth (call_mask tests mask) t) (args_worth args t) t.world

    last : State
    last = stmts_done inner f.body (begun_state f (t.frame mask) (args_worth args t) t.world)

    last_alike : Alike z (stmts_done g body (window o s2)) last
    last_alike =
        subst (Alike z (stmts_done g body (window o s2))) (entered_done inner f mask t (args_worth args t) t.world)
        (stmts_alike k g inner same z body (window o s2) own (omega (arith, reach, entered_reach tests f.body))
        (omega (arith, earlier, entered_calls tests f.body))
        (call_entered o g f mask args mask_in within few s t h))

    value_same : s3.frame (o + f.result) ≡ given.value
    value_same = ap (λ (u : State). u.frame f.result) (stmts_window g o body s2) ∙ last_alike.frame f.result result_in
        ∙ sym (ap (λ (x : Outcome). x.value) is)

    world_same : s3.world ≡ given.world
    world_same = ap (λ (u : State). u.world) (stmts_window g o body s2) ∙ last_alike.world
        ∙ sym (ap (λ (x : Outcome). x.world) is)

    low : (x : ℕ) → x < o → s3.frame x ≡ t.frame x
    low x below = call_low o g f body mask args mask_in within s x below ∙ h.frame x below

    behind : Alike o s3 (in_world t given.world)
    behind = record { frame = low; world = world_same }

    by : (result : Option ℕ) → Alike o (stmts_done g (given_set mask result (o + f.result)) s3) (call_done mask
        result t given)
    by None = either (t.frame mask == 1)
      where
        either : (b : Bool) → Alike o s3 (if b then in_world t given.world else in_world t given.world)
        either true = behind
        either false = behind
    by (Some slot) =
        on_alike o mask (write_done (to_slot slot) (frame_word (o + f.result))) (with_result (Some slot) given.value) s3
        (in_world t given.world)
        (low mask mask_in) (slot_alike o slot (s3.frame (o + f.result)) given.value s3 (in_world t given.world) behind
        value_same) behind

-- ---- the statements of a function that takes in calls

-- all functions give the same
pub record All (g h : Serves) : Type 0 where
  pub gives : (k mask : ℕ) (args : List ℕ) (w : World) → g k mask args w ≡ h k mask args w

-- what functions give is what they gave; each of those before it is served by those before that
pub record Served (c : PlainCaller) (g old : Serves) : Type 0 where
  pub same : All g old
  pub inner : ℕ → Serves
  pub own : (k mask : ℕ) (args : List ℕ) (w : World) → k < length c.functions → g k mask args w
      ≡ function_outcome (inner k) (callee c k) mask args w
  pub before : (k : ℕ) → k < length c.functions → Same k g (inner k)

-- a call is taken in, or stays
call_by : (c : PlainCaller) (g old : Serves) → Served c g old → (depth : ℕ) (r : Room) (mask k : ℕ)
    (args : List PlainSp) (result : Option ℕ) (s u : State)
    → mask < c.words → args_reach args ≤ c.words → Alike c.words s u
    → Alike c.words (stmts_done g (call_taken c depth r mask k args result).body s) (stmt_done old
    (calls mask k args result) u)
call_by c g old served depth r mask k args result s u mask_in within a = by (is_taken c depth r k more args) refl
  where
    f : PlainFunction
    f = callee c k

    less : PlainFunction
    less = shortened f

    more : PlainStmts
    more = call_statements c.words less mask args result

    given : Outcome
    given = old k (u.frame mask) (args_worth args u) u.world

    by : (b : Bool) → is_taken c depth r k more args ≡ b
        → Alike c.words
        (stmts_done g (if b then (let t : Taken = record { body = more; room = room_after c depth r f more args } in t)
        else kept r (calls mask k args result)).body s)
        (call_done mask result u given)
    by true is =
        let o = and_parts (may_take c depth k args) _ is in
        let p = and_parts (nat_lt 0 depth) _ o.0 in
        let q = and_parts (nat_lt k (length c.functions)) _ p.1 in
        let whole = (and_parts (is_whole k f) _ q.1).0 in
        let v = and_parts (nat_lt f.result (slots_of f)) _ whole in
        let w = and_parts (nat_le (stmts_reach f.body) (slots_of f)) _ v.1 in
        let below = ltb-true k (length c.functions) q.0 in
        let fits = short_fits f (ltb-true f.result (slots_of f) v.0) (leb-true (stmts_reach f.body) (slots_of f) w.0) in
        let few = leb-true (length args) f.mask (and_parts (is_whole k f) _ q.1).1 in
        let called = leb-true (stmts_calls f.body) k (and_parts (nat_le (stmts_calls f.body) k) _ w.1).0 in
        call_alike_taken k c.words g (served.inner k) (served.before k below) less fits.0 fits.1
        (omega (arith, called, short_calls f.result f.body)) mask args result mask_in within few s u a given
        (sym (served.same.gives k (u.frame mask) (args_worth args u) u.world)
        ∙ served.own k (u.frame mask) (args_worth args u) u.world below
        ∙ sym (short_gives (served.inner k) f (u.frame mask) (args_worth args u) u.world))
    by false is =
        call_alike c.words mask result s u (g k (s.frame mask) (args_worth args s) s.world) given
        (a.frame mask mask_in) a
        (ap₂ (λ m vs. g k m vs s.world) (a.frame mask mask_in) (args_alike c.words args s u a within)
        ∙ ap (g k (u.frame mask) (args_worth args u)) a.world
        ∙ served.same.gives k (u.frame mask) (args_worth args u) u.world)

-- no function is called
no_calls : (g old : Serves) → Same 0 g old
no_calls g old = record { gives = λ k mask args w below. absurd (omega (arith, below)) }

mutual
  pub stmt_taken_alike : (c : PlainCaller) (g old : Serves) → Served c g old → (depth : ℕ) (r : Room)
      (t : PlainStmt) (s u : State)
      → stmt_reach t ≤ c.words → Alike c.words s u → Alike c.words (stmts_done g (stmt_taken c depth r t).body s)
      (stmt_done old t u)
  stmt_taken_alike c g old served depth r (masks slot e) s u within a =
      stmt_alike 0 g old (no_calls g old) c.words (masks slot e) s u within (omega arith) a
  stmt_taken_alike c g old served depth r (calls mask k args result) s u within a =
      call_by c g old served depth r mask k args result s u (omega (arith, within)) (omega (arith, within)) a
  stmt_taken_alike c g old served depth r (iterations count body) s u within a =
      times_alike c.words (stmts_done g (stmts_taken c (depth + 1) r body).body) (stmts_done old body)
      (λ x y b. stmts_taken_alike c g old served (depth + 1) r body x y within b) count s u a
  stmt_taken_alike c g old served depth r other s u within a =
      stmt_alike 0 g old (no_calls g old) c.words other s u within (omega arith) a

  pub stmts_taken_alike : (c : PlainCaller) (g old : Serves) → Served c g old → (depth : ℕ) (r : Room)
      (ts : PlainStmts) (s u : State)
      → stmts_reach ts ≤ c.words → Alike c.words s u → Alike c.words (stmts_done g (stmts_taken c depth r ts).body s)
      (stmts_done old ts u)
  stmts_taken_alike c g old served depth r no_stmt s u within a = a
  stmts_taken_alike c g old served depth r (stmt t rest) s u within a =
      let first = stmt_taken c depth r t in
      let others = stmts_taken c depth first.room rest in
      subst (λ x. Alike c.words x (stmts_done old (stmt t rest) u)) (sym (joined_done g first.body others.body s))
      (stmts_taken_alike c g old served depth first.room rest (stmts_done g first.body s) (stmt_done old t u)
      (omega (arith, within))
      (stmt_taken_alike c g old served depth r t s u (omega (arith, within)) a))

-- ---- functions

-- functions that give the same are one
same_serves : (g h : Serves) → All g h → g ≡ h
same_serves g h same = λ i k mask args w. same.gives k mask args w i

-- a function that takes in calls gives what it gave
pub function_same : (before : List PlainFunction) (most frame : ℕ) (g old : Serves) (f : PlainFunction)
    → Served (record { functions = before; words = slots_of f; frame = frame }) g old
    → (mask : ℕ) (args : List ℕ) (w : World)
    → function_outcome g (function_taken before most frame f) mask args w ≡ function_outcome old f mask args w
function_same before most frame g old f served mask args w = by (is_whole (length before) f) refl
  where
    by : (whole : Bool) → is_whole (length before) f ≡ whole
        → function_outcome g (if whole then grown f (body_taken before most frame f) else f) mask args w
        ≡ function_outcome old f mask args w
    by false is = ap (λ h. function_outcome h f mask args w) (same_serves g old served.same)
    by true is =
        let p = and_parts (nat_lt f.result (slots_of f)) _ is in
        let q = and_parts (nat_le (stmts_reach f.body) (slots_of f)) _ p.1 in
        let s : State = record { frame = begun_frame f mask args; world = w } in
        let c : PlainCaller = record { functions = before; words = slots_of f; frame = frame } in
        let r : Room = record { left = most - cost f; words = slots_of f; levels = stmts_levels f.body } in
        let ends = stmts_taken_alike c g old served 0 r f.body s s (leb-true (stmts_reach f.body) (slots_of f) q.0)
        (record { frame = λ x below. refl; world = refl }) in
        ap₂ (λ v x. let t : Outcome = record { value = v; world = x } in t)
        (ends.frame f.result (ltb-true f.result (slots_of f) p.0)) ends.world

-- ---- units

pub first_length : (most frames : List ℕ) (fs : List PlainFunction) (n : ℕ) → length (first_taken most frames fs n) ≡ n
first_length most frames fs zero = refl
first_length most frames fs (suc n) =
    let before = first_taken most frames fs n in
    length-append before (function_taken before (slice_index most n) (slice_index frames n) (slice_index_or fs n
    no_function) ∷ [])
    ∙ (let here = first_length most frames fs n in omega (arith, here))

-- each has taken in what it may of those before it
pub first_at : (most frames : List ℕ) (fs : List PlainFunction) (n k : ℕ) → k < n
    → slice_index_or (first_taken most frames fs n) k no_function
    ≡ function_taken (first_taken most frames fs k) (slice_index most k) (slice_index frames k) (slice_index_or
    fs k no_function)
first_at most frames fs zero k below = absurd (omega (arith, below))
first_at most frames fs (suc n) k below = by (first_at most frames fs n k) (cases_lt k n)
  where
    before : List PlainFunction
    before = first_taken most frames fs n

    last : PlainFunction
    last = function_taken before (slice_index most n) (slice_index frames n) (slice_index_or fs n no_function)

    is : PlainFunction
    is = function_taken (first_taken most frames fs k) (slice_index most k) (slice_index frames k)
        (slice_index_or fs k no_function)

    by : (k < n → slice_index_or before k no_function ≡ is) → (k < n) ⊎ (n ≤ k)
        → slice_index_or (before ++ last ∷ []) k no_function
        ≡ function_taken (first_taken most frames fs k) (slice_index most k) (slice_index frames k) (slice_index_or
        fs k no_function)
    by earlier (inl less) =
        get_or_append_left before (last ∷ []) no_function k (let here = first_length most frames fs n in
        omega (arith, less, here))
        ∙ earlier less
    by earlier (inr past) =
        let same : n ≡ k = omega (arith, past, below) in
        get_or_at before last [] no_function k (first_length most frames fs n ∙ same)
        ∙ ap (λ j. function_taken (first_taken most frames fs j) (slice_index most j) (slice_index frames j)
        (slice_index_or fs j no_function)) same

-- and among those before a later one each is as it is among all
pub first_before : (most frames : List ℕ) (fs : List PlainFunction) (n m k : ℕ) → k < n → k < m
    → slice_index_or (first_taken most frames fs n) k no_function
    ≡ slice_index_or (first_taken most frames fs m) k no_function
first_before most frames fs n m k in_n in_m = first_at most frames fs n k in_n ∙ sym (first_at most frames fs m k in_m)

-- past all functions there is none
past_all : (fs : List PlainFunction) (k : ℕ) → length fs ≤ k → slice_index_or fs k no_function ≡ no_function
past_all fs k past = get_or_past fs k no_function past

-- the function of a number gives what it gave, where those before it do
own_given : (most frames : List ℕ) (fs : List PlainFunction) (n : ℕ)
    → All (serves (first_taken most frames fs (length fs)) n) (serves fs n)
    → (mask : ℕ) (args : List ℕ) (w : World)
    → function_outcome (serves (first_taken most frames fs (length fs)) n) (slice_index_or
    (first_taken most frames fs (length fs)) n no_function) mask args w
    ≡ function_outcome (serves fs n) (slice_index_or fs n no_function) mask args w
own_given most frames fs n earlier mask args w = by (cases_lt n (length fs))
  where
    all : ℕ
    all = length fs

    new : List PlainFunction
    new = first_taken most frames fs all

    f : PlainFunction
    f = slice_index_or fs n no_function

    served : n < all → Served (record {
      functions = first_taken most frames fs n;
      words = slots_of f;
      frame = slice_index frames n;
    }) (serves new n) (serves fs n)
    served there = record {
      same = earlier;
      inner = λ k. serves new k;
      own = λ k mask args w within. let below : k < n =
          (let size = first_length most frames fs n in omega (arith, within, size)) in
          serves_own new k n mask args w below
          ∙ ap (λ h. function_outcome (serves new k) h mask args w) (first_before most frames fs all n k
          (omega (arith, below, there)) below);
      before = λ k within. let below : k < n =
          (let size = first_length most frames fs n in omega (arith, within, size)) in record {
            gives = λ j mask args w less. serves_own new j n mask args w (omega (arith, less, below))
                ∙ sym (serves_own new j k mask args w less);
          };
    }

    by : (n < all) ⊎ (all ≤ n) → function_outcome (serves new n) (slice_index_or new n no_function) mask args w
        ≡ function_outcome (serves fs n) f mask args w
    by (inl there) =
        ap (λ h. function_outcome (serves new n) h mask args w) (first_at most frames fs all n there)
        ∙ function_same (first_taken most frames fs n) (slice_index most n) (slice_index frames n) (serves new n)
        (serves fs n) f (served there) mask args w
    by (inr past) =
        ap (λ h. function_outcome (serves new n) h mask args w)
        (past_all new n (let size = first_length most frames fs all in omega (arith, past, size)))
        ∙ ap (λ h. function_outcome (serves fs n) h mask args w) (sym (past_all fs n past))

-- what the first so many functions give is what they gave
pub same_given : (most frames : List ℕ) (fs : List PlainFunction) (n : ℕ)
    → All (serves (first_taken most frames fs (length fs)) n) (serves fs n)
same_given most frames fs zero = record { gives = λ k mask args w. refl }
same_given most frames fs (suc n) =
    record { gives = λ k mask args w. by (same_given most frames fs n) k mask args w (k == n) }
  where
    new : List PlainFunction
    new = first_taken most frames fs (length fs)

    by : All (serves new n) (serves fs n) → (k mask : ℕ) (args : List ℕ) (w : World) → (own : Bool)
        → (if own then function_outcome (serves new n) (slice_index_or new n no_function) mask args w else serves new
        n k mask args w)
        ≡ (if own then function_outcome (serves fs n) (slice_index_or fs n no_function) mask args w else serves fs
        n k mask args w)
    by earlier k mask args w true = own_given most frames fs n earlier mask args w
    by earlier k mask args w false = earlier.gives k mask args w

-- a task gives what it gave
pub taken_straight : (most frames : List ℕ) (u : PlainUnit) (input : List ℕ) (shared comm : ℕ → ℕ)
    → straight (unit_taken most frames u) input shared comm ≡ straight u input shared comm
taken_straight most frames u input shared comm =
    let all = length u.functions in
    ap (λ n. serves (first_taken most frames u.functions all) n u.entry 1 [] (begun u input shared comm))
    (first_length most frames u.functions all)
    ∙ (same_given most frames u.functions all).gives u.entry 1 [] (begun u input shared comm)

pub functions_same : (most frames : List ℕ) (fs : List PlainFunction) (n k mask : ℕ) (args : List ℕ) (w : World)
    → serves (first_taken most frames fs (length fs)) n k mask args w ≡ serves fs n k mask args w
functions_same most frames fs n = (same_given most frames fs n).gives
