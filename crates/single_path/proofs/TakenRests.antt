-- A function that takes in calls changes masks alone where it is run under another mask than 1.
use Rattle.std.proofs.Common.{◌≡◌, ◌≢◌, ℕ, zero, suc, ◌+◌, ◌<◌, ◌≤◌, Bool, true, false, if◌then◌else◌, List, [], ◌∷◌, length, Option, Some, None, slice_index_or, refl, ap, sym, ◌∙◌, arith, subst}
use Rattle.std.specs.Prelude.{◌-◌, nat_lt, nat_le}
use Rattle.std.proofs.lemmas.Bool.{and_parts, ltb-true, leb-true}
use Rattle.c_world.specs.World.{World}
use Rattle.sp_tree.specs.Formed.{stmts_levels, slots_of}
use Rattle.sp_tree.specs.Cost.{cost}
use Rattle.sp_tree.specs.Plain.{PlainSp}
use Rattle.sp_tree.specs.Statements.{PlainStmt, masks, writes, calls, transfers, overruns, iterations, PlainStmts, no_stmt, stmt, one, joined, PlainFunction, no_function}
use Rattle.sp_tree.specs.Straight.{State, Outcome, Serves, with_slot, in_world, with_result, args_worth, worth, times, stmt_done, stmts_done, begun_frame, function_outcome}
use Rattle.sp_tree.proofs.Joins.{joined_done}
use Rattle.sp_tree.proofs.Masks.{off as masked, write_off, send_off, overrun_off, call_off}
use Rattle.sp_inline.specs.Moved.{stmt_moved, stmts_moved}
use Rattle.sp_inline.specs.Reach.{args_reach, stmt_reach, stmts_reach, stmts_calls}
use Rattle.sp_inline.specs.declared.room.Room.{Room}
use Rattle.sp_inline.specs.Taken.{begun_words, call_mask, entered, given_set, front, shortened, call_statements, PlainCaller, Taken, callee, room_after, is_whole, may_take, is_taken, kept, call_taken, stmt_taken, stmts_taken, body_taken, grown, function_taken}
use Rattle.sp_tree.specs.MaskTests.{tests_mask}
use Rattle.sp_inline.proofs.Windows.{window, stmt_window, stmts_window}
use Rattle.sp_inline.proofs.Alike.{Alike, Same, times_alike, stmt_alike, stmts_alike}
use Rattle.sp_inline.proofs.Shortened.{short_is, short_fits}
use Rattle.sp_inline.proofs.Entered.{entered_is, entered_reach, begun_state, test_done}
use Rattle.sp_inline.proofs.Taking.{words_handed, call_entered, call_low, call_alike_taken}
use Rattle.single_path.proofs.Idle.{Quiet}
use Rattle.single_path.proofs.Resting.{Rests, AllRest, joined_rest}

same_self : (number : ℕ) (g : Serves) → Same number g g
same_self number g = record { gives = λ k mask args w below. refl }

-- ---- statements over the words from a place on

times_window : (g : Serves) (o : ℕ) (body : PlainStmts) (k : ℕ) (s : State)
    → window o (times k (stmts_done g (stmts_moved o body)) s) ≡ times k (stmts_done g body) (window o s)
times_window g o body zero s = refl
times_window g o body (suc k) s =
    times_window g o body k (stmts_done g (stmts_moved o body) s)
    ∙ ap (times k (stmts_done g body)) (stmts_window g o body s)

mutual
  moved_rests : (g : Serves) (o : ℕ) (t : PlainStmt) (s : State) → Rests g t (window o s) → Rests g (stmt_moved o t) s
  moved_rests g o (masks slot e) s h = tt
  moved_rests g o (iterations count body) s h =
      λ k. all_moved g o body (times k (stmts_done g (stmts_moved o body)) s)
      (subst (AllRest g body) (sym (times_window g o body k s)) (h k))
  moved_rests g o _ s h = h

  all_moved : (g : Serves) (o : ℕ) (ts : PlainStmts) (s : State) → AllRest g ts (window o s)
      → AllRest g (stmts_moved o ts) s
  all_moved g o no_stmt s h = tt
  all_moved g o (stmt t rest) s h = (
    moved_rests g o t s h.0,
    all_moved g o rest (stmt_done g (stmt_moved o t) s)
        (subst (AllRest g rest) (sym (stmt_window g o t s)) h.1),
  )

-- ---- where words are alike

not_there : (o mask : ℕ) (s t : State) → Alike o s t → mask < o → t.frame mask ≢ 1 → s.frame mask ≢ 1
not_there o mask s t a below off e = off (sym (a.frame mask below) ∙ e)

mutual
  rests_alike : (g : Serves) (o : ℕ) (t : PlainStmt) (s u : State) → stmt_reach t ≤ o → Alike o s u
      → Rests g t u → Rests g t s
  rests_alike g o (masks slot e) s u within a h = tt
  rests_alike g o (writes mask target e) s u within a h = not_there o mask s u a (omega (arith, within)) h
  rests_alike g o (calls mask k args result) s u within a h = not_there o mask s u a (omega (arith, within)) h
  rests_alike g o (transfers mask core source target count) s u within a h =
      not_there o mask s u a (omega (arith, within)) h
  rests_alike g o (overruns mask e) s u within a h = not_there o mask s u a (omega (arith, within)) h
  rests_alike g o (iterations count body) s u within a h =
      λ k. all_alike g o body (times k (stmts_done g body) s) (times k (stmts_done g body) u) within
      (times_alike o (stmts_done g body) (stmts_done g body)
      (λ x y b. stmts_alike (stmts_calls body) g g (same_self (stmts_calls body) g) o body x y within (omega arith) b) k
      s u a) (h k)

  all_alike : (g : Serves) (o : ℕ) (ts : PlainStmts) (s u : State) → stmts_reach ts ≤ o → Alike o s u → AllRest g ts u
      → AllRest g ts s
  all_alike g o no_stmt s u within a h = tt
  all_alike g o (stmt t rest) s u within a h = (
    rests_alike g o t s u (omega (arith, within)) a h.0,
    all_alike g o rest (stmt_done g t s) (stmt_done g t u) (omega (arith, within))
        (stmt_alike (stmts_calls (one t)) g g (same_self (stmts_calls (one t)) g) o t s u (omega (arith, within))
        (omega arith) a) h.1,
  )

-- ---- what rests changes no memory

times_quiet : (change : State → State) (Kept : State → Type 0) → ((s : State) → Kept s → (change s).world ≡ s.world)
    → (n : ℕ) (s : State) → ((k : ℕ) → Kept (times k change s)) → (times n change s).world ≡ s.world
times_quiet change Kept each zero s kept = refl
times_quiet change Kept each (suc n) s kept =
    times_quiet change Kept each n (change s) (λ k. kept (suc k)) ∙ each s (kept zero)

mutual
  rest_quiet : (g : Serves) → Quiet g → (t : PlainStmt) (s : State) → Rests g t s → (stmt_done g t s).world ≡ s.world
  rest_quiet g quiet (masks slot e) s h = refl
  rest_quiet g quiet (writes mask target e) s h = ap (λ (u : State). u.world) (write_off g mask target e s h)
  rest_quiet g quiet (calls mask k args result) s h =
      ap (λ (u : State). u.world) (call_off g mask k args result s h)
      ∙ quiet.world k (s.frame mask) (args_worth args s) s.world h
  rest_quiet g quiet (transfers mask core source target count) s h =
      ap (λ (u : State). u.world) (send_off g mask core source target count s h)
  rest_quiet g quiet (overruns mask e) s h = ap (λ (u : State). u.world) (overrun_off g mask e s h)
  rest_quiet g quiet (iterations count body) s h =
      times_quiet (stmts_done g body) (AllRest g body) (λ u k. all_quiet g quiet body u k) count s h

  all_quiet : (g : Serves) → Quiet g → (ts : PlainStmts) (s : State) → AllRest g ts s
      → (stmts_done g ts s).world ≡ s.world
  all_quiet g quiet no_stmt s h = refl
  all_quiet g quiet (stmt t rest) s h = all_quiet g quiet rest (stmt_done g t s) h.1 ∙ rest_quiet g quiet t s h.0

-- ---- a call that is taken in

begun_rest : (g : Serves) (at n : ℕ) (args : List PlainSp) (s : State) → AllRest g (begun_words at n args) s
begun_rest g at zero args s = tt
begun_rest g at (suc n) [] s = (tt, begun_rest g (at + 1) n [] (with_slot at 0 s))
begun_rest g at (suc n) (e ∷ args) s = (tt, begun_rest g (at + 1) n args (with_slot at (worth e s) s))

given_rest : (g : Serves) (mask : ℕ) (result : Option ℕ) (word : ℕ) (s : State) → s.frame mask ≢ 1
    → AllRest g (given_set mask result word) s
given_rest g mask None word s off = tt
given_rest g mask (Some slot) word s off = (off, tt)

-- a function rests where it is run under another mask than 1
pub FunctionRests : Serves → PlainFunction → Type 0
FunctionRests g f = (under : ℕ) (args : List ℕ) (w : World) → under ≢ 1
    → AllRest g f.body (record { frame = begun_frame f under args; world = w })

pub rests_of : (g : Serves) (f : PlainFunction) → FunctionRests g f → (under : ℕ) (args : List ℕ) (w : World) → under
    ≢ 1
    → AllRest g f.body (record { frame = begun_frame f under args; world = w })
unfolding FunctionRests
rests_of g f h = h

-- so does it without the mask that it sets last
front_rest : (g : Serves) (xs ys : PlainStmts) (s : State) → AllRest g (joined xs ys) s → AllRest g xs s
front_rest g no_stmt ys s h = tt
front_rest g (stmt t xs) ys s h = (h.0, front_rest g xs ys (stmt_done g t s) h.1)

short_rests : (g : Serves) (f : PlainFunction) → FunctionRests g f → FunctionRests g (shortened f)
unfolding FunctionRests
short_rests g f rests under args w other =
    let s : State = record { frame = begun_frame f under args; world = w } in
    short_is (λ xs. AllRest g xs s) f.result f.body (rests under args w other)
    (λ h. front_rest g (front f.body) (one (masks h.slot h.value)) s (subst (λ xs. AllRest g xs s) (sym h.is)
    (rests under args w other)))

-- and without the test of its mask, where it is handed that test
entered_rests : (g : Serves) (f : PlainFunction) → FunctionRests g f → (mask : ℕ) (t : State) (args : List ℕ)
    (w : World) → t.frame mask ≢ 1
    → let tests = tests_mask f.mask f.body in AllRest g (entered tests f.body) (begun_state f
    (worth (call_mask tests mask) t) args w)
unfolding FunctionRests
entered_rests g f rests mask t args w off =
    let s = begun_state f (t.frame mask) args w in
    let all = rests (t.frame mask) args w off in
    entered_is (λ tests xs. AllRest g xs (begun_state f (worth (call_mask tests mask) t) args w)) f.mask f.body all
    (λ is. subst (AllRest g (entered true f.body)) (sym (test_done g f (t.frame mask) args w))
    (subst (λ xs. AllRest g xs s) (sym is) all).1)

call_rests : (o : ℕ) (g : Serves) (f : PlainFunction) → FunctionRests g f → stmts_reach f.body ≤ slots_of f
    → (mask : ℕ) (args : List PlainSp) (result : Option ℕ)
    → mask < o → args_reach args ≤ o → length args ≤ f.mask → (s t : State) → Alike o s t → t.frame mask ≢ 1
    → AllRest g (call_statements o f mask args result) s
call_rests o g f rests reach mask args result mask_in within few s t a off =
    let tests = tests_mask f.mask f.body in
    let body = entered tests f.body in
    let words = words_handed f mask args in
    let begin = begun_words o (slots_of f) words in
    let last = given_set mask result (o + f.result) in
    let s2 = stmts_done g begin s in
    let s3 = stmts_done g (stmts_moved o body) s2 in
    let own = begun_state f (worth (call_mask tests mask) t) (args_worth args t) t.world in
    joined_rest g begin (joined (stmts_moved o body) last) s (begun_rest g o (slots_of f) words s)
    (joined_rest g (stmts_moved o body) last s2
    (all_moved g o body s2 (all_alike g (slots_of f) body (window o s2) own
    (omega (arith, reach, entered_reach tests f.body))
    (call_entered o g f mask args mask_in within few s t a) (entered_rests g f rests mask t
    (args_worth args t) t.world off)))
    (given_rest g mask result (o + f.result) s3
    (λ e. off (sym (a.frame mask mask_in) ∙ sym (call_low o g f body mask args mask_in within s mask mask_in)
    ∙ e))))

-- ---- the statements of a function that takes in calls, where all of them rest

iterations_both : (g : Serves) (o : ℕ) (now before : PlainStmts)
    → ((s u : State) → Alike o s u → AllRest g before u → AllRest g now s
    × Alike o (stmts_done g now s) (stmts_done g before u))
    → (k : ℕ) (s u : State) → Alike o s u → ((j : ℕ) → AllRest g before (times j (stmts_done g before) u))
    → AllRest g now (times k (stmts_done g now) s) × Alike o (times k (stmts_done g now) s) (times k
    (stmts_done g before) u)
iterations_both g o now before each zero s u a h = ((each s u a (h zero)).0, a)
iterations_both g o now before each (suc k) s u a h =
    iterations_both g o now before each k (stmts_done g now s) (stmts_done g before u) (each s u a (h zero)).1
    (λ j. h (suc j))

call_both : (c : PlainCaller) (g : Serves) → Quiet g → ((k : ℕ) → k < length c.functions → FunctionRests g (callee c k))
    → (depth : ℕ) (r : Room) (mask k : ℕ)
    (args : List PlainSp) (result : Option ℕ) (s u : State) → mask < c.words → args_reach args ≤ c.words
    → stmt_reach (calls mask k args result) ≤ c.words
    → Alike c.words s u → u.frame mask ≢ 1
    → AllRest g (call_taken c depth r mask k args result).body s
    × Alike c.words (stmts_done g (call_taken c depth r mask k args result).body s) (stmt_done g
    (calls mask k args result) u)
unfolding FunctionRests
call_both c g quiet each depth r mask k args result s u mask_in within reach a out =
    by (is_taken c depth r k more args) refl
  where
    f : PlainFunction
    f = callee c k

    less : PlainFunction
    less = shortened f

    more : PlainStmts
    more = call_statements c.words less mask args result

    given : Outcome
    given = function_outcome g less (u.frame mask) (args_worth args u) u.world

    by : (b : Bool) → is_taken c depth r k more args ≡ b
        → AllRest g (if b then (let t : Taken = record { body = more; room = room_after c depth r f more args } in t)
        else kept r (calls mask k args result)).body s
        × Alike c.words
        (stmts_done g (if b then (let t : Taken = record { body = more; room = room_after c depth r f more args } in t)
        else kept r (calls mask k args result)).body s)
        (stmt_done g (calls mask k args result) u)
    by false is = (
      (not_there c.words mask s u a mask_in out, tt),
      stmt_alike (k + 1) g g (same_self (k + 1) g) c.words (calls mask k args result) s u reach (omega arith) a,
    )
    by true is =
        let o = and_parts (may_take c depth k args) _ is in
        let p = and_parts (nat_lt 0 depth) _ o.0 in
        let q = and_parts (nat_lt k (length c.functions)) _ p.1 in
        let whole = (and_parts (is_whole k f) _ q.1).0 in
        let v = and_parts (nat_lt f.result (slots_of f)) _ whole in
        let w = and_parts (nat_le (stmts_reach f.body) (slots_of f)) _ v.1 in
        let rests = short_rests g f (each k (ltb-true k (length c.functions) q.0)) in
        let fits = short_fits f (ltb-true f.result (slots_of f) v.0) (leb-true (stmts_reach f.body) (slots_of f) w.0) in
        let few = leb-true (length args) f.mask (and_parts (is_whole k f) _ q.1).1 in
        let same = call_alike_taken (stmts_calls less.body) c.words g g (same_self (stmts_calls less.body) g) less
        fits.0 fits.1 (omega arith)
        mask args result mask_in within few s u a given refl in
        let stands : given.world ≡ u.world = all_quiet g quiet less.body (record {
          frame = begun_frame f (u.frame mask)
              (args_worth args u);
          world = u.world;
        })
        (rests_of g less rests (u.frame mask) (args_worth args u) u.world out) in
        let quiet_there : (g k (u.frame mask) (args_worth args u) u.world).world ≡ u.world =
        quiet.world k (u.frame mask) (args_worth args u) u.world out in (
          call_rests c.words g less rests fits.1 mask args result mask_in within few s u a out,
          subst (Alike c.words (stmts_done g more s))
              (masked mask (with_result result given.value) (in_world u given.world) out
              ∙ ap (in_world u) (stands ∙ sym quiet_there)
              ∙ sym (call_off g mask k args result u out)) same,
        )

mutual
  stmt_both : (c : PlainCaller) (g : Serves) → Quiet g → ((k : ℕ) → k < length c.functions
      → FunctionRests g (callee c k)) → (depth : ℕ) (r : Room) (t : PlainStmt)
      (s u : State) → stmt_reach t ≤ c.words → Alike c.words s u → Rests g t u
      → AllRest g (stmt_taken c depth r t).body s × Alike c.words (stmts_done g (stmt_taken c depth r t).body s)
      (stmt_done g t u)
  stmt_both c g quiet each depth r (masks slot e) s u within a h =
      ((tt, tt), stmt_alike 0 g g (same_self 0 g) c.words (masks slot e) s u within (omega arith) a)
  stmt_both c g quiet each depth r (writes mask target e) s u within a h = (
    (not_there c.words mask s u a (omega (arith, within)) h, tt),
    stmt_alike 0 g g (same_self 0 g) c.words
        (writes mask target e) s u within (omega arith) a,
  )
  stmt_both c g quiet each depth r (calls mask k args result) s u within a h =
      call_both c g quiet each depth r mask k args result s u (omega (arith, within)) (omega (arith, within)) within a h
  stmt_both c g quiet each depth r (transfers mask core source target count) s u within a h = (
    (not_there c.words mask s u a (omega (arith, within)) h, tt),
    stmt_alike 0 g g (same_self 0 g) c.words (transfers mask core source target count) s u within (omega arith) a,
  )
  stmt_both c g quiet each depth r (overruns mask e) s u within a h = (
    (not_there c.words mask s u a (omega (arith, within)) h, tt),
    stmt_alike 0 g g (same_self 0 g) c.words
        (overruns mask e) s u within (omega arith) a,
  )
  stmt_both c g quiet each depth r (iterations count body) s u within a h =
      let inside = (stmts_taken c (depth + 1) r body).body in
      let both = iterations_both g c.words inside body (λ x y b k. stmts_both c g quiet each (depth + 1) r body x
      y within b k) in
      (((λ k. (both k s u a h).0), tt), (both count s u a h).1)

  stmts_both : (c : PlainCaller) (g : Serves) → Quiet g → ((k : ℕ) → k < length c.functions
      → FunctionRests g (callee c k)) → (depth : ℕ) (r : Room) (ts : PlainStmts)
      (s u : State) → stmts_reach ts ≤ c.words → Alike c.words s u → AllRest g ts u
      → AllRest g (stmts_taken c depth r ts).body s × Alike c.words (stmts_done g (stmts_taken c depth r ts).body s)
      (stmts_done g ts u)
  stmts_both c g quiet each depth r no_stmt s u within a h = (tt, a)
  stmts_both c g quiet each depth r (stmt t rest) s u within a h =
      let first = stmt_taken c depth r t in
      let others = stmts_taken c depth first.room rest in
      let one_done = stmt_both c g quiet each depth r t s u (omega (arith, within)) a h.0 in
      let more = stmts_both c g quiet each depth first.room rest (stmts_done g first.body s) (stmt_done g t u)
      (omega (arith, within)) one_done.1 h.1 in (
        joined_rest g first.body others.body s one_done.0 more.0,
        subst (λ x. Alike c.words x (stmts_done g (stmt t rest) u)) (sym (joined_done g first.body others.body s))
            more.1,
      )

-- ---- functions

-- and the words of its own stand as they did
pub function_both : (before : List PlainFunction) (most frame : ℕ) (g : Serves) → Quiet g
    → ((k : ℕ) → k < length before → FunctionRests g (slice_index_or before k no_function)) → (f : PlainFunction)
    → FunctionRests g f
    → (under : ℕ) (args : List ℕ) (w : World) → under ≢ 1
    → let h = function_taken before most frame f in let s : State =
    record { frame = begun_frame h under args; world = w } in
    AllRest g h.body s × ((x : ℕ) → x < slots_of f → (stmts_done g h.body s).frame x ≡ (stmts_done g f.body s).frame x)
unfolding FunctionRests
function_both before most frame g quiet each f rests under args w other = by (is_whole (length before) f) refl
  where
    by : (whole : Bool) → is_whole (length before) f ≡ whole
        → let h = if whole then grown f (body_taken before most frame f) else f in let s : State =
        record { frame = begun_frame h under args; world = w } in
        AllRest g h.body s × ((x : ℕ) → x < slots_of f → (stmts_done g h.body s).frame x
        ≡ (stmts_done g f.body s).frame x)
    by false is = (rests under args w other, λ x below. refl)
    by true is =
        let p = and_parts (nat_lt f.result (slots_of f)) _ is in
        let q = and_parts (nat_le (stmts_reach f.body) (slots_of f)) _ p.1 in
        let s : State = record { frame = begun_frame f under args; world = w } in
        let c : PlainCaller = record { functions = before; words = slots_of f; frame = frame } in
        let r : Room = record { left = most - cost f; words = slots_of f; levels = stmts_levels f.body } in
        let both = stmts_both c g quiet each 0 r f.body s s (leb-true (stmts_reach f.body) (slots_of f) q.0)
        (record { frame = λ x below. refl; world = refl }) (rests under args w other) in
        (both.0, both.1.frame)

pub function_rests : (g : Serves) (f : PlainFunction)
    → ((under : ℕ) (args : List ℕ) (w : World) → under ≢ 1
    → AllRest g f.body (record { frame = begun_frame f under args; world = w })) → FunctionRests g f
unfolding FunctionRests
function_rests g f h = h
