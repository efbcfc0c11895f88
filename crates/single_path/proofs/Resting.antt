-- Parts that are not to act: each of their statements but masks stands under a mask that is not 1, so that of all
-- words of a frame only masks are set.
use Rattle.std.proofs.Common.{◌≡◌, ◌≢◌, ℕ, zero, suc, ◌+◌, ◌==◌, Bool, true, false, if◌then◌else◌, ◌||◌, List, Option, Some, None, refl, ap, sym, ◌∙◌, arith, eq-eqb, true≢false}
use Rattle.std.specs.Prelude.{◌&&◌, ◌||◌}
use Rattle.sp_tree.specs.Plain.{PlainSp, frame_word}
use Rattle.sp_tree.specs.Statements.{PlainSpTarget, to_slot, PlainStmt, masks, writes, calls, transfers, overruns, iterations, PlainStmts, no_stmt, stmt, one, joined}
use Rattle.sp_tree.specs.Statements as tree
use Rattle.sp_tree.specs.Straight.{State, Serves, with_slot, worth, times, stmt_done, stmts_done}
use Rattle.sp_tree.proofs.Masks.{write_off, send_off, overrun_off, call_off}
use Rattle.c_meaning.specs.Actions.{to_level, PlainAssignment, PlainAction, PlainActions, no_action, action, PlainBranches, no_branch, branch}
use Rattle.c_meaning.specs.Actions as actions
use Rattle.single_path.specs.declared.counted.Start.{Start}
use Rattle.single_path.specs.declared.part_words.PartWords.{PartWords}
use Rattle.single_path.specs.PartWords.{in_arm, in_loop, where_so, where_not_taken, where_other, bit_of, not_zero, where_not_returned, returned_function, returned_loop}
use Rattle.single_path.specs.PartWords as mask
use Rattle.single_path.specs.Counted.{start_of}
use Rattle.single_path.specs.Made.{made, made_action, made_branches, made_step, made_result, made_return, made_arm, made_otherwise, made_on, made_after, made_behind, made_again, made_iteration, made_loop, is_counted, counted_part, made_begun, made_counted, any_exit, by_continue, by_return, actions_exit, branches_exit, is_zero, is_no_branch, is_no_action, ends}
use Rattle.single_path.specs.Masked.{stmt_masks, stmts_mask}
use Rattle.single_path.proofs.Frames.{put_there, Order, Still, fewer, set_after}
use Rattle.single_path.proofs.Idle.{Quiet, Dead, Left, still_dead, dead_arm, order_arm, order_loop, order_part, begun_dead, front_still, off, call_still, left_on, left_off, again_still, tested_still, iterations_left, counted_still, loop_left, arm_off, not_taken_still, dead_action, dead}

-- ---- statements under masks that are not 1

abbrev mutual
  pub Rests : Serves → PlainStmt → State → Type 0
  Rests g (masks slot e) s = Unit {0}
  Rests g (writes mask target e) s = s.frame mask ≢ 1
  Rests g (calls mask k args result) s = s.frame mask ≢ 1
  Rests g (transfers mask core source target count) s = s.frame mask ≢ 1
  Rests g (overruns mask e) s = s.frame mask ≢ 1
  Rests g (iterations count body) s = (k : ℕ) → AllRest g body (times k (stmts_done g body) s)

  pub AllRest : Serves → PlainStmts → State → Type 0
  AllRest g no_stmt s = Unit {0}
  AllRest g (stmt t rest) s = Rests g t s × AllRest g rest (stmt_done g t s)

neither : (a b : Bool) → (a || b) ≡ false → (a ≡ false) × (b ≡ false)
neither true b is = absurd (true≢false is)
neither false b is = (refl, is)

times_stand : (x : ℕ) (change : State → State) (Kept : State → Type 0)
    → ((s : State) → Kept s → (change s).frame x ≡ s.frame x)
    → (n : ℕ) (s : State) → ((k : ℕ) → Kept (times k change s)) → (times n change s).frame x ≡ s.frame x
times_stand x change Kept each zero s kept = refl
times_stand x change Kept each (suc n) s kept =
    times_stand x change Kept each n (change s) (λ k. kept (suc k)) ∙ each s (kept zero)

-- a word that no mask is set in stands
mutual
  rests : (g : Serves) (x : ℕ) (t : PlainStmt) (s : State) → Rests g t s → stmt_masks x t ≡ false
      → (stmt_done g t s).frame x ≡ s.frame x
  rests g x (masks slot e) s rest is =
      put_there slot (worth e s) x s.frame (λ same. true≢false (sym (eq-eqb slot x same) ∙ is))
  rests g x (writes mask target e) s rest is = ap (λ (u : State). u.frame x) (write_off g mask target e s rest)
  rests g x (calls mask k args result) s rest is = ap (λ (u : State). u.frame x) (call_off g mask k args result s rest)
  rests g x (transfers mask core source target count) s rest is =
      ap (λ (u : State). u.frame x) (send_off g mask core source target count s rest)
  rests g x (overruns mask e) s rest is = ap (λ (u : State). u.frame x) (overrun_off g mask e s rest)
  rests g x (iterations count body) s rest is =
      times_stand x (stmts_done g body) (AllRest g body) (λ u h. all_rest g x body u h is) count s rest

  pub all_rest : (g : Serves) (x : ℕ) (ts : PlainStmts) (s : State) → AllRest g ts s → stmts_mask x ts ≡ false
      → (stmts_done g ts s).frame x ≡ s.frame x
  all_rest g x no_stmt s rest is = refl
  all_rest g x (stmt t ts) s rest is =
      let both = neither (stmt_masks x t) (stmts_mask x ts) is in
      all_rest g x ts (stmt_done g t s) rest.1 both.1 ∙ rests g x t s rest.0 both.0

pub joined_rest : (g : Serves) (xs ys : PlainStmts) (s : State) → AllRest g xs s → AllRest g ys (stmts_done g xs s)
    → AllRest g (joined xs ys) s
joined_rest g no_stmt ys s first second = second
joined_rest g (stmt t xs) ys s first second = (first.0, joined_rest g xs ys (stmt_done g t s) first.1 second)

-- ---- parts of actions

given_rests : (g : Serves) → Quiet g → (p : PartWords) (k : ℕ) (args : List PlainSp) (target : PlainSpTarget)
    (s : State) (n : ℕ) → Order n p → Dead p s
    → AllRest g (stmt (tree.calls p.own k args (Some p.free)) (one (writes p.own target (frame_word p.free)))) s
given_rests g quiet p k args target s n o d =
    let called = call_still g quiet p.free p.own k args (Some p.free) s (off p s d) in
    (off p s d, ((λ e. off p s d (sym (called.frame p.own o.free) ∙ e)), tt))

step_rests : (g : Serves) (mask : ℕ) (step : Option PlainAssignment) (s : State) → s.frame mask ≢ 1
    → AllRest g (made_step mask step) s
step_rests g mask None s is = tt
step_rests g mask (Some a) s is = (is, tt)

return_rests : (g : Serves) (p : PartWords) (e : PlainSp) (s : State) → Dead p s → AllRest g (made_return p e) s
return_rests g p e s d =
    joined_rest g (made_result p e) (stmt (masks p.function (returned_function p)) (outer (p.function == p.iteration)))
    s (result (is_zero e)) (
      tt,
      behind (p.function == p.iteration)
          (with_slot p.function (worth (returned_function p) (stmts_done g (made_result p e) s))
          (stmts_done g (made_result p e) s)),
    )
  where
    outer : Bool → PlainStmts
    outer outside = if outside then no_stmt else one (masks p.iteration (returned_loop p))

    result : (zero_value : Bool) → AllRest g (if zero_value then no_stmt else one (writes p.own (to_slot p.result) e)) s
    result true = tt
    result false = (off p s d, tt)

    behind : (outside : Bool) (t : State) → AllRest g (outer outside) t
    behind true t = tt
    behind false t = (tt, tt)

-- ---- iterations

ended_rests : (g : Serves) (n : ℕ) (p : PartWords) (exits : Bool) (step : Option PlainAssignment) (s : State)
    → Order n p → Left p s
    → AllRest g (joined (made_again p exits) (made_step p.free step)) s
ended_rests g n p true step s o l =
    let t = with_slot p.free (worth (not_zero (frame_word p.free)) s) s in
    (tt, step_rests g p.free step t (left_off p t (left_on n p s t o (again_still p s l) l)))
ended_rests g n p false step s o l = step_rests g p.free step s (left_off p s l)

iteration_rests : (g : Serves) (n : ℕ) (p : PartWords) (condition : PlainSp) (exits : Bool) (body : PlainStmts)
    (step : Option PlainAssignment) → Order n p
    → ((t : State) → Dead (in_loop p) t → Still (p.free + 1) t (stmts_done g body t))
    → ((t : State) → Dead (in_loop p) t → AllRest g body t)
    → (s : State) → Left p s → AllRest g (made_iteration p condition exits body step) s
iteration_rests g n p condition exits body step o still each s l =
    let t = with_slot p.free (worth (where_so p.free condition) s) s in
    let tested = left_on n p s t o (tested_still p condition s l) l in
    let u = stmts_done g body t in
    let iterated = left_on n p t u o (still t tested.dead) tested in (
      tt,
      joined_rest g body (joined (made_again p exits) (made_step p.free step)) t (each t tested.dead)
          (ended_rests g n p exits step u o iterated),
    )

on_rests : (g : Serves) (p : PartWords) (s : State) → AllRest g (made_on p) s
on_rests g p s = by (p.own == p.iteration)
  where
    by : (alone : Bool) → AllRest g (if alone then no_stmt else one (masks p.own (mask.where_on p))) s
    by true = tt
    by false = (tt, tt)

after_rests : (g : Serves) (p : PartWords) (exits : Bool) (s : State) → AllRest g (made_after p exits) s
after_rests g p true s = on_rests g p s
after_rests g p false s = tt

behind_rests : (g : Serves) (p : PartWords) (returned : Bool) (s : State) → AllRest g (made_behind p returned) s
behind_rests g p false s = tt
behind_rests g p true s = by (p.function == p.iteration)
  where
    by : (outside : Bool)
        → AllRest g (joined (if outside then no_stmt else one (masks p.iteration (where_not_returned p))) (made_on p)) s
    by true = on_rests g p s
    by false = (tt, on_rests g p (with_slot p.iteration (worth (where_not_returned p) s) s))

loop_rests : (g : Serves) (n : ℕ) (p : PartWords) (most : ℕ) (condition : PlainSp) (returned exits : Bool)
    (body : PlainStmts) (step : Option PlainAssignment) → Order n p
    → ((t : State) → Dead (in_loop p) t → Still (p.free + 1) t (stmts_done g body t))
    → ((t : State) → Dead (in_loop p) t → AllRest g body t)
    → (s : State) → Dead p s → AllRest g (made_loop p most condition returned
    (made_iteration p condition exits body step)) s
loop_rests g n p zero condition returned exits body step o still each s d = (off p s d, tt)
loop_rests g n p (suc k) condition returned exits body step o still each s d =
    let t = with_slot p.free (worth (bit_of p.own) s) s in
    let begun = loop_left n p s o d in
    let iteration = made_iteration p condition exits body step in
    let left_there : (j : ℕ) → Left p (times j (stmts_done g iteration) t) =
    λ j. left_on n p t (times j (stmts_done g iteration) t) o (iterations_left g n p condition exits body step o still j
    t begun) begun in
    let v = times (suc k) (stmts_done g iteration) t in (
      tt,
      (
        (λ j. iteration_rests g n p condition exits body step o still each (times j (stmts_done g iteration) t)
            (left_there j)),
        (left_off p v (left_there (suc k)), behind_rests g p returned (stmt_done g (overruns p.free condition) v)),
      ),
    )

begun_rests : (g : Serves) (p : PartWords) (resumes : Bool) (s : State) → AllRest g (made_begun p resumes) s
begun_rests g p true s = (tt, tt)
begun_rests g p false s = tt

counted_rests : (g : Serves) (n : ℕ) (p : PartWords) (most : ℕ) (resumes : Bool) (body : PlainStmts)
    (step : Option PlainAssignment) → Order n p
    → ((t : State) → Dead (counted_part p resumes) t → Still (counted_part p resumes).free t (stmts_done g body t))
    → ((t : State) → Dead (counted_part p resumes) t → AllRest g body t)
    → (s : State) → Dead p s → AllRest g (made_counted p most resumes body step) s
counted_rests g n p most resumes body step o still each s d =
    ((λ k. rests (times k (stmts_done g iteration) s) (dead_there k)), tt)
  where
    iteration : PlainStmts
    iteration = joined (made_begun p resumes) (joined body (made_step p.own step))

    dead_there : (k : ℕ) → Dead p (times k (stmts_done g iteration) s)
    dead_there k =
        still_dead n p s (times k (stmts_done g iteration) s) o (counted_still g n p resumes body step o still k s d) d

    rests : (t : State) → Dead p t → AllRest g iteration t
    rests t h =
        let v = stmts_done g (made_begun p resumes) t in
        let u = stmts_done g body v in
        joined_rest g (made_begun p resumes) (joined body (made_step p.own step)) t (begun_rests g p resumes t)
        (joined_rest g body (made_step p.own step) v (each v (begun_dead g n p resumes t o h))
        (step_rests g p.own step u (off p u (still_dead n p t u o (front_still g n p resumes body o still t h) h))))

either_rest : (g : Serves) (b : Bool) (xs ys : PlainStmts) (s : State) → AllRest g xs s → AllRest g ys s
    → AllRest g (if b then xs else ys) s
either_rest g true xs ys s h k = h
either_rest g false xs ys s h k = k

-- ---- arms

otherwise_rests : (g : Serves) (n : ℕ) (p : PartWords) (exits nothing : Bool) (rest : PlainStmts) → Order n p
    → ((t : State) → Dead (in_arm p) t → AllRest g rest t)
    → (s : State) → Dead p s → Dead (in_arm p) s → s.frame p.free ≡ 0
    → AllRest g (made_otherwise p exits nothing rest) s
otherwise_rests g n p exits true rest o each s d inner is = tt
otherwise_rests g n p exits false rest o each s d inner is =
    let t = with_slot p.free (worth (if exits then where_not_taken p else where_other p) s) s in
    (tt, each t (still_dead n (in_arm p) s t (order_arm n p o) (not_taken_still p exits s d is) inner))

arm_rests : (g : Serves) (n : ℕ) (p : PartWords) (condition : PlainSp) (arm : PlainStmts) (exits nothing : Bool)
    (rest : PlainStmts) → Order n p
    → ((t : State) → Dead (in_arm p) t → Still (p.free + 1) t (stmts_done g arm t)) → ((t : State) → Dead (in_arm p) t
    → AllRest g arm t)
    → ((t : State) → Dead (in_arm p) t → AllRest g rest t)
    → (s : State) → Dead p s → AllRest g (made_arm p condition arm (made_otherwise p exits nothing rest)) s
arm_rests g n p condition arm exits nothing rest o still inside behind s d =
    let t = with_slot p.free (worth (where_so p.own condition) s) s in
    let begun = set_after p.free p.free (worth (where_so p.own condition) s) s (omega arith) in
    let off_there = arm_off p condition s d in
    let inner = dead_arm n p s t o begun off_there d in
    let u = stmts_done g arm t in
    let taken = still t inner in
    let part = still_dead n p t u o (fewer (p.free + 1) p.free t u (omega arith) taken)
    (still_dead n p s t o begun d) in (
      tt,
      joined_rest g arm (made_otherwise p exits nothing rest) t (inside t inner)
          (otherwise_rests g n p exits nothing rest o behind u part (still_dead n (in_arm p) t u
          (order_arm n p o) taken inner)
          (taken.frame p.free (omega arith) ∙ off_there)),
    )

-- ---- all actions

mutual
  action_rests : (g : Serves) → Quiet g → (n : ℕ) (a : PlainAction) (known : Option Start) (p : PartWords) (s : State)
      → Order n p → Dead p s → AllRest g (made_action known p a) s
  action_rests g quiet n (actions.calls k args (Some (actions.to_cell cell))) known p s o d =
      given_rests g quiet p k args (tree.to_cell cell) s n o d
  action_rests g quiet n (actions.calls k args (Some (actions.to_array array index))) known p s o d =
      given_rests g quiet p k args (tree.to_array array index) s n o d
  action_rests g quiet n (actions.chooses branches otherwise) known p s o d =
      joined_rest g (made_branches p branches (is_no_action otherwise) (λ q. made None q otherwise))
      (made_after p (branches_exit any_exit branches || actions_exit any_exit otherwise)) s
      (branches_rest g quiet n branches (is_no_action otherwise) (λ q. made None q otherwise)
      (λ q t. actions_rest g quiet n otherwise None q t) p s o d)
      (after_rests g p (branches_exit any_exit branches || actions_exit any_exit otherwise)
      (stmts_done g (made_branches p branches (is_no_action otherwise) (λ q. made None q otherwise)) s))
  action_rests g quiet n (actions.iterations most condition body step) known p s o d =
      let resumes = actions_exit by_continue body in
      let inner = counted_part p resumes in
      either_rest g (is_counted known most condition body step) (made_counted p most resumes
      (made None inner body) step)
      (made_loop p most condition (actions_exit by_return body)
      (made_iteration p condition (actions_exit by_continue body) (made None (in_loop p) body) step)) s
      (counted_rests g n p most resumes (made None inner body) step o (λ t. dead g quiet n body None inner t
      (order_part n p resumes o))
      (λ t. actions_rest g quiet n body None inner t (order_part n p resumes o)) s d)
      (loop_rests g n p most condition (actions_exit by_return body) (actions_exit by_continue body)
      (made None (in_loop p) body) step o
      (λ t. dead g quiet n body None (in_loop p) t (order_loop n p o)) (λ t. actions_rest g quiet n body None
      (in_loop p) t (order_loop n p o)) s d)
  action_rests g quiet n actions.breaks known p s o d = (tt, tt)
  action_rests g quiet n actions.continues known p s o d = (tt, tt)
  action_rests g quiet n (actions.returns e) known p s o d = return_rests g p e s d
  action_rests g quiet n _ known p s o d = (off p s d, tt)

  pub actions_rest : (g : Serves) → Quiet g → (n : ℕ) (all : PlainActions) (known : Option Start) (p : PartWords)
      (s : State) → Order n p → Dead p s → AllRest g (made known p all) s
  actions_rest g quiet n no_action known p s o d = tt
  actions_rest g quiet n (action a rest) known p s o d =
      let t = stmts_done g (made_action known p a) s in
      joined_rest g (made_action known p a) (if ends a then no_stmt else made (start_of a) p rest) s
      (action_rests g quiet n a known p s o d)
      (either_rest g (ends a) no_stmt (made (start_of a) p rest) t tt
      (actions_rest g quiet n rest (start_of a) p t o (still_dead n p s t o (dead_action g quiet n a known p s o d) d)))

  branches_rest : (g : Serves) → Quiet g → (n : ℕ) (bs : PlainBranches) (nothing : Bool)
      (otherwise : PartWords → PlainStmts)
      → ((q : PartWords) (t : State) → Order n q → Dead q t → AllRest g (otherwise q) t)
      → (p : PartWords) (s : State) → Order n p → Dead p s → AllRest g (made_branches p bs nothing otherwise) s
  branches_rest g quiet n no_branch nothing otherwise each p s o d = each p s o d
  branches_rest g quiet n (branch condition body rest) nothing otherwise each p s o d =
      arm_rests g n p condition (made None (in_arm p) body) (actions_exit any_exit body) (is_no_branch rest && nothing)
      (made_branches (in_arm p) rest nothing otherwise) o
      (λ t. dead g quiet n body None (in_arm p) t (order_arm n p o)) (λ t. actions_rest g quiet n body None (in_arm p) t
      (order_arm n p o))
      (λ t. branches_rest g quiet n rest nothing otherwise each (in_arm p) t (order_arm n p o)) s d
