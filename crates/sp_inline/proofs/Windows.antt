-- Statements over the words of a frame from a place on: seen from there they do what they do in a frame of their own,
-- and they set no word before it.
use Rattle.std.proofs.Common.{◌≡◌, ◌≢◌, ℕ, zero, suc, ◌+◌, ◌<◌, ◌==◌, Bool, true, false, if◌then◌else◌, List, [], ◌∷◌, Option, Some, None, refl, ap, sym, ◌∙◌, arith, eq-eqb, ne_eqb, ap₂, ◌⊎◌, inl, inr}
use Rattle.std.specs.Prelude.{cond}
use Rattle.std.proofs.lemmas.Bool.{cases_eq}
use Rattle.shared_order.specs.Words.{put}
use Rattle.c_world.specs.World.{World, with_element, with_send, with_overrun}
use Rattle.c_world.specs.Numbers.{is_true}
use Rattle.sp_tree.specs.Operators.{unary_value, binary_value}
use Rattle.sp_tree.specs.Plain.{PlainSp, constant, frame_word, cell_word, array_word, before_one, between_two}
use Rattle.sp_tree.specs.Statements.{PlainSpTarget, to_slot, to_cell, to_array, PlainStmt, masks, writes, calls, transfers, overruns, iterations, PlainStmts, no_stmt, stmt}
use Rattle.sp_tree.specs.Straight.{State, Outcome, Serves, with_slot, in_world, with_sp_target, with_result, where_on, write_done, transfer_done, overrun_done, call_done, args_worth, worth, times, stmt_done, stmts_done}
use Rattle.sp_tree.specs.Values.{sp_value, array_value}
use Rattle.sp_inline.specs.Moved.{moved, args_moved, target_moved, result_moved, stmt_moved, stmts_moved}

-- the words from a place on
abbrev pub window : ℕ → State → State
window o s = record { frame = λ x. s.frame (o + x); world = s.world }

pub put_here : (x y : ℕ) (f : ℕ → ℕ) → put x y f x ≡ y
put_here x y f = ap (λ b. cond b y (f x)) (eq-eqb x x refl)

pub put_there : (x y u : ℕ) (f : ℕ → ℕ) → x ≢ u → put x y f u ≡ f u
put_there x y u f other = ap (λ b. cond b y (f u)) (ne_eqb x u other)

same_place : (o slot x : ℕ) → ((o + slot) == (o + x)) ≡ (slot == x)
same_place o slot x = by (cases_eq slot x)
  where
    by : (slot ≡ x) ⊎ (slot ≢ x) → ((o + slot) == (o + x)) ≡ (slot == x)
    by (inl same) = eq-eqb (o + slot) (o + x) (ap (λ n. o + n) same) ∙ sym (eq-eqb slot x same)
    by (inr other) = ne_eqb (o + slot) (o + x) (omega (arith, other)) ∙ sym (ne_eqb slot x other)

put_window : (o slot v : ℕ) (f : ℕ → ℕ) → (λ x. put (o + slot) v f (o + x)) ≡ put slot v (λ x. f (o + x))
put_window o slot v f = λ i x. cond (same_place o slot x i) v (f (o + x))

-- ---- expressions

pub moved_value : (o : ℕ) (e : PlainSp) (f : ℕ → ℕ) (w : World) → sp_value f w (moved o e)
    ≡ sp_value (λ x. f (o + x)) w e
moved_value o (array_word array index) f w = ap (λ i. array_value array i w) (moved_value o index f w)
moved_value o (before_one op of) f w = ap (unary_value op) (moved_value o of f w)
moved_value o (between_two op a b) f w = ap₂ (binary_value op) (moved_value o a f w) (moved_value o b f w)
moved_value o _ f w = refl

moved_worth : (o : ℕ) (e : PlainSp) (s : State) → worth (moved o e) s ≡ worth e (window o s)
moved_worth o e s = moved_value o e s.frame s.world

moved_args : (o : ℕ) (args : List PlainSp) (s : State) → args_worth (args_moved o args) s ≡ args_worth args (window o s)
moved_args o [] s = refl
moved_args o (e ∷ args) s = ap₂ (λ v vs. v ∷ vs) (moved_worth o e s) (moved_args o args s)

-- ---- what is set

moved_slot : (o slot v : ℕ) (s : State) → window o (with_slot (o + slot) v s) ≡ with_slot slot v (window o s)
moved_slot o slot v s =
    ap (λ f. let t : State = record { frame = f; world = s.world } in t) (put_window o slot v s.frame)

moved_target : (o : ℕ) (target : PlainSpTarget) (v : ℕ) (s : State)
    → window o (with_sp_target (target_moved o target) v s) ≡ with_sp_target target v (window o s)
moved_target o (to_slot slot) v s = moved_slot o slot v s
moved_target o (to_cell cell) v s = refl
moved_target o (to_array array index) v s =
    ap (λ i. in_world (window o s) (with_element array.region array.first array.length i v s.world))
    (moved_worth o index s)

moved_result : (o : ℕ) (result : Option ℕ) (v : ℕ) (s : State) → window o (with_result (result_moved o result) v s)
    ≡ with_result result v (window o s)
moved_result o None v s = refl
moved_result o (Some slot) v s = moved_slot o slot v s

moved_on : (o mask : ℕ) (c d : State → State) (s : State) → window o (c s) ≡ d (window o s)
    → window o (where_on (o + mask) c s) ≡ where_on mask d (window o s)
moved_on o mask c d s same = by (s.frame (o + mask) == 1)
  where
    by : (b : Bool) → window o (if b then c s else s) ≡ (if b then d (window o s) else window o s)
    by true = same
    by false = refl

-- ---- statements

moved_times : (o : ℕ) (c d : State → State) → ((s : State) → window o (c s) ≡ d (window o s)) → (n : ℕ) (s : State)
    → window o (times n c s) ≡ times n d (window o s)
moved_times o c d same zero s = refl
moved_times o c d same (suc n) s = moved_times o c d same n (c s) ∙ ap (times n d) (same s)

mutual
  pub stmt_window : (g : Serves) (o : ℕ) (t : PlainStmt) (s : State) → window o (stmt_done g (stmt_moved o t) s)
      ≡ stmt_done g t (window o s)
  stmt_window g o (masks slot e) s =
      moved_slot o slot (worth (moved o e) s) s ∙ ap (λ v. with_slot slot v (window o s)) (moved_worth o e s)
  stmt_window g o (writes mask target e) s =
      moved_on o mask (write_done (target_moved o target) (moved o e)) (write_done target e) s
      (moved_target o target (worth (moved o e) s) s ∙ ap (λ v. with_sp_target target v (window o s))
      (moved_worth o e s))
  stmt_window g o (calls mask k args result) s =
      moved_call (g k (s.frame (o + mask)) (args_worth (args_moved o args) s) s.world)
      ∙ ap (λ vs. call_done mask result (window o s) (g k (s.frame (o + mask)) vs s.world)) (moved_args o args s)
    where
      moved_call : (given : Outcome) → window o (call_done (o + mask) (result_moved o result) s given)
          ≡ call_done mask result (window o s) given
      moved_call given = moved_on o mask (with_result (result_moved o result) given.value)
          (with_result result given.value) (in_world s given.world)
          (moved_result o result given.value (in_world s given.world))
  stmt_window g o (transfers mask core source target count) s =
      moved_on o mask (transfer_done core (moved o source) (moved o target) (moved o count))
      (transfer_done core source target count) s
      (ap₂ (λ a b. in_world (window o s) (with_send core a b (worth (moved o count) s) s.world))
      (moved_worth o source s) (moved_worth o target s)
      ∙ ap (λ c. in_world (window o s) (with_send core (worth source (window o s)) (worth target (window o s)) c
      s.world)) (moved_worth o count s))
  stmt_window g o (overruns mask e) s =
      moved_on o mask (overrun_done (moved o e)) (overrun_done e) s
      (ap (λ v. in_world (window o s) (with_overrun (is_true v) s.world)) (moved_worth o e s))
  stmt_window g o (iterations count body) s =
      moved_times o (stmts_done g (stmts_moved o body)) (stmts_done g body) (λ t. stmts_window g o body t) count s

  pub stmts_window : (g : Serves) (o : ℕ) (ts : PlainStmts) (s : State) → window o (stmts_done g (stmts_moved o ts) s)
      ≡ stmts_done g ts (window o s)
  stmts_window g o no_stmt s = refl
  stmts_window g o (stmt t rest) s =
      stmts_window g o rest (stmt_done g (stmt_moved o t) s) ∙ ap (stmts_done g rest) (stmt_window g o t s)

-- ---- words before

slot_low : (o slot v x : ℕ) (s : State) → x < o → (with_slot (o + slot) v s).frame x ≡ s.frame x
slot_low o slot v x s below = put_there (o + slot) v x s.frame (omega (arith, below))

target_low : (o : ℕ) (target : PlainSpTarget) (v x : ℕ) (s : State) → x < o
    → (with_sp_target (target_moved o target) v s).frame x ≡ s.frame x
target_low o (to_slot slot) v x s below = slot_low o slot v x s below
target_low o (to_cell cell) v x s below = refl
target_low o (to_array array index) v x s below = refl

result_low : (o : ℕ) (result : Option ℕ) (v x : ℕ) (s : State) → x < o
    → (with_result (result_moved o result) v s).frame x ≡ s.frame x
result_low o None v x s below = refl
result_low o (Some slot) v x s below = slot_low o slot v x s below

on_low : (mask x : ℕ) (c : State → State) (s : State) → (c s).frame x ≡ s.frame x → (where_on mask c s).frame x
    ≡ s.frame x
on_low mask x c s same = by (s.frame mask == 1)
  where
    by : (b : Bool) → (if b then c s else s).frame x ≡ s.frame x
    by true = same
    by false = refl

times_low : (x : ℕ) (c : State → State) → ((s : State) → (c s).frame x ≡ s.frame x) → (n : ℕ) (s : State)
    → (times n c s).frame x ≡ s.frame x
times_low x c same zero s = refl
times_low x c same (suc n) s = times_low x c same n (c s) ∙ same s

mutual
  stmt_low : (g : Serves) (o : ℕ) (t : PlainStmt) (x : ℕ) → x < o → (s : State)
      → (stmt_done g (stmt_moved o t) s).frame x ≡ s.frame x
  stmt_low g o (masks slot e) x below s = slot_low o slot (worth (moved o e) s) x s below
  stmt_low g o (writes mask target e) x below s =
      on_low (o + mask) x (write_done (target_moved o target) (moved o e)) s
      (target_low o target (worth (moved o e) s) x s below)
  stmt_low g o (calls mask k args result) x below s =
      let given = g k (s.frame (o + mask)) (args_worth (args_moved o args) s) s.world in
      on_low (o + mask) x (with_result (result_moved o result) given.value) (in_world s given.world)
      (result_low o result given.value x (in_world s given.world) below)
  stmt_low g o (transfers mask core source target count) x below s =
      on_low (o + mask) x (transfer_done core (moved o source) (moved o target) (moved o count)) s refl
  stmt_low g o (overruns mask e) x below s = on_low (o + mask) x (overrun_done (moved o e)) s refl
  stmt_low g o (iterations count body) x below s =
      times_low x (stmts_done g (stmts_moved o body)) (λ t. stmts_low g o body x below t) count s

  pub stmts_low : (g : Serves) (o : ℕ) (ts : PlainStmts) (x : ℕ) → x < o → (s : State)
      → (stmts_done g (stmts_moved o ts) s).frame x ≡ s.frame x
  stmts_low g o no_stmt x below s = refl
  stmts_low g o (stmt t rest) x below s =
      stmts_low g o rest x below (stmt_done g (stmt_moved o t) s) ∙ stmt_low g o t x below s
