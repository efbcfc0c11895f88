-- Statements leave the first words of a frame alike, and the world, where these are alike and they name no others.
use Rattle.std.proofs.Common.{◌≡◌, ℕ, zero, suc, ◌<◌, ◌≤◌, ◌==◌, Bool, true, false, if◌then◌else◌, List, [], ◌∷◌, Option, Some, None, refl, ap, sym, ◌∙◌, arith, ap₂, subst}
use Rattle.std.specs.Prelude.{cond}
use Rattle.c_world.specs.World.{World, with_word, with_element, with_send, with_overrun}
use Rattle.c_world.specs.Numbers.{is_true}
use Rattle.sp_tree.specs.Operators.{unary_value, binary_value}
use Rattle.sp_tree.specs.Plain.{PlainSp, constant, frame_word, cell_word, array_word, before_one, between_two}
use Rattle.sp_tree.specs.Statements.{PlainSpTarget, to_slot, to_cell, to_array, PlainStmt, masks, writes, calls, transfers, overruns, iterations, PlainStmts, no_stmt, stmt}
use Rattle.sp_tree.specs.Straight.{State, Outcome, Serves, with_slot, in_world, with_sp_target, with_result, where_on, write_done, transfer_done, overrun_done, call_done, args_worth, worth, times, stmt_done, stmts_done}
use Rattle.sp_tree.specs.Values.{sp_value, array_value}
use Rattle.sp_inline.specs.Reach.{expr_reach, args_reach, target_reach, stmt_reach, stmts_reach, stmt_calls, stmts_calls}

-- the first so many words and the world are the same
pub record Alike (o : ℕ) (s t : State) : Type 0 where
  pub frame : (x : ℕ) → x < o → s.frame x ≡ t.frame x
  pub world : s.world ≡ t.world

-- the first so many functions give the same
pub record Same (number : ℕ) (g h : Serves) : Type 0 where
  pub gives : (k mask : ℕ) (args : List ℕ) (w : World) → k < number → g k mask args w ≡ h k mask args w

-- ---- expressions

value_alike : (o : ℕ) (e : PlainSp) (f l : ℕ → ℕ) (w : World) → ((x : ℕ) → x < o → f x ≡ l x) → expr_reach e ≤ o
    → sp_value f w e ≡ sp_value l w e
value_alike o (constant n) f l w same within = refl
value_alike o (frame_word slot) f l w same within = same slot (omega (arith, within))
value_alike o (cell_word cell) f l w same within = refl
value_alike o (array_word array index) f l w same within =
    ap (λ i. array_value array i w) (value_alike o index f l w same within)
value_alike o (before_one op of) f l w same within = ap (unary_value op) (value_alike o of f l w same within)
value_alike o (between_two op a b) f l w same within =
    ap₂ (binary_value op) (value_alike o a f l w same (omega (arith, within)))
    (value_alike o b f l w same (omega (arith, within)))

pub worth_alike : (o : ℕ) (e : PlainSp) (s t : State) → Alike o s t → expr_reach e ≤ o → worth e s ≡ worth e t
worth_alike o e s t h within =
    value_alike o e s.frame t.frame s.world h.frame within ∙ ap (λ w. sp_value t.frame w e) h.world

pub args_alike : (o : ℕ) (args : List PlainSp) (s t : State) → Alike o s t → args_reach args ≤ o → args_worth args s
    ≡ args_worth args t
args_alike o [] s t h within = refl
args_alike o (e ∷ args) s t h within =
    ap₂ (λ v vs. v ∷ vs) (worth_alike o e s t h (omega (arith, within)))
    (args_alike o args s t h (omega (arith, within)))

-- ---- what is set

pub slot_alike : (o slot v v' : ℕ) (s t : State) → Alike o s t → v ≡ v'
    → Alike o (with_slot slot v s) (with_slot slot v' t)
slot_alike o slot v v' s t h same = record {
  frame = λ x below. ap₂ (λ a b. cond (slot == x) a b) same (h.frame x below);
  world = h.world;
}

target_alike : (o : ℕ) (target : PlainSpTarget) (v v' : ℕ) (s t : State) → Alike o s t → v ≡ v'
    → target_reach target ≤ o
    → Alike o (with_sp_target target v s) (with_sp_target target v' t)
target_alike o (to_slot slot) v v' s t h same within = slot_alike o slot v v' s t h same
target_alike o (to_cell cell) v v' s t h same within =
    record { frame = h.frame; world = ap₂ (λ a w. with_word cell.region cell.word a w) same h.world }
target_alike o (to_array array index) v v' s t h same within = record {
  frame = h.frame;
  world = ap₂ (λ i a. with_element array.region array.first array.length i a s.world)
      (worth_alike o index s t h within) same
      ∙ ap (λ w. with_element array.region array.first array.length (worth index t) v' w) h.world;
}

result_alike : (o : ℕ) (result : Option ℕ) (v v' : ℕ) (s t : State) → Alike o s t → v ≡ v'
    → Alike o (with_result result v s) (with_result result v' t)
result_alike o None v v' s t h same = h
result_alike o (Some slot) v v' s t h same = slot_alike o slot v v' s t h same

pub on_alike : (o mask : ℕ) (c d : State → State) (s t : State) → s.frame mask ≡ t.frame mask
    → Alike o (c s) (d t) → Alike o s t
    → Alike o (where_on mask c s) (where_on mask d t)
on_alike o mask c d s t same h k =
    subst (λ m. Alike o (if m == 1 then c s else s) (where_on mask d t)) (sym same) (by (t.frame mask == 1))
  where
    by : (b : Bool) → Alike o (if b then c s else s) (if b then d t else t)
    by true = h
    by false = k

-- after a call that gave the same
pub call_alike : (o mask : ℕ) (result : Option ℕ) (s t : State) (a b : Outcome) → s.frame mask ≡ t.frame mask
    → Alike o s t → a ≡ b
    → Alike o (call_done mask result s a) (call_done mask result t b)
call_alike o mask result s t a b same h is =
    let behind : Alike o (in_world s a.world) (in_world t b.world) =
    record { frame = h.frame; world = ap (λ (x : Outcome). x.world) is } in
    on_alike o mask (with_result result a.value) (with_result result b.value) (in_world s a.world)
    (in_world t b.world) same
    (result_alike o result a.value b.value (in_world s a.world) (in_world t b.world) behind
    (ap (λ (x : Outcome). x.value) is)) behind

-- ---- statements

pub times_alike : (o : ℕ) (c d : State → State) → ((s t : State) → Alike o s t → Alike o (c s) (d t))
    → (n : ℕ) (s t : State) → Alike o s t
    → Alike o (times n c s) (times n d t)
times_alike o c d each zero s t h = h
times_alike o c d each (suc n) s t h = times_alike o c d each n (c s) (d t) (each s t h)

mutual
  pub stmt_alike : (number : ℕ) (g h : Serves) → Same number g h → (o : ℕ) (t : PlainStmt) (s u : State) → stmt_reach t
      ≤ o → stmt_calls t ≤ number → Alike o s u
      → Alike o (stmt_done g t s) (stmt_done h t u)
  stmt_alike number g h same o (masks slot e) s u within earlier a =
      slot_alike o slot (worth e s) (worth e u) s u a (worth_alike o e s u a (omega (arith, within)))
  stmt_alike number g h same o (writes mask target e) s u within earlier a =
      on_alike o mask (write_done target e) (write_done target e) s u (a.frame mask (omega (arith, within)))
      (target_alike o target (worth e s) (worth e u) s u a (worth_alike o e s u a (omega (arith, within)))
      (omega (arith, within))) a
  stmt_alike number g h same o (calls mask k args result) s u within earlier a =
      let mask_same : s.frame mask ≡ u.frame mask = a.frame mask (omega (arith, within)) in
      call_alike o mask result s u (g k (s.frame mask) (args_worth args s) s.world)
      (h k (u.frame mask) (args_worth args u) u.world) mask_same a
      (same.gives k (s.frame mask) (args_worth args s) s.world (omega (arith, earlier))
      ∙ ap₂ (λ m vs. h k m vs s.world) mask_same (args_alike o args s u a (omega (arith, within)))
      ∙ ap (h k (u.frame mask) (args_worth args u)) a.world)
  stmt_alike number g h same o (transfers mask core source target count) s u within earlier a =
      on_alike o mask (transfer_done core source target count) (transfer_done core source target count) s u
      (a.frame mask (omega (arith, within)))
      (record {
        frame = a.frame;
        world = ap₂ (λ x y. with_send core x y (worth count s) s.world)
            (worth_alike o source s u a (omega (arith, within)))
            (worth_alike o target s u a (omega (arith, within)))
            ∙ ap₂ (λ z w. with_send core (worth source u) (worth target u) z w) (worth_alike o count s u a
            (omega (arith, within))) a.world;
      }) a
  stmt_alike number g h same o (overruns mask e) s u within earlier a =
      on_alike o mask (overrun_done e) (overrun_done e) s u (a.frame mask (omega (arith, within)))
      (record {
        frame = a.frame;
        world = ap₂ (λ v w. with_overrun (is_true v) w)
            (worth_alike o e s u a (omega (arith, within))) a.world;
      }) a
  stmt_alike number g h same o (iterations count body) s u within earlier a =
      times_alike o (stmts_done g body) (stmts_done h body) (λ x y b. stmts_alike number g h same o body x y within
      earlier b) count s u a

  pub stmts_alike : (number : ℕ) (g h : Serves) → Same number g h → (o : ℕ) (ts : PlainStmts) (s u : State)
      → stmts_reach ts ≤ o → stmts_calls ts ≤ number → Alike o s u
      → Alike o (stmts_done g ts s) (stmts_done h ts u)
  stmts_alike number g h same o no_stmt s u within earlier a = a
  stmts_alike number g h same o (stmt t rest) s u within earlier a =
      stmts_alike number g h same o rest (stmt_done g t s) (stmt_done h t u) (omega (arith, within))
      (omega (arith, earlier))
      (stmt_alike number g h same o t s u (omega (arith, within)) (omega (arith, earlier)) a)
