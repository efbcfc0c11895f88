-- A function without the test of its mask, which is handed that test, gives what it gave, and takes no more.
use Rattle.std.proofs.Common.{◌≡◌, ℕ, ◌<◌, ◌≤◌, ◌==◌, Bool, true, false, ◌&&◌, List, slice_index, refl, ap, sym, ◌∙◌, arith}
use Rattle.std.specs.Prelude.{cond}
use Rattle.std.proofs.lemmas.Bool.{and_parts, eqb-true}
use Rattle.shared_order.specs.Words.{put}
use Rattle.c_world.specs.Numbers.{flag}
use Rattle.c_world.specs.World.{World}
use Rattle.sp_tree.specs.declared.operators.SpBinary.{SpBinary}
use Rattle.sp_tree.specs.declared.operators.SpBinary.TheVariants as binary
use Rattle.sp_tree.specs.Formed.{stmts_levels}
use Rattle.sp_tree.specs.Plain.{PlainSp, constant, frame_word, between_two}
use Rattle.sp_tree.specs.Statements.{PlainStmt, masks, PlainStmts, no_stmt, stmt, PlainFunction}
use Rattle.sp_tree.specs.Straight.{State, Serves, worth, stmt_done, stmts_done, begun_frame}
use Rattle.sp_inline.specs.Reach.{expr_reach, stmts_reach, stmts_calls}
use Rattle.sp_inline.specs.Taken.{call_mask, entered}
use Rattle.sp_tree.specs.MaskTests.{is_equal, is_word, is_one, tests_mask}
use Rattle.sp_inline.proofs.Windows.{put_here}

-- ---- the test

equal : (op : SpBinary) → is_equal op ≡ true → binary.Equal ≡ op
equal binary.Equal is = refl
equal op is = grind (arith, is)

word : (slot : ℕ) (e : PlainSp) → is_word slot e ≡ true → frame_word slot ≡ e
word slot (frame_word own) is = ap frame_word (sym (eqb-true own slot is))
word slot e is = grind (arith, is)

number_one : (e : PlainSp) → is_one e ≡ true → constant 1 ≡ e
number_one (constant n) is = ap constant (sym (eqb-true n 1 is))
number_one e is = grind (arith, is)

tested : (mask : ℕ) (ts : PlainStmts) → tests_mask mask ts ≡ true
    → stmt (masks mask (call_mask true mask)) (entered true ts) ≡ ts
tested mask (stmt (masks slot (between_two op a b)) rest) is =
    let p = and_parts (slot == mask) (is_equal op && (is_word mask a && is_one b)) is in
    let q = and_parts (is_equal op) (is_word mask a && is_one b) p.1 in
    let r = and_parts (is_word mask a) (is_one b) q.1 in
    let same = sym (eqb-true slot mask p.0) in
    λ i. stmt (masks (same i) (between_two (equal op q.0 i) (word mask a r.0 i) (number_one b r.1 i))) rest
tested mask ts is = grind (arith, is)

-- either nothing is left out, or the test before the others is
pub entered_is : (P : Bool → PlainStmts → Type 0) (mask : ℕ) (ts : PlainStmts) → P false ts
    → (stmt (masks mask (call_mask true mask)) (entered true ts) ≡ ts → P true (entered true ts))
    → P (tests_mask mask ts) (entered (tests_mask mask ts) ts)
entered_is P mask ts whole less = by (tests_mask mask ts) refl
  where
    by : (b : Bool) → tests_mask mask ts ≡ b → P b (entered b ts)
    by true is = less (tested mask ts is)
    by false is = whole

-- ---- what is so of statements, and of those after their first, is so of those that are taken in

pub entered_so : (P : PlainStmts → Type 0) → ((t : PlainStmt) (rest : PlainStmts) → P (stmt t rest) → P rest)
    → (tests : Bool) (ts : PlainStmts) → P ts
    → P (entered tests ts)
entered_so P behind true no_stmt h = h
entered_so P behind true (stmt t rest) h = behind t rest h
entered_so P behind false ts h = h

pub entered_reach : (tests : Bool) (ts : PlainStmts) → stmts_reach (entered tests ts) ≤ stmts_reach ts
entered_reach tests ts =
    entered_so (λ xs. stmts_reach xs ≤ stmts_reach ts) (λ t rest h. omega (arith, h)) tests ts (omega arith)

pub entered_calls : (tests : Bool) (ts : PlainStmts) → stmts_calls (entered tests ts) ≤ stmts_calls ts
entered_calls tests ts =
    entered_so (λ xs. stmts_calls xs ≤ stmts_calls ts) (λ t rest h. omega (arith, h)) tests ts (omega arith)

pub entered_levels : (tests : Bool) (ts : PlainStmts) → stmts_levels (entered tests ts) ≤ stmts_levels ts
entered_levels tests ts =
    entered_so (λ xs. stmts_levels xs ≤ stmts_levels ts) (λ t rest h. omega (arith, h)) tests ts (omega arith)

pub mask_reach : (o : ℕ) (tests : Bool) (mask : ℕ) → mask < o → expr_reach (call_mask tests mask) ≤ o
mask_reach o true mask within = omega (arith, within)
mask_reach o false mask within = omega (arith, within)

-- ---- what the statements do

-- a function under a mask
abbrev pub begun_state : PlainFunction → ℕ → List ℕ → World → State
begun_state f mask args w = record { frame = begun_frame f mask args; world = w }

put_again : (x y z : ℕ) (f : ℕ → ℕ) → put x y f ≡ put x y (put x z f)
put_again x y z f = λ i u. by (x == u) (f u) i
  where
    by : (b : Bool) (v : ℕ) → cond b y v ≡ cond b y (cond b z v)
    by true v = refl
    by false v = refl

-- the test makes of what a function begins with under a mask what it begins with where that was tested before
pub test_done : (g : Serves) (f : PlainFunction) (mask : ℕ) (args : List ℕ) (w : World)
    → begun_state f (flag (mask == 1)) args w ≡ stmt_done g (masks f.mask (call_mask true f.mask))
    (begun_state f mask args w)
test_done g f mask args w =
    let all = slice_index args in
    ap (λ frame. let s : State = record { frame = frame; world = w } in s)
    (put_again f.mask (flag (mask == 1)) mask all
    ∙ ap (λ n. put f.mask (flag (n == 1)) (put f.mask mask all)) (sym (put_here f.mask mask all)))

-- so they do under what they are handed what all do under the mask
pub entered_done : (g : Serves) (f : PlainFunction) (mask : ℕ) (t : State) (args : List ℕ) (w : World)
    → let tests = tests_mask f.mask f.body in
    stmts_done g (entered tests f.body) (begun_state f (worth (call_mask tests mask) t) args w)
    ≡ stmts_done g f.body (begun_state f (t.frame mask) args w)
entered_done g f mask t args w =
    entered_is (λ tests xs. stmts_done g xs (begun_state f (worth (call_mask tests mask) t) args w)
    ≡ stmts_done g f.body (begun_state f (t.frame mask) args w))
    f.mask f.body refl
    (λ is. ap (stmts_done g (entered true f.body)) (test_done g f (t.frame mask) args w)
    ∙ ap (λ xs. stmts_done g xs (begun_state f (t.frame mask) args w)) is)
