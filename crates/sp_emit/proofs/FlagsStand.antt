-- What it is for words of a function to stand in predicates, and that those that do so may.
use Rattle.std.proofs.Common.{◌≡◌, ℕ, zero, suc, ◌-◌, ◌<◌, ◌==◌, Bool, true, false, true≢false, not, ◌&&◌, ◌||◌, if◌then◌else◌, Option, None, Some, refl, sym, ap, ap₂, ◌∙◌, arith}
use Rattle.std.specs.Prelude.{is_none, is_some}
use Rattle.std.specs.List.{list_all}
use Rattle.sp_tree.specs.Formed.{slots_of}
use Rattle.std.proofs.lemmas.Bool.{and_parts, and_from, or_from, eqb-true}
use Rattle.c_world.specs.Numbers.{flag}
use Rattle.sp_tree.specs.Plain.{PlainSp, constant, frame_word, between_two}
use Rattle.sp_tree.specs.Statements.{PlainSpTarget, to_slot, to_cell, to_array, PlainStmt, masks, writes, calls, transfers, overruns, iterations, PlainStmts, no_stmt, stmt, PlainFunction}
use Rattle.sp_tree.specs.Straight.{State, Serves, worth, with_slot, stmts_done}
use Rattle.sp_tree.specs.declared.operators.SpBinary.{SpBinary}
use Rattle.sp_tree.specs.declared.operators.SpBinary.TheVariants as binary
use Rattle.sp_emit.specs.Flags.{first_flags, first_choice, is_past, most_flags, target_hinders, result_hinders, stmt_hinders, stmts_hinder, behind_first, begun_body, function_stands, moved_up, flags_from}
use Rattle.sp_tree.specs.MaskTests.{is_equal, is_word, tests_mask}
use Rattle.sp_emit.specs.Places.{flag_words, flag_of}
use Rattle.sp_emit.specs.Truths.{is_truth}
use Rattle.sp_tree.specs.MaskTests.{is_one}
use Rattle.sp_emit.proofs.FlagWords.{is_none_of, none_stands, before_flags}
use Rattle.sp_emit.specs.declared.stands.Flags.{Flags}

-- ---- what it is

pub record Stands (flags : Flags) (f : PlainFunction) : Type 0 where
  pub result : flag_of flags f.result ≡ None
  pub parameters : (i : ℕ) → i < f.parameters → flag_of flags i ≡ None
  pub mask : is_some (flag_of flags f.mask) ≡ true → tests_mask f.mask f.body ≡ true
  pub body : stmts_hinder flags (begun_body flags f) ≡ false

unless_stands : (o : Option ℕ) (b : Bool) → (is_none o || b) ≡ true → is_some o ≡ true → b ≡ true
unless_stands None b either some = absurd (true≢false (sym some))
unless_stands (Some p) b either some = either

on_false : (b : Bool) → not b ≡ true → b ≡ false
on_false true is = absurd (true≢false (sym is))
on_false false is = refl

pub stands_of : (flags : Flags) (f : PlainFunction) → function_stands flags f ≡ true → Stands flags f
stands_of flags f h =
    let a = and_parts (is_none (flag_of flags f.result)) _ h in
    let b = and_parts (list_all (is_past f.parameters) (flag_words flags)) _ a.1 in
    let c = and_parts (is_none (flag_of flags f.mask) || tests_mask f.mask f.body)
    (not (stmts_hinder flags (begun_body flags f))) b.1 in
    record {
      result = is_none_of (flag_of flags f.result) a.0;
      parameters = λ i lt. before_flags flags f.parameters i b.0 lt;
      mask = unless_stands (flag_of flags f.mask) (tests_mask f.mask f.body) c.0;
      body = on_false (stmts_hinder flags (begun_body flags f)) c.1;
    }

-- ---- those that do may

target_beside : (flags : Flags) (target : PlainSpTarget) → list_all is_none (flag_words flags) ≡ true
    → target_hinders flags target ≡ false
target_beside flags (to_slot slot) none = ap is_some (none_stands flags slot none)
target_beside flags (to_cell cell) none = refl
target_beside flags (to_array array index) none = refl

result_beside : (flags : Flags) (result : Option ℕ) → list_all is_none (flag_words flags) ≡ true
    → result_hinders flags result ≡ false
result_beside flags None none = refl
result_beside flags (Some slot) none = ap is_some (none_stands flags slot none)

mutual
  stmt_beside : (flags : Flags) (t : PlainStmt) → list_all is_none (flag_words flags) ≡ true
      → stmt_hinders flags t ≡ false
  stmt_beside flags (masks slot e) none = ap (λ o. is_some o && not (is_truth flags e)) (none_stands flags slot none)
  stmt_beside flags (writes mask target e) none = target_beside flags target none
  stmt_beside flags (calls mask k args result) none = result_beside flags result none
  stmt_beside flags (transfers mask core source target count) none = refl
  stmt_beside flags (overruns mask e) none = refl
  stmt_beside flags (iterations count body) none = stmts_beside flags body none

  stmts_beside : (flags : Flags) (ts : PlainStmts) → list_all is_none (flag_words flags) ≡ true
      → stmts_hinder flags ts ≡ false
  stmts_beside flags no_stmt none = refl
  stmts_beside flags (stmt t rest) none = or_from (stmt_hinders flags t) (stmts_hinder flags rest)
      (stmt_beside flags t none) (stmts_beside flags rest none)

-- none do in any case
none_stand : (flags : Flags) (f : PlainFunction) → function_stands (first_flags 0 flags) f ≡ true
none_stand flags f =
    let none = first_flags 0 flags in
    let mask = none_stands none f.mask refl in
    and_from (is_none (flag_of none f.result)) _ (ap is_none (none_stands none f.result refl))
    (and_from (is_none (flag_of none f.mask) || tests_mask f.mask f.body) _
    (ap (λ o. is_none o || tests_mask f.mask f.body) mask)
    (ap not (stmts_beside none (begun_body none f) refl)))

most_stand : (n : ℕ) (flags : Flags) (f : PlainFunction) → function_stands (most_flags n flags f) f ≡ true
most_stand zero flags f = none_stand flags f
most_stand (suc n) flags f = by (function_stands (first_flags (suc n) flags) f) refl (most_stand n flags f)
  where
    by : (b : Bool) → function_stands (first_flags (suc n) flags) f ≡ b → function_stands (most_flags n flags f) f
        ≡ true → function_stands (if b then first_flags (suc n) flags else most_flags n flags f) f ≡ true
    by true is fewer = is
    by false is fewer = fewer

pub all_stand : (base : ℕ) (f : PlainFunction) → function_stands (flags_from base f) f ≡ true
all_stand base f = most_stand 4 (moved_up base (first_choice f (slots_of f)).best) f

-- one step of the choice
pub more_flags : (count : ℕ) (flags : Flags) (f : PlainFunction) (b : Bool) → (count ≡ 0 → ⊥)
    → function_stands (first_flags count flags) f ≡ b → most_flags count flags f
    ≡ (if b then first_flags count flags else most_flags (count - 1) flags f)
more_flags zero flags f b some is = absurd (some refl)
more_flags (suc n) flags f b some is = ap (λ c. if c then first_flags (suc n) flags else most_flags n flags f) is
    ∙ ap (λ k. if b then first_flags (suc n) flags else most_flags k flags f) (let e : n ≡ suc n - 1 = omega arith in e)

-- ---- the body without the test of its mask

-- the state with which it begins
abbrev pub begun_state : Option ℕ → ℕ → State → State
begun_state None mask s = s
begun_state (Some p) mask s = with_slot mask (flag (s.frame mask == 1)) s

test_worth : (op : SpBinary) (a b : PlainSp) (mask : ℕ) (s : State) → is_equal op ≡ true → is_word mask a ≡ true
    → is_one b ≡ true → worth (between_two op a b) s ≡ flag (s.frame mask == 1)
test_worth binary.Equal (frame_word slot) (constant n) mask s equal word one =
    ap₂ (λ x y. flag (s.frame x == y)) (eqb-true slot mask word) (eqb-true n 1 one)
test_worth op a b mask s equal word one = grind (arith, equal, word, one)

tested_first : (g : Serves) (mask : ℕ) (body : PlainStmts) (s : State) → tests_mask mask body ≡ true
    → stmts_done g body s ≡ stmts_done g (behind_first body) (with_slot mask (flag (s.frame mask == 1)) s)
tested_first g mask no_stmt s is = absurd (true≢false (sym is))
tested_first g mask (stmt (masks slot (between_two op a b)) rest) s is =
    let own = and_parts (slot == mask) (is_equal op && (is_word mask a && is_one b)) is in
    let equal = and_parts (is_equal op) (is_word mask a && is_one b) own.1 in
    let both = and_parts (is_word mask a) (is_one b) equal.1 in
    ap₂ (λ slot v. stmts_done g rest (with_slot slot v s)) (eqb-true slot mask own.0)
    (test_worth op a b mask s equal.0 both.0 both.1)
tested_first g mask (stmt t rest) s is = grind (arith, is)

pub begun_done : (g : Serves) (flags : Flags) (f : PlainFunction) (s : State) → (is_some (flag_of flags f.mask) ≡ true
    → tests_mask f.mask f.body ≡ true) → stmts_done g f.body s ≡ stmts_done g (begun_body flags f) (begun_state
    (flag_of flags f.mask) f.mask s)
begun_done g flags f s tests = by (flag_of flags f.mask) tests
  where
    by : (o : Option ℕ) → (is_some o ≡ true → tests_mask f.mask f.body ≡ true) → stmts_done g f.body s
        ≡ stmts_done g (if is_some o then behind_first f.body else f.body) (begun_state o f.mask s)
    by None tests = refl
    by (Some p) tests = tested_first g f.mask f.body s (tests refl)
