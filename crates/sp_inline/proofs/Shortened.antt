-- A function without the mask that it sets last gives what it gave, and takes no more.
use Rattle.std.proofs.Common.{◌≡◌, ◌≢◌, ℕ, suc, ◌+◌, ◌<◌, ◌≤◌, ◌==◌, Bool, true, false, not, if◌then◌else◌, List, [], ◌∷◌, length, take, refl, ap, ap₂, sym, ◌∙◌, subst, arith, true≢false}
use Rattle.std.specs.Prelude.{◌-◌}
use Rattle.std.proofs.lemmas.Bool.{eqb-false}
use Rattle.std.proofs.lemmas.List.{take_all}
use Rattle.c_world.specs.World.{World}
use Rattle.sp_tree.specs.declared.statements.SpStmt.{SpStmt}
use Rattle.sp_tree.specs.Formed.{slots_of, stmts_levels}
use Rattle.sp_tree.specs.Plain.{PlainSp}
use Rattle.sp_tree.specs.Shown.{plain_stmt, stmts_of}
use Rattle.sp_tree.specs.Statements.{PlainStmt, masks, writes, calls, transfers, overruns, iterations, PlainStmts, no_stmt, stmt, one, joined, PlainFunction}
use Rattle.sp_tree.specs.Straight.{State, Outcome, Serves, worth, stmts_done, begun_frame, function_outcome}
use Rattle.sp_tree.proofs.Joins.{joined_done, joined_levels}
use Rattle.sp_inline.specs.Kept.{kept_count}
use Rattle.sp_inline.specs.Reach.{stmts_reach, stmts_calls}
use Rattle.sp_inline.specs.Taken.{is_other_mask, ends_so, front, short_body, shortened}
use Rattle.sp_inline.proofs.Windows.{put_there}

-- the statements before, and the mask after them
pub record Split (result : ℕ) (ts : PlainStmts) : Type 0 where
  pub slot : ℕ
  pub value : PlainSp
  pub other : slot ≢ result
  pub is : joined (front ts) (one (masks slot value)) ≡ ts

lone : (result : ℕ) (t : PlainStmt) → is_other_mask result t ≡ true → Split result (one t)
lone result (masks slot e) is =
    record { slot = slot; value = e; other = eqb-false slot result (denied (slot == result) is); is = refl }
  where
    denied : (b : Bool) → not b ≡ true → b ≡ false
    denied true is = absurd (true≢false (sym is))
    denied false is = refl
lone result (writes mask target e) is = absurd (true≢false (sym is))
lone result _ is = absurd (true≢false (sym is))

pub split : (result : ℕ) (t : PlainStmt) (rest : PlainStmts) → ends_so result (is_other_mask result t) rest ≡ true
    → Split result (stmt t rest)
split result t no_stmt is = lone result t is
split result t (stmt u rest) is =
    let h = split result u rest is in
    record { slot = h.slot; value = h.value; other = h.other; is = ap (stmt t) h.is }

-- either nothing is left out, or the mask after the others is
pub short_is : (P : PlainStmts → Type 0) (result : ℕ) (ts : PlainStmts) → P ts → (Split result ts → P (front ts))
    → P (short_body result ts)
short_is P result no_stmt whole less = whole
short_is P result (stmt t rest) whole less = by (ends_so result (is_other_mask result t) rest) refl
  where
    by : (b : Bool) → ends_so result (is_other_mask result t) rest ≡ b
        → P (if b then front (stmt t rest) else stmt t rest)
    by true is = less (split result t rest is)
    by false is = whole

joined_reach : (xs ys : PlainStmts) → stmts_reach xs ≤ stmts_reach (joined xs ys)
joined_reach no_stmt ys = omega arith
joined_reach (stmt t xs) ys = let rest = joined_reach xs ys in omega (arith, rest)

joined_calls : (xs ys : PlainStmts) → stmts_calls xs ≤ stmts_calls (joined xs ys)
joined_calls no_stmt ys = omega arith
joined_calls (stmt t xs) ys = let rest = joined_calls xs ys in omega (arith, rest)

pub short_reach : (result : ℕ) (ts : PlainStmts) → stmts_reach (short_body result ts) ≤ stmts_reach ts
short_reach result ts =
    short_is (λ xs. stmts_reach xs ≤ stmts_reach ts) result ts (omega arith)
    (λ h. subst (λ xs. stmts_reach (front ts) ≤ stmts_reach xs) h.is
    (joined_reach (front ts) (one (masks h.slot h.value))))

pub short_calls : (result : ℕ) (ts : PlainStmts) → stmts_calls (short_body result ts) ≤ stmts_calls ts
short_calls result ts =
    short_is (λ xs. stmts_calls xs ≤ stmts_calls ts) result ts (omega arith)
    (λ h. subst (λ xs. stmts_calls (front ts) ≤ stmts_calls xs) h.is
    (joined_calls (front ts) (one (masks h.slot h.value))))

pub short_levels : (result : ℕ) (ts : PlainStmts) → stmts_levels (short_body result ts) ≡ stmts_levels ts
short_levels result ts =
    short_is (λ xs. stmts_levels xs ≡ stmts_levels ts) result ts refl
    (λ h. let both = joined_levels (front ts) (one (masks h.slot h.value)) in let same = ap stmts_levels h.is in
    omega (arith, both, same))

pub short_slots : (f : PlainFunction) → slots_of (shortened f) ≡ slots_of f
short_slots f = ap (λ n. f.frame - (n + 2)) (short_levels f.result f.body)

pub short_fits : (f : PlainFunction) → f.result < slots_of f → stmts_reach f.body ≤ slots_of f
    → (f.result < slots_of (shortened f)) × (stmts_reach (short_body f.result f.body) ≤ slots_of (shortened f))
short_fits f result reach =
    let same = short_slots f in (omega (arith, same, result), omega (arith, same, reach, short_reach f.result f.body))

-- what it gives, and the world after it
pub short_gives : (g : Serves) (f : PlainFunction) (mask : ℕ) (args : List ℕ) (w : World)
    → function_outcome g (shortened f) mask args w ≡ function_outcome g f mask args w
short_gives g f mask args w =
    short_is (λ xs. given (stmts_done g xs s) ≡ given (stmts_done g f.body s)) f.result f.body refl
    (λ h. let n = stmts_done g (front f.body) s in
    let end = joined_done g (front f.body) (one (masks h.slot h.value)) s in
    ap₂ outcome (sym (put_there h.slot (worth h.value n) f.result n.frame h.other)) refl ∙ sym (ap given end)
    ∙ ap (λ xs. given (stmts_done g xs s)) h.is)
  where
    s : State
    s = record { frame = begun_frame f mask args; world = w }

    outcome : ℕ → World → Outcome
    outcome v world = record { value = v; world = world }

    given : State → Outcome
    given t = outcome (t.frame f.result) t.world

-- ---- as a list

pub front_taken : (xs : List SpStmt) → stmts_of (take (length xs - 1) xs) ≡ front (stmts_of xs)
front_taken [] = refl
front_taken (x ∷ []) = refl
front_taken (x ∷ (y ∷ ys)) =
    ap (λ n. stmts_of (take n (x ∷ (y ∷ ys)))) (let more : length (x ∷ (y ∷ ys)) - 1 ≡ suc (length (y ∷ ys)
    - 1) = omega arith in more)
    ∙ ap (stmt (plain_stmt x)) (front_taken (y ∷ ys))

pub less_one : (result : ℕ) (body : List SpStmt) (n : ℕ) (ends : Bool) → ends ≡ ends_so result false (stmts_of body)
    → ends ≡ true → n ≡ length body - 1 → n ≡ kept_count result body
less_one result body n ends is so count =
    count ∙ sym (ap (λ (b : Bool). if b then length body - 1 else length body) (sym is ∙ so))

pub no_less : (result : ℕ) (body : List SpStmt) (ends : Bool) → ends ≡ ends_so result false (stmts_of body) → ends
    ≡ false → length body ≡ kept_count result body
no_less result body ends is other = sym (ap (λ (b : Bool). if b then length body - 1 else length body) (sym is ∙ other))

pub kept_within : (result : ℕ) (body : List SpStmt) → kept_count result body ≤ length body
kept_within result body = by (ends_so result false (stmts_of body))
  where
    by : (b : Bool) → (if b then length body - 1 else length body) ≤ length body
    by true = omega arith
    by false = omega arith

pub kept_shown : (result : ℕ) (body : List SpStmt) → stmts_of (take (kept_count result body) body)
    ≡ short_body result (stmts_of body)
kept_shown result body = by (ends_so result false (stmts_of body))
  where
    by : (b : Bool) → stmts_of (take (if b then length body - 1 else length body) body)
        ≡ (if b then front (stmts_of body) else stmts_of body)
    by true = front_taken body
    by false = ap stmts_of (take_all (length body) body (omega arith))
