-- A function that takes in calls keeps to its words of code and of its frame.
use Rattle.std.proofs.Common.{◌≡◌, ℕ, zero, suc, ◌+◌, ◌<◌, ◌≤◌, Bool, true, false, if◌then◌else◌, List, [], ◌∷◌, Option, Some, None, refl, ap, arith}
use Rattle.std.specs.Prelude.{◌-◌, nat_le, max}
use Rattle.std.proofs.lemmas.Bool.{and_parts, leb-true}
use Rattle.sp_tree.specs.Cost.{args_cost, stmt_cost, stmts_cost, cost}
use Rattle.sp_tree.specs.Formed.{stmt_levels, stmts_levels, slots_of}
use Rattle.sp_tree.specs.Plain.{PlainSp}
use Rattle.sp_tree.specs.Statements.{PlainStmt, masks, writes, calls, transfers, overruns, iterations, PlainStmts, no_stmt, stmt, joined, PlainFunction}
use Rattle.sp_tree.proofs.Joins.{joined_cost, joined_levels}
use Rattle.sp_inline.specs.Moved.{stmt_moved, stmts_moved}
use Rattle.sp_inline.specs.declared.room.Room.{Room}
use Rattle.sp_inline.proofs.Shortened.{short_levels}
use Rattle.sp_inline.proofs.Entered.{entered_levels}
use Rattle.sp_inline.specs.Taken.{begun_words, handed, call_mask, entered, given_set, call_statements, shortened, PlainCaller, Taken, callee, growth, room_after, may_take, is_taken, kept, call_taken, stmt_taken, stmts_taken, body_taken, grown}
use Rattle.sp_tree.specs.MaskTests.{tests_mask}

-- ---- levels of iterations

mutual
  moved_level : (o : ℕ) (t : PlainStmt) → stmt_levels (stmt_moved o t) ≡ stmt_levels t
  moved_level o (iterations count body) = ap (λ n. 1 + n) (moved_levels o body)
  moved_level o _ = refl

  pub moved_levels : (o : ℕ) (ts : PlainStmts) → stmts_levels (stmts_moved o ts) ≡ stmts_levels ts
  moved_levels o no_stmt = refl
  moved_levels o (stmt t rest) = let a = moved_level o t in let b = moved_levels o rest in omega (arith, a, b)

begun_levels : (at n : ℕ) (args : List PlainSp) → stmts_levels (begun_words at n args) ≡ 0
begun_levels at zero args = refl
begun_levels at (suc n) [] = let rest = begun_levels (at + 1) n [] in omega (arith, rest)
begun_levels at (suc n) (e ∷ args) = let rest = begun_levels (at + 1) n args in omega (arith, rest)

given_levels : (mask : ℕ) (result : Option ℕ) (word : ℕ) → stmts_levels (given_set mask result word) ≡ 0
given_levels mask None word = refl
given_levels mask (Some slot) word = omega arith

pub call_levels : (o : ℕ) (f : PlainFunction) (mask : ℕ) (args : List PlainSp) (result : Option ℕ)
    → stmts_levels (call_statements o f mask args result) ≤ stmts_levels f.body
call_levels o f mask args result =
    let tests = tests_mask f.mask f.body in
    let own = entered tests f.body in
    let all = handed f.mask (call_mask tests mask) args in
    let last = given_set mask result (o + f.result) in
    let a = begun_levels o (slots_of f) all in
    let b = given_levels mask result (o + f.result) in
    let c = moved_levels o own in
    let d = joined_levels (stmts_moved o own) last in
    let e = joined_levels (begun_words o (slots_of f) all) (joined (stmts_moved o own) last) in
    omega (arith, a, b, c, d, e, entered_levels tests f.body)

-- ---- words of code, and words and levels of the frame

pub record Within (c : PlainCaller) (depth : ℕ) (r : Room) (before : ℕ) (t : Taken) : Type 0 where
  pub cost : stmts_cost t.body + t.room.left ≤ before + r.left
  pub words : r.words ≤ t.room.words
  pub levels : r.levels ≤ t.room.levels
  pub inside : depth + stmts_levels t.body ≤ t.room.levels
  pub frame : t.room.words + (t.room.levels + 2) ≤ max (r.words + (r.levels + 2)) c.frame

kept_within : (c : PlainCaller) (depth : ℕ) (r : Room) (t : PlainStmt) → stmt_levels t ≡ 0 → depth ≤ r.levels
    → Within c depth r (stmt_cost t) (kept r t)
kept_within c depth r t flat above = record {
  cost = omega arith;
  words = omega arith;
  levels = omega arith;
  inside = omega (arith, flat, above);
  frame = omega arith;
}

call_within : (c : PlainCaller) (depth : ℕ) (r : Room) (mask k : ℕ) (args : List PlainSp) (result : Option ℕ)
    → depth ≤ r.levels
    → Within c depth r (16 + args_cost args) (call_taken c depth r mask k args result)
call_within c depth r mask k args result above = by (is_taken c depth r k more args) refl
  where
    f : PlainFunction
    f = callee c k

    more : PlainStmts
    more = call_statements c.words (shortened f) mask args result

    by : (b : Bool) → is_taken c depth r k more args ≡ b
        → Within c depth r (16 + args_cost args)
        (if b then (let t : Taken = record { body = more; room = room_after c depth r f more args } in t) else kept r
        (calls mask k args result))
    by true is =
        let after = room_after c depth r f more args in
        let o = and_parts (may_take c depth k args) _ is in
        let v = and_parts (nat_le (growth more args) r.left) _ o.1 in
        let fits = leb-true (growth more args) r.left v.0 in
        let room = leb-true (after.words + (after.levels + 2)) c.frame v.1 in
        let same = call_levels c.words (shortened f) mask args result in
        let levels = short_levels f.result f.body in
        record {
          cost = omega (arith, fits);
          words = omega arith;
          levels = omega arith;
          inside = omega (arith, same, levels);
          frame = omega (arith, room);
        }
    by false is = kept_within c depth r (calls mask k args result) refl above

mutual
  pub stmt_within : (c : PlainCaller) (depth : ℕ) (r : Room) (t : PlainStmt) → depth + stmt_levels t ≤ r.levels
      → Within c depth r (stmt_cost t) (stmt_taken c depth r t)
  stmt_within c depth r (calls mask k args result) above =
      call_within c depth r mask k args result (omega (arith, above))
  stmt_within c depth r (transfers mask core source target count) above =
      kept_within c depth r (transfers mask core source target count) refl (omega (arith, above))
  stmt_within c depth r (iterations count body) above =
      let h = stmts_within c (depth + 1) r body (omega (arith, above)) in
      record {
        cost = omega (arith, h.cost);
        words = h.words;
        levels = h.levels;
        inside = omega (arith, h.inside);
        frame = h.frame;
      }
  stmt_within c depth r other above = kept_within c depth r other refl (omega (arith, above))

  pub stmts_within : (c : PlainCaller) (depth : ℕ) (r : Room) (ts : PlainStmts) → depth + stmts_levels ts ≤ r.levels
      → Within c depth r (stmts_cost ts) (stmts_taken c depth r ts)
  stmts_within c depth r no_stmt above =
      record { cost = omega arith; words = omega arith; levels = omega arith; inside = above; frame = omega arith }
  stmts_within c depth r (stmt t rest) above =
      let h = stmt_within c depth r t (omega (arith, above)) in
      let first = stmt_taken c depth r t in
      let k = stmts_within c depth first.room rest (omega (arith, above, h.levels)) in
      let others = stmts_taken c depth first.room rest in
      let costs = joined_cost first.body others.body in
      let both = joined_levels first.body others.body in
      record {
        cost = omega (arith, h.cost, k.cost, costs);
        words = omega (arith, h.words, k.words);
        levels = omega (arith, h.levels, k.levels);
        inside = omega (arith, h.inside, k.inside, k.levels, both);
        frame = omega (arith, h.frame, k.frame);
      }

pub record Kept (most room : ℕ) (f : PlainFunction) (t : Taken) (g : PlainFunction) : Type 0 where
  pub cost : cost f ≤ most → cost g ≤ most
  pub frame : f.frame ≤ room → g.frame ≤ room
  pub words : slots_of g ≡ t.room.words
  pub more : slots_of f ≤ t.room.words

-- where it has a word for its mask
pub function_kept : (before : List PlainFunction) (most frame : ℕ) (f : PlainFunction) → f.mask < slots_of f
    → Kept most frame f (body_taken before most frame f) (grown f (body_taken before most frame f))
function_kept before most frame f there =
    let c : PlainCaller = record { functions = before; words = slots_of f; frame = frame } in
    let r : Room = record { left = most - cost f; words = slots_of f; levels = stmts_levels f.body } in
    let h = stmts_within c 0 r f.body (omega arith) in
    record {
      cost = λ light. omega (arith, h.cost, light);
      frame = λ small. (let fits = h.frame in let inside = h.inside in omega (arith, fits, inside, small, there));
      words = omega arith;
      more = h.words;
    }
