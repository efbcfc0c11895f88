-- The code of statements stays within its frame, where that of the functions that are called stays within theirs.
use Rattle.std.proofs.Common.{◌≡◌, ℕ, ◌+◌, ◌-◌, ◌<◌, ◌≤◌, true, false, Option, List, nat_lt, refl, sym, subst, arith}
use Rattle.std.proofs.lemmas.Bool.{lt-ltb}
use Rattle.patmos_instr.specs.declared.functions.StackFunc.TheVariants.{Sens}
use Rattle.patmos_sem.specs.declared.effects.Effect.TheVariants as effect
use Rattle.sp_tree.specs.Formed.{result_formed, slots_of}
use Rattle.sp_tree.specs.Statements.{PlainStmt, calls, iterations, PlainStmts, no_stmt, stmt, PlainFunction}
use Rattle.sp_shape.proofs.Whole.{begun_whole}
use Rattle.sp_shape.specs.Parts.{straight, repeats, one}
use Rattle.sp_shape.specs.Run.{Run, IsWhole, Sources, once, run, begun}
use Rattle.sp_shape.specs.Trail.{Step, all_done, parts_trail}
use Rattle.sp_emit.specs.Places.{in_register, stack_word}
use Rattle.sp_emit.proofs.Walks.{Within, Flows, StmtFlows, StmtsFlow, trail_walk, body_is, begins, tails, hands, results}
use Rattle.sp_shape.proofs.Along.{repeated_has}
use Rattle.sp_emit.proofs.Windows.{InWindow, body_placed}
use Rattle.sp_emit.proofs.WordPlaces.{stack_within}
use Rattle.sp_emit.specs.Chains.{stmt_chain, stmts_chain}
use Rattle.sp_emit.specs.Flags.{begun_body}
use Rattle.sp_emit.specs.Functions.{frame_words, first_counter, body_code}
use Rattle.sp_emit.specs.Instructions.{stack_op}
use Rattle.sp_emit.specs.Statements.{mask_handed, call_tail, result_write, call_code, iterations_begin, iterations_tail, stmts_code}
use Rattle.sp_emit.specs.declared.registers.TheConstants.{FIRST}
use Rattle.sp_emit.proofs.Arguments.{did_stack}
use Rattle.sp_emit.proofs.Calling.{call_run}
use Rattle.sp_emit.proofs.Pointing.{Points, points_then, points_none, points_one, inside, Framed, Stays, stays_then, StaysFrom, stays_compose, inside_done}
use Rattle.sp_emit.specs.declared.stands.Homes.{Homes}

-- ---- the words of the frame up to the next counter

inside_within : (homes : Homes) (frame most : ℕ) → stack_word homes.first (most + 1) ≤ frame
    → Within (inside frame) homes most
inside_within homes frame most within =
    let lies : (slot : ℕ) → slot ≤ most → in_register homes.first slot ≡ false
    → nat_lt (stack_word homes.first slot) frame ≡ true = λ slot le out. lt-ltb (stack_word homes.first slot) frame
    (stack_within homes.first slot (most + 1) frame (omega (arith, le)) within out) in
    record {
      window = λ r lt. refl;
      flag = refl;
      named = λ slot p is. refl;
      here = λ slot le. refl;
      reads = lies;
      stores = lies;
    }

-- ---- calls

-- a function that was called has returned
pub record GivesBack (m t : Run) : Type 0 where
  pub points : Points m t
  pub whole : IsWhole t
  pub st : t.st ≡ m.st
  pub held : t.st ≤ t.ss

-- functions stay within the stack, where so many words are left for each
pub record CalleesStay (from : Sources) (f : ℕ → List Step) (number : ℕ) (g : ℕ → ℕ) : Type 0 where
  pub called : (k : ℕ) → k < number → (m : Run) → IsWhole m → m.st ≤ 65536 → m.st ≤ m.ss → 49152 + g k ≤ m.st
      → GivesBack m (run from (f k) m)

-- the words of the own frame are brought back
framed_again : (from : Sources) (frame : ℕ) (m t : Run) → Framed frame m → GivesBack m t
    → Stays frame m (once from (stack_op Sens frame) t)
framed_again from frame m t framed b = subst (Stays frame m) (sym (did_stack from Sens frame t b.whole)) (record {
  points = points_then b.points (points_one (effect.StackOp Sens frame) t _ refl
      (framed.few, omega (arith, b.st, framed.high)) refl);
  framed = record {
    whole = record { fits = b.whole.fits; pending = b.whole.pending };
    few = framed.few;
    high = omega (arith, b.st, framed.high);
    held = omega arith;
  };
  st = b.st;
})

call_stays : (homes : Homes) (from : Sources) (f : ℕ → List Step) (number frame slots most mask k : ℕ) (g : ℕ → ℕ)
    (result : Option ℕ) → CalleesStay from f number g → k < number → Within (inside frame) homes most
    → slots ≤ most + 1 → FIRST ≤ homes.first → mask < slots → result_formed slots result ≡ true
    → (m : Run) → Framed frame m → 49152 + g k ≤ m.st
    → Stays frame m (run from (parts_trail f (call_code homes frame mask k result)) m)
call_stays homes from f number frame slots most mask k g result callees earlier x le own masked is m framed enough =
    let handed = inside_done from frame (mask_handed homes mask) m framed
    (hands x mask (omega (arith, le, masked)) own) in
    let n = run from (all_done (mask_handed homes mask)) m in
    let tail = inside_done from frame call_tail n handed.framed refl in
    let c = run from (all_done call_tail) n in
    let before = stays_then handed tail in
    let begins : Stays frame m (begun c) = record {
      points = points_then before.points (points_none c (begun c) refl refl);
      framed = record {
        whole = begun_whole c before.framed.whole;
        few = framed.few;
        high = before.framed.high;
        held = before.framed.held;
      };
      st = before.st;
    } in
    let back = callees.called k earlier (begun c) begins.framed.whole (omega (arith, begins.framed.high))
    (omega (arith, begins.framed.held)) (omega (arith, begins.st, enough)) in
    let t = run from (f k) (begun c) in
    let again = stays_then begins (framed_again from frame (begun c) t begins.framed back) in
    let u = once from (stack_op Sens frame) t in
    subst (Stays frame m) (sym (call_run homes from f frame mask k result m))
    (stays_then again (inside_done from frame (result_write homes mask result) u again.framed
    (results x slots mask result le masked is)))

-- ---- statements, where so many words are left for each function that they call

mutual
  stmt_leaves : (g : ℕ → ℕ) (low : ℕ) (t : PlainStmt) → 49152 + stmt_chain g t ≤ low
      → StmtFlows (λ k. 49152 + g k ≤ low) (λ count. Unit {0}) t
  stmt_leaves g low (calls mask k args result) le = le
  stmt_leaves g low (iterations count body) le = (tt, stmts_leave g low body le)
  stmt_leaves g low _ le = tt

  stmts_leave : (g : ℕ → ℕ) (low : ℕ) (ts : PlainStmts) → 49152 + stmts_chain g ts ≤ low
      → StmtsFlow (λ k. 49152 + g k ≤ low) (λ count. Unit {0}) ts
  stmts_leave g low no_stmt le = tt
  stmts_leave g low (stmt t rest) le =
      (stmt_leaves g low t (omega (arith, le)), stmts_leave g low rest (omega (arith, le)))

pub body_stays : {homes : Homes} {tops : List ℕ} {fs : List PlainFunction} {number : ℕ} {f : PlainFunction}
    → InWindow homes tops fs number f → (from : Sources) (code : ℕ → List Step) (g : ℕ → ℕ)
    → CalleesStay from code number g → (m : Run) → Framed (frame_words homes.first f) m
    → 49152 + stmts_chain g (begun_body homes.flags f) ≤ m.st
    → Stays (frame_words homes.first f) m (run from (parts_trail code (body_code homes f)) m)
body_stays {homes} {tops} {fs} {number} {f} w from code g callees m framed enough =
    let frame = frame_words homes.first f in
    let most = first_counter f in
    let low = 49152 + stmts_chain g (begun_body homes.flags f) in
    let x = inside_within homes frame most (omega (arith, w.parts.room, w.parts.mask)) in
    let le : slots_of f ≤ most + 1 = omega (arith, (body_placed w).levels) in
    let c = stays_compose from frame low in
    let W = trail_walk (StaysFrom from frame low) c (inside frame) refl
    (λ bs all m left. inside_done from frame bs m left.0 all) code in
    let flows : Flows (λ ps. StaysFrom from frame low (parts_trail code ps)) tops homes fs number
    (slots_of f) frame most
    (λ k. 49152 + g k ≤ low) (λ count. Unit {0}) = record {
      called = λ mask k result lt earlier window formed room m left. call_stays homes from code number frame
          (slots_of f) most mask k g result callees earlier x le w.homed.own lt formed m left.0
          (omega (arith, room, left.1));
      repeated = λ count counter body some nested within placed may stays.
          let begin = iterations_begin homes.first counter count in
          let inner = stmts_code homes frame (counter - 1) body in
          let tail = iterations_tail homes.first counter in
          W.both (one (straight begin)) (one (repeats count inner tail)) (W.lone begin (begins x counter count within))
          (repeated_has (StaysFrom from frame low) c code count inner tail stays
          (λ m left. inside_done from frame tail m left.0 (tails x counter within refl)));
    } in
    body_is W refl refl w x flows (stmts_leave g low (begun_body homes.flags f) (omega arith)) m
    (framed, omega (arith, enough))
