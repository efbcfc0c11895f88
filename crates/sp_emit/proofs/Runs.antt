-- The code of statements leaves the run where their meaning leaves the state, where the code of calls does.
use Rattle.std.proofs.Common.{◌≡◌, ℕ, ◌+◌, ◌-◌, ◌<◌, ◌≤◌, true, false, ◌&&◌, List, [], Option, sym, subst, arith, nat_lt}
use Rattle.std.proofs.lemmas.Bool.{and_parts, or_parts, ltb-true}
use Rattle.sp_tree.specs.Formed.{send_formed, target_formed, array_formed, expr_formed, stmt_formed, stmts_formed, stmt_levels, stmts_levels}
use Rattle.sp_tree.specs.Plain.{PlainSp}
use Rattle.sp_tree.specs.Statements.{PlainSpTarget, to_slot, to_cell, to_array, PlainStmt, masks, writes, calls, transfers, overruns, iterations, PlainStmts, no_stmt, stmt, PlainFunction}
use Rattle.sp_tree.specs.Straight.{State, Serves, stmt_done, stmts_done}
use Rattle.sp_shape.specs.Run.{Run, by_words, run}
use Rattle.sp_shape.specs.Trail.{Step, parts_trail}
use Rattle.sp_emit.specs.Means.{Follows, KeepsAfter, HasStmtConstants, HasStmtsConstants}
use Rattle.sp_emit.specs.Flags.{target_hinders, stmt_hinders, stmts_hinder, AreAbove, stmt_spared, stmts_spared}
use Rattle.sp_emit.specs.Places.{flag_of, stmt_least, stmts_least, stack_word}
use Rattle.sp_emit.specs.Statements.{stmt_code, stmts_code}
use Rattle.sp_emit.proofs.FlagWords.{is_none_off}
use Rattle.sp_emit.proofs.Passing.{kept_all}
use Rattle.sp_emit.proofs.Masks.{Done, mask_done, slot_done}
use Rattle.sp_emit.proofs.Overruns.{overrun_is_done}
use Rattle.sp_emit.proofs.TargetWrites.{cell_done, element_done}
use Rattle.sp_emit.proofs.Sends.{send_done}
use Rattle.sp_emit.proofs.Iterations.{done_then, iterations_done}
use Rattle.sp_emit.proofs.Values.{run_joined}
use Rattle.sp_emit.specs.declared.stands.Homes.{Homes}
use Rattle.sp_emit.proofs.FlagsAbove.{above_fewer}

-- the code of a statement does what it means, over functions and what they give
abbrev pub Runs : Homes → (ℕ → List Step) → Serves → ℕ → ℕ → ℕ → ℕ → PlainStmt → Type 0
Runs homes f g frame counter slots low t = (s : State) (m : Run) → low ≤ m.st → Follows homes slots s m
    → Done homes slots (counter + 1) (stmt_done g t s) m (run by_words (parts_trail f (stmt_code homes frame counter t))
    m)

-- so does that of calls
pub record CallsRun (homes : Homes) (tops spared : List ℕ) (f : ℕ → List Step) (g : Serves) (fs : List PlainFunction)
    (number frame slots low : ℕ) : Type 0 where
  pub calls : (counter mask k : ℕ) (args : List PlainSp) (result : Option ℕ) → slots ≤ counter + 1
      → stmt_formed fs number slots (calls mask k args result) ≡ true → HasStmtConstants (calls mask k args result)
      → stmt_least tops (calls mask k args result) ≤ homes.first
      → stmt_hinders homes.flags (calls mask k args result) ≡ false
      → AreAbove (stmt_spared spared (calls mask k args result)) homes.flags
      → Runs homes f g frame counter slots low (calls mask k args result)

fewer_kept : {count more : ℕ} {m t : Run} (homes : Homes) → count ≤ more
    → KeepsAfter (homes.first + count) (stack_word homes.first count) m t
    → KeepsAfter (homes.first + more) (stack_word homes.first more) m t
fewer_kept homes le k = record {
  st = k.st;
  stack = λ a above. k.stack a (omega (arith, above, le));
  high = λ r from lt.
      k.high r (omega (arith, from, le)) lt;
}

write_run : (homes : Homes) (f : ℕ → List Step) (g : Serves) (frame counter slots low mask : ℕ) (target : PlainSpTarget)
    (e : PlainSp) → slots ≤ 128 → slots ≤ counter + 1 → mask < slots → target_formed slots target ≡ true
    → expr_formed slots e ≡ true → HasStmtConstants (writes mask target e) → stmt_least [] (writes mask target e)
    ≤ homes.first → target_hinders homes.flags target ≡ false
    → Runs homes f g frame counter slots low (writes mask target e)
write_run homes f g frame counter slots low mask (to_slot slot) e most fits masked placed formed constants least stand s
    m enough x = slot_done homes f frame counter slots mask slot e s m most fits masked (ltb-true slot slots placed)
    formed constants.1 (omega (arith, least)) (is_none_off (flag_of homes.flags slot) stand) x
write_run homes f g frame counter slots low mask (to_cell cell) e most fits masked placed formed constants least stand s
    m enough x = cell_done homes f frame counter slots mask cell e s m most masked placed formed constants.1
    (omega (arith, least)) x
write_run homes f g frame counter slots low mask (to_array array index) e most fits masked placed formed constants least
    stand s m enough x =
    let parts = and_parts (array_formed array) (expr_formed slots index) placed in
    element_done homes f frame counter slots mask array index e s m most masked parts.0 parts.1 constants.0 formed
    constants.1 (omega (arith, least)) (omega (arith, least)) x

mutual
  pub stmt_runs : (homes : Homes) (tops spared : List ℕ) (f : ℕ → List Step) (g : Serves) (fs : List PlainFunction)
      (number frame slots counter low : ℕ) → CallsRun homes tops spared f g fs number frame slots low → slots ≤ 128
      → counter < 128
      → (t : PlainStmt) → slots + stmt_levels t ≤ counter + 1 → stmt_formed fs number slots t ≡ true
      → HasStmtConstants t → stmt_least tops t ≤ homes.first → stmt_hinders homes.flags t ≡ false
      → AreAbove (stmt_spared spared t) homes.flags → Runs homes f g frame counter slots low t
  stmt_runs homes tops spared f g fs number frame slots counter low others most few (masks slot e) levels formed
      constants least stand above s m enough x =
      let parts = and_parts (nat_lt slot slots) (expr_formed slots e) formed in
      mask_done homes f frame counter slots slot e s m most (omega (arith, levels)) (ltb-true slot slots parts.0)
      parts.1 constants least stand x
  stmt_runs homes tops spared f g fs number frame slots counter low others most few (writes mask target e) levels formed
      constants least stand above s m enough x =
      let parts = and_parts (nat_lt mask slots) (target_formed slots target && expr_formed slots e) formed in
      let targets = and_parts (target_formed slots target) (expr_formed slots e) parts.1 in
      write_run homes f g frame counter slots low mask target e most (omega (arith, levels))
      (ltb-true mask slots parts.0) targets.0 targets.1 constants least stand s m enough x
  stmt_runs homes tops spared f g fs number frame slots counter low others most few (calls mask k args result) levels
      formed constants least stand above s m enough x = others.calls counter mask k args result (omega (arith, levels))
      formed constants least stand above s m enough x
  stmt_runs homes tops spared f g fs number frame slots counter low others most few
      (transfers mask core source target count) levels formed constants least stand above s m enough x =
      let parts = and_parts (nat_lt mask slots) (send_formed slots core source target count) formed in
      let send = and_parts (nat_lt core 16)
      (expr_formed slots source && (expr_formed slots target && expr_formed slots count)) parts.1 in
      let first = and_parts (expr_formed slots source) (expr_formed slots target && expr_formed slots count) send.1 in
      let rest = and_parts (expr_formed slots target) (expr_formed slots count) first.1 in
      send_done homes f frame counter slots mask core source target count s m most (ltb-true mask slots parts.0)
      (ltb-true core 16 send.0) first.0 rest.0 rest.1 constants.0 constants.1 constants.2 (omega (arith, least))
      (omega (arith, least)) (omega (arith, least)) (omega (arith, least)) x
  stmt_runs homes tops spared f g fs number frame slots counter low others most few (overruns mask e) levels formed
      constants least stand above s m enough x =
      let parts = and_parts (nat_lt mask slots) (expr_formed slots e) formed in
      overrun_is_done homes f frame counter slots mask e s m most (ltb-true mask slots parts.0) parts.1
      constants least x
  stmt_runs homes tops spared f g fs number frame slots counter low others most few (iterations count body) levels
      formed constants least stand above s m enough x =
      let parts = and_parts (nat_lt 0 count) (stmts_formed fs number slots body) formed in
      iterations_done homes f slots counter low count (stmts_code homes frame (counter - 1) body) (stmts_done g body) s
      m (omega (arith, least)) (omega (arith, levels)) few
      (λ z n more y. let d = stmts_run homes tops spared f g fs number frame slots (counter - 1) low others most
      (omega (arith, few)) body (omega (arith, levels)) parts.1 constants (omega (arith, least)) stand
      above z n more y in
      record { follows = d.follows; keeps = fewer_kept homes (omega (arith, levels)) d.keeps }) enough x

  pub stmts_run : (homes : Homes) (tops spared : List ℕ) (f : ℕ → List Step) (g : Serves) (fs : List PlainFunction)
      (number frame slots counter low : ℕ) → CallsRun homes tops spared f g fs number frame slots low → slots ≤ 128
      → counter < 128
      → (ts : PlainStmts) → slots + stmts_levels ts ≤ counter + 1 → stmts_formed fs number slots ts ≡ true
      → HasStmtsConstants ts → stmts_least tops ts ≤ homes.first → stmts_hinder homes.flags ts ≡ false
      → AreAbove (stmts_spared spared ts) homes.flags
      → (s : State) (m : Run) → low ≤ m.st → Follows homes slots s m
      → Done homes slots (counter + 1) (stmts_done g ts s) m (run by_words
      (parts_trail f (stmts_code homes frame counter ts)) m)
  stmts_run homes tops spared f g fs number frame slots counter low others most few no_stmt levels formed constants
      least stand above s m enough x = record {
        follows = x;
        keeps = kept_all (homes.first + (counter + 1))
            (stack_word homes.first (counter + 1)) m;
      }
  stmts_run homes tops spared f g fs number frame slots counter low others most few (stmt t rest) levels formed
      constants least stand above s m enough x =
      let parts = and_parts (stmt_formed fs number slots t) (stmts_formed fs number slots rest) formed in
      let stands = or_parts (stmt_hinders homes.flags t) (stmts_hinder homes.flags rest) stand in
      let d = stmt_runs homes tops spared f g fs number frame slots counter low others most few t
      (omega (arith, levels)) parts.0 constants.0 (omega (arith, least)) stands.0
      (above_fewer homes.flags (stmt_spared spared t) (omega arith) above) s m enough x in
      let n = run by_words (parts_trail f (stmt_code homes frame counter t)) m in
      let e = stmts_run homes tops spared f g fs number frame slots counter low others most few rest
      (omega (arith, levels)) parts.1 constants.1 (omega (arith, least)) stands.1
      (above_fewer homes.flags (stmts_spared spared rest) (omega arith) above) (stmt_done g t s) n
      (subst (λ st. low ≤ st) (sym d.keeps.st) enough) d.follows in
      subst (Done homes slots (counter + 1) (stmts_done g rest (stmt_done g t s)) m)
      (sym (run_joined by_words f (stmt_code homes frame counter t) (stmts_code homes frame counter rest) m))
      (done_then d.keeps e)
