-- The loops of functions make all their iterations, and each function returns to the place that was set when it began.
use Rattle.std.proofs.Common.{true≢false, ◌≡◌, ℕ, zero, suc, ◌+◌, ◌*◌, ◌<◌, ◌≤◌, ◌==◌, ◌⊎◌, inl, inr, Bool, true, false, if◌then◌else◌, List, [], ◌∷◌, ◌++◌, length, slice_index_or, refl, sym, ap, ◌∙◌, subst, arith}
use Rattle.std.specs.Bool.{MatchBool}
use Rattle.std.proofs.lemmas.Bool.{cases_lt, and_parts, eqb-false}
use Rattle.shared_order.specs.Words.{put}
use Rattle.patmos_instr.specs.declared.instructions.Op.TheVariants.{FromSpecial, ToSpecial}
use Rattle.patmos_instr.specs.declared.specials.Special.{Special}
use Rattle.patmos_instr.specs.declared.specials.Special.TheVariants as special
use Rattle.patmos_instr.specs.declared.specials.WritableSpecial.TheVariants as writable
use Rattle.patmos_sem.specs.Effects.{special_in}
use Rattle.sp_tree.specs.Formed.{slots_of, function_formed, functions_formed, is_formed}
use Rattle.patmos_instr.specs.Bundles.{PlainBundle}
use Rattle.sp_tree.specs.Statements.{PlainStmt, calls, iterations, PlainStmts, no_stmt, stmt, PlainFunction, no_function, PlainUnit}
use Rattle.sp_shape.proofs.Whole.{once_whole, run_append, run_whole}
use Rattle.sp_shape.specs.Memory.{Memory}
use Rattle.sp_shape.specs.Parts.{no_part, joined}
use Rattle.sp_shape.specs.Run.{Run, Sources, Back, returns, once, run, at_begin, IsWhole}
use Rattle.sp_shape.specs.Trail.{Step, all_done}
use Rattle.sp_shape.specs.Iterating.{Returns, PartsIteration, back_of, FunctionsIteration, ShapeIterations}
use Rattle.sp_shape.proofs.Lists.{done_append}
use Rattle.sp_emit.specs.Functions.{codes}
use Rattle.sp_emit.specs.Flags.{begun_body}
use Rattle.sp_emit.specs.Places.{words_cleared, tops}
use Rattle.sp_emit.proofs.Codes.{codes_at, codes_length, taken_is, words_few, code_of}
use Rattle.sp_tree.proofs.Forms.{FunctionParts}
use Rattle.sp_emit.specs.Counts.{HasStmtsCounts, HasCounts}
use Rattle.sp_emit.specs.Functions.{arguments_kept, mask_kept, state_kept, place_stored, place_loaded, result_given, frame_words, frame_taken, base_slot, offset_slot, first_counter, function_begin, function_end, function_rest, body_code, function_code, places_of, return_tail, emitted}
use Rattle.sp_emit.specs.Holding.{held}
use Rattle.sp_emit.specs.Instructions.{always, idle, return, from_special, to_special, load_slot, store_slot}
use Rattle.sp_emit.specs.declared.registers.TheConstants.{SPARE, OVERRUN}
use Rattle.sp_emit.proofs.Asking.{same_ways}
use Rattle.sp_emit.proofs.Frames.{put_same, put_other}
use Rattle.sp_emit.specs.Chains.{stmt_calls, stmts_call}
use Rattle.sp_emit.proofs.Homing.{SameBack, back_then, homing, homing_wide, done_back, parts_back}
use Rattle.sp_emit.proofs.Around.{cleared_in, arguments_in, masked_in, result_in, wide_begins, wide_gives}
use Rattle.sp_emit.proofs.Effects.{AreIn, none}
use Rattle.sp_emit.proofs.Walks.{StmtFlows, StmtsFlow, wide_within, body_in}
use Rattle.sp_emit.proofs.Windows.{InWindow, own_window, unit_parts}
use Rattle.sp_emit.proofs.Leaving.{slot_leaves}
use Rattle.sp_emit.proofs.LoopIterations.{Callees, iterations_joined, body_iterations}
use Rattle.sp_emit.proofs.Once.{did_write, got}
use Rattle.sp_emit.proofs.Passed.{taken, cleared, entered, worked, enters_frame, works_in_frame, all_pass}
use Rattle.sp_emit.proofs.BegunBody.{neither, begun_uncalled, begun_counts}
use Rattle.sp_emit.proofs.Passing.{AllPass, Ready, passes_done}
use Rattle.sp_emit.proofs.Returning.{did_return}
use Rattle.sp_emit.proofs.Serves.{begin_run}
use Rattle.sp_emit.proofs.Storing.{did_store_slot}
use Rattle.sp_emit.specs.declared.stands.Homes.{Homes}

-- ---- the place is kept in the frame

-- two words of the frame hold the place to which a function returns
record Holds (base offset : ℕ) (back : Back) (m : Run) : Type 0 where
  base_is : m.stack (m.st + base) ≡ back.base
  offset_is : m.stack (m.st + offset) ≡ back.offset

-- a special register goes to a word of the frame
pub special_stored : (from : Sources) (s : Special) (slot : ℕ) (m : Run) → IsWhole m → slot < 128
    → (run from (all_done (from_special SPARE s ∷ store_slot always slot SPARE ∷ [])) m).stack
    ≡ put (m.st + slot) (special_in m.st m.ss m.regs s) m.stack
special_stored from s slot m whole few =
    let v = special_in m.st m.ss m.regs s in
    let n = once from (from_special SPARE s) m in
    let h = once_whole from (from_special SPARE s) m whole in
    let did = did_write from always (FromSpecial SPARE s) m whole whole.fits.always refl refl in
    ap (λ t. t.stack) (did_store_slot from always slot SPARE n h h.fits.always few)
    ∙ ap (λ t. put (t.st + slot) (held SPARE t) t.stack) did
    ∙ ap (λ x. put (m.st + slot) x m.stack) (got SPARE v m whole (omega arith) (omega arith))

state_run : (homes : Homes) (from : Sources) (f : PlainFunction) (bs : List PlainBundle) (t : Run)
    → run from (all_done (mask_kept homes f ++ bs)) t
    ≡ run from (all_done bs) (run from (all_done (mask_kept homes f)) t)
state_run homes from f bs t = ap (λ steps. run from steps t) (done_append (mask_kept homes f) bs)
    ∙ run_append from (all_done (mask_kept homes f)) (all_done bs) t

-- until it is kept, it stays set
masked_back : (homes : Homes) (from : Sources) {fs : List PlainFunction} {number : ℕ} (f : PlainFunction) (m : Run)
    → FunctionParts fs number f
    → SameBack m (run from (all_done (mask_kept homes f)) (run from (all_done (arguments_kept homes.first f.parameters))
    (run from (all_done (words_cleared homes (slots_of f))) (run from (all_done (frame_taken homes.first f)) m))))
masked_back homes from f m p =
    let t0 = run from (all_done (frame_taken homes.first f)) m in
    let tc = run from (all_done (words_cleared homes (slots_of f))) t0 in
    let b = wide_begins homing_wide homes f (λ slot p is. refl) in
    back_then (back_then (back_then (done_back from (frame_taken homes.first f) m
    (taken_is (AreIn homing) (frame_words homes.first f) refl refl))
    (done_back from (words_cleared homes (slots_of f)) t0 (cleared_in b)))
    (done_back from (arguments_kept homes.first f.parameters) tc
    (arguments_in b f.parameters (omega (arith, p.before_mask, p.mask)))))
    (done_back from (mask_kept homes f) (run from (all_done (arguments_kept homes.first f.parameters)) tc)
    (masked_in b p.mask))

entered_home : (homes : Homes) (from : Sources) (fs : List PlainFunction) (number : ℕ) (f : PlainFunction) (m : Run)
    → stmts_call f.body ≡ true → FunctionParts fs number f → IsWhole m
    → Holds (base_slot homes.first f) (offset_slot homes.first f) (back_of m) (entered homes from f m)
unfolding entered cleared taken
entered_home homes from fs number f m has p whole =
    let t0 = run from (all_done (frame_taken homes.first f)) m in
    let tc = run from (all_done (words_cleared homes (slots_of f))) t0 in
    let t1 = run from (all_done (arguments_kept homes.first f.parameters)) tc in
    let n2 = run from (all_done (mask_kept homes f)) t1 in
    let h2 = run_whole from (all_done (mask_kept homes f)) t1
    (run_whole from (all_done (arguments_kept homes.first f.parameters)) tc
    (run_whole from (all_done (words_cleared homes (slots_of f))) t0
    (run_whole from (all_done (frame_taken homes.first f)) m whole))) in
    let b2 = masked_back homes from f m p in
    let base = from_special SPARE special.Srb ∷ store_slot always (base_slot homes.first f) SPARE ∷ [] in
    let n4 = run from (all_done base) n2 in
    let p4 = kept_word from (base_slot homes.first f) special.Srb n2 h2 (omega (arith, p.frame, p.room)) in
    let offset = from_special SPARE special.Sro ∷ store_slot always (offset_slot homes.first f) SPARE ∷ [] in
    let n6 = run from (all_done offset) n4 in
    let h4 = run_whole from (all_done base) n2 h2 in
    let p6 = kept_word from (offset_slot homes.first f) special.Sro n4 h4 (omega (arith, p.frame, p.room)) in
    let b4 = back_then b2 (done_back from base n2 refl) in
    let s4 = special_stored from special.Srb (base_slot homes.first f) n2 h2 (omega (arith, p.frame, p.room)) in
    let s6 = special_stored from special.Sro (offset_slot homes.first f) n4 h4 (omega (arith, p.frame, p.room)) in
    subst (λ b. Holds (base_slot homes.first f) (offset_slot homes.first f) (back_of m)
    (run from (all_done (mask_kept homes f ++ (if b then place_stored homes.first f else []))) t1)) (sym has)
    (subst (Holds (base_slot homes.first f) (offset_slot homes.first f) (back_of m))
    (sym (state_run homes from f (place_stored homes.first f) t1)) (record {
      base_is = ap (λ st. n6.stack (st + base_slot homes.first f)) p6 ∙ ap (λ s. s (n4.st + base_slot homes.first f)) s6
          ∙ put_other (n4.st + offset_slot homes.first f) (n4.st + base_slot homes.first f) n4.regs.sro n4.stack
          (λ same. omega (arith, same, p.room))
          ∙ ap (λ st. n4.stack (st + base_slot homes.first f)) p4 ∙ ap (λ s. s (n2.st + base_slot homes.first f)) s4
          ∙ put_same (n2.st + base_slot homes.first f) n2.regs.srb n2.stack ∙ b2.base;
      offset_is = ap (λ st. n6.stack (st + offset_slot homes.first f)) p6
          ∙ ap (λ s. s (n4.st + offset_slot homes.first f)) s6
          ∙ put_same (n4.st + offset_slot homes.first f) n4.regs.sro n4.stack ∙ b4.offset;
    }))
  where
    kept_word : (from : Sources) (slot : ℕ) (s : Special) (n : Run) → IsWhole n → slot < 128
        → (run from (all_done (from_special SPARE s ∷ store_slot always slot SPARE ∷ [])) n).st ≡ n.st
    kept_word from slot s n whole few =
        let t = once from (from_special SPARE s) n in
        let h = once_whole from (from_special SPARE s) n whole in
        ap (λ t. t.st) (did_store_slot from always slot SPARE t h h.fits.always few)
        ∙ ap (λ t. t.st) (did_write from always (FromSpecial SPARE s) n whole whole.fits.always refl refl)

worked_home : (homes : Homes) (from : Sources) (code : ℕ → List Step) (tops : List ℕ) (fs : List PlainFunction)
    (number low : ℕ) (f : PlainFunction) (m : Run) → stmts_call f.body ≡ true → InWindow homes tops fs number f
    → AllPass from code tops number low → Ready (low + 128) m
    → Holds (base_slot homes.first f) (offset_slot homes.first f) (back_of m) (worked homes from code f m)
worked_home homes from code tops fs number low f m has window others ready =
    let p = window.parts in
    let e = entered homes from f m in
    let w = worked homes from code f m in
    let h = entered_home homes from fs number f m has p ready.0 in
    let k = (works_in_frame homes from code tops fs number low f m window others ready).keeps in
    record {
      base_is = ap (λ st. w.stack (st + base_slot homes.first f)) k.st ∙ k.stack (e.st + base_slot homes.first f) (omega
          (arith, p.room, p.mask)) ∙ h.base_is;
      offset_is = ap (λ st. w.stack (st + offset_slot homes.first f)) k.st ∙ k.stack (e.st + offset_slot homes.first f)
          (omega (arith, p.room, p.mask)) ∙ h.offset_is;
    }

-- ---- and comes back from there

-- the place that is set where a function returns
record Home (back : Back) (t : Run) : Type 0 where
  whole : IsWhole t
  base : t.regs.srb ≡ back.base
  offset : t.regs.sro ≡ back.offset

given_back : (homes : ℕ) (f : PlainFunction) → AreIn homing (result_given homes f)
given_back homes f = result_in (wide_gives homing_wide homes f) refl

brings_home : (homes : Homes) (from : Sources) (f : PlainFunction) (back : Back) (m : Run) → stmts_call f.body ≡ true
    → from.stack ≡ true → base_slot homes.first f < 128 → offset_slot homes.first f < 128 → IsWhole m
    → Holds (base_slot homes.first f) (offset_slot homes.first f) back m
    → Home back (run from (all_done (function_end homes.first f)) m)
brings_home homes from f back m has told few_base few_offset whole h =
    let e1 = once from (load_slot SPARE (base_slot homes.first f)) m in
    let h1 = once_whole from (load_slot SPARE (base_slot homes.first f)) m whole in
    let e2 = once from (to_special writable.Srb SPARE) e1 in
    let h2 = once_whole from (to_special writable.Srb SPARE) e1 h1 in
    let did2 = did_write from always (ToSpecial writable.Srb SPARE) e1 h1 h1.fits.always refl refl in
    let k = (passes_done from OVERRUN 0 (load_slot SPARE (base_slot homes.first f) ∷ to_special writable.Srb SPARE ∷ [])
    m (omega arith) whole refl).keeps in
    let e3 = once from (load_slot SPARE (offset_slot homes.first f)) e2 in
    let h3 = once_whole from (load_slot SPARE (offset_slot homes.first f)) e2 h2 in
    let e4 = once from (to_special writable.Sro SPARE) e3 in
    let did4 = did_write from always (ToSpecial writable.Sro SPARE) e3 h3 h3.fits.always refl refl in
    let b3 = done_back from (load_slot SPARE (offset_slot homes.first f) ∷ []) e2 refl in
    let b7 = done_back from (result_given homes.first f) e4 (given_back homes.first f) in
    subst (λ b. Home back
    (run from (all_done ((if b then place_loaded homes.first f else []) ++ result_given homes.first f)) m))
    (sym has) (record {
      whole = run_whole from (all_done (place_loaded homes.first f ++ result_given homes.first f)) m whole;
      base = b7.base ∙ ap (λ t. t.regs.srb) did4 ∙ b3.base ∙ ap (λ t. t.regs.srb) did2
          ∙ slot_leaves from SPARE (base_slot homes.first f) m told whole (omega arith) (omega arith) few_base
          ∙ h.base_is;
      offset = b7.offset ∙ ap (λ t. t.regs.sro) did4 ∙ slot_leaves from SPARE (offset_slot homes.first f) e2 told h2
          (omega arith) (omega arith) few_offset
          ∙ ap (λ st. e2.stack (st + offset_slot homes.first f)) k.st ∙ k.stack (m.st + offset_slot homes.first f)
          (omega arith) ∙ h.offset_is;
    })

-- ---- or it stays set, where no function is called

mutual
  stmt_uncalled : (t : PlainStmt) → stmt_calls t ≡ false → StmtFlows (λ k. ⊥) (λ count. Unit {0}) t
  stmt_uncalled (calls mask k args result) uncalled = absurd (true≢false uncalled)
  stmt_uncalled (iterations count body) uncalled = (tt, stmts_uncalled body uncalled)
  stmt_uncalled _ uncalled = tt

  stmts_uncalled : (ts : PlainStmts) → stmts_call ts ≡ false → StmtsFlow (λ k. ⊥) (λ count. Unit {0}) ts
  stmts_uncalled no_stmt uncalled = tt
  stmts_uncalled (stmt t rest) uncalled =
      let each = neither (stmt_calls t) (stmts_call rest) uncalled in
      (stmt_uncalled t each.0, stmts_uncalled rest each.1)

worked_back : {homes : Homes} {tops : List ℕ} (from : Sources) (code : ℕ → List Step) (fs : List PlainFunction)
    (number : ℕ) (f : PlainFunction) (m : Run) → stmts_call f.body ≡ false → InWindow homes tops fs number f
    → SameBack m (worked homes from code f m)
unfolding worked entered cleared taken
worked_back {homes} {tops} from code fs number f m uncalled w =
    let body = body_code homes f in
    let t1 = run from (all_done (arguments_kept homes.first f.parameters))
    (run from (all_done (words_cleared homes (slots_of f))) (run from (all_done (frame_taken homes.first f)) m)) in
    let entered_back =
    subst (λ b. SameBack m
    (run from (all_done (mask_kept homes f ++ (if b then place_stored homes.first f else []))) t1)) (sym uncalled)
    (subst (SameBack m) (sym (state_run homes from f [] t1)) (masked_back homes from f m w.parts)) in
    back_then entered_back (parts_back from code body (body_in (record {
      branches = refl;
      calls = refl;
      brings = λ count. refl;
    }) refl refl none w (wide_within homing_wide homes (first_counter f) (λ slot p is. refl))
    (λ k earlier window called. absurd called) (stmts_uncalled (begun_body homes.flags f)
    (begun_uncalled homes.flags f uncalled))) (run from (all_done (state_kept homes f)) t1))

stays_home : (homes : Homes) (from : Sources) (f : PlainFunction) (m w : Run) → stmts_call f.body ≡ false → IsWhole w
    → SameBack m w → Home (back_of m) (run from (all_done (function_end homes.first f)) w)
stays_home homes from f m w none whole x =
    let y = back_then x (done_back from (function_end homes.first f) w
    (subst (λ b. AreIn homing ((if b then place_loaded homes.first f else []) ++ result_given homes.first f))
    (sym none) (given_back homes.first f))) in
    record { whole = run_whole from (all_done (function_end homes.first f)) w whole; base = y.base; offset = y.offset }

asks_home : (from : Sources) (back : Back) (t : Run) → Home back t → Returns (run from) return_tail back t
asks_home from back t h =
    same_ways from (idle ∷ idle ∷ idle ∷ []) (once from return t) refl ∙ ap (λ n. n.ways) (did_return from t h.whole)
    ∙ ap (λ b. t.ways ++ returns b t.regs.sro ∷ []) h.base ∙ ap (λ o. t.ways ++ returns back.base o ∷ []) h.offset

-- ---- functions

begin_entered : (homes : Homes) (from : Sources) (f : PlainFunction) (m : Run)
    → run from (all_done (function_begin homes f)) m ≡ entered homes from f m
unfolding entered cleared taken
begin_entered homes from f m = begin_run homes from f m

comes_home : (homes : Homes) (from : Sources) (code : ℕ → List Step) (tops : List ℕ) (fs : List PlainFunction)
    (number low : ℕ) (f : PlainFunction) (m : Run) → from.stack ≡ true → InWindow homes tops fs number f
    → AllPass from code tops number low → Ready (low + 128) m
    → (b : Bool) → stmts_call f.body ≡ b → Home (back_of m) (run from (all_done (function_end homes.first f))
    (worked homes from code f m))
comes_home homes from code tops fs number low f m told window others ready true has =
    let p = window.parts in
    brings_home homes from f (back_of m) (worked homes from code f m) has told (omega (arith, p.frame, p.room))
    (omega (arith, p.frame, p.room)) (works_in_frame homes from code tops fs number low f m window others
    ready).whole
    (worked_home homes from code tops fs number low f m has window others ready)
comes_home homes from code tops fs number low f m told window others ready false none =
    stays_home homes from f m (worked homes from code f m) none (works_in_frame homes from code tops fs number low f m
    window others ready).whole (worked_back from code fs number f m none window)

function_iterations : (homes : Homes) (from : Sources) (code : ℕ → List Step) (Called : ℕ → Run → Type 0)
    (tops : List ℕ) (fs : List PlainFunction) (number low : ℕ) (f : PlainFunction) → from.stack ≡ true
    → InWindow homes tops fs number f → HasStmtsCounts f.body → Callees from code Called tops number low
    → (m : Run) → Ready (low + 128) m → PartsIteration (run from) code Called (back_of m)
    (function_code homes f) m
unfolding worked
function_iterations homes from code Called tops fs number low f told window counts callees m ready =
    let p = window.parts in
    let e = enters_frame homes from fs number f m window.homed.own p ready.0 (omega (arith, ready.1, p.frame)) in
    let few = words_few homes.first f (omega (arith, p.room)) in
    let body = body_code homes f in
    let w = worked homes from code f m in
    let home = comes_home homes from code tops fs number low f m told window callees.passing ready
    (stmts_call f.body) refl in (
      tt,
      subst (PartsIteration (run from) code Called (back_of m) (joined body (function_rest homes.first f)))
          (sym (begin_entered homes from f m))
          (iterations_joined from code Called (back_of m) body (function_rest homes.first f) (entered homes from f m)
          (body_iterations window from code Called (back_of m) low told callees (begun_counts homes.flags f counts)
          (entered homes from f m) (e.whole, omega (arith, e.st, few, ready.1, p.frame)))
          (tt, (asks_home from (back_of m) (run from (all_done (function_end homes.first f)) w) home, tt))),
    )

-- ---- all of them, in order

functions_iteration : (from : Sources) (fs : List PlainFunction) → from.stack ≡ true → HasCounts fs → (n : ℕ)
    → n ≤ length fs → functions_formed fs n ≡ true → (k : ℕ) → k < n → (m : Run) → Ready (n * 128) m
    → FunctionsIteration (run from) (codes fs) n k m
functions_iteration from fs told counts zero within formed k less m ready = tt
functions_iteration from fs told counts (suc n) within formed k less m ready =
    let parts = and_parts (functions_formed fs n) (function_formed fs n (slice_index_or fs n no_function)) formed in
    by parts.0 parts.1 (record {
      passing = all_pass from fs n (omega (arith, within)) parts.0;
      iterating = functions_iteration from fs told counts n (omega (arith, within)) parts.0;
    }) (k == n) refl
  where
    by : functions_formed fs n ≡ true → function_formed fs n (slice_index_or fs n no_function) ≡ true
        → Callees from (code_of fs n) (FunctionsIteration (run from) (codes fs) n) (tops fs n) n (n * 128)
        → (b : Bool) → (k == n) ≡ b
        → MatchBool b (PartsIteration (run from) (code_of fs n) (FunctionsIteration (run from) (codes fs) n) (back_of m)
        (slice_index_or (codes fs) n no_part) m) (FunctionsIteration (run from) (codes fs) n k m)
    by before own callees true is =
        subst (λ c. PartsIteration (run from) (code_of fs n) (FunctionsIteration (run from) (codes fs) n)
        (back_of m) c m) (sym (codes_at fs n (omega (arith, within))))
        (function_iterations (places_of fs n) from (code_of fs n) (FunctionsIteration (run from) (codes fs) n)
        (tops fs n) fs n (n * 128) (slice_index_or fs n no_function) told (own_window fs n before own)
        (counts n) callees m (ready.0, omega (arith, ready.1)))
    by before own callees false other = callees.iterating k (earlier (cases_lt k n)) m (ready.0, omega (arith, ready.1))
      where
        earlier : (k < n) ⊎ (n ≤ k) → k < n
        earlier (inl lt) = lt
        earlier (inr ge) = absurd (eqb-false k n other (omega (arith, ge, less)))

pub task_iterations : (u : PlainUnit) (from : Sources) (memory : Memory) (loads : List ℕ) (backs : List Back)
    → from.stack ≡ true → is_formed u ≡ true → HasCounts u.functions
    → ShapeIterations (run from) (emitted u) (at_begin memory loads backs)
task_iterations u from memory loads backs told formed counts =
    let p = unit_parts u formed in
    let begin = at_begin memory loads backs in
    subst (λ n. FunctionsIteration (run from) (codes u.functions) n u.entry begin) (sym (codes_length u.functions))
    (functions_iteration from u.functions told counts (length u.functions) (omega arith) p.functions u.entry
    p.entry begin (
      record { fits = record { count = refl; pred_count = refl; zero = refl; always = refl }; pending = refl },
      omega (arith, p.few),
    ))
