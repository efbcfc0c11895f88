-- Functions stay within the stack, where the frames on a chain of calls leave room for it.
use Rattle.std.proofs.Common.{◌≡◌, ℕ, zero, suc, ◌+◌, ◌<◌, ◌≤◌, ◌==◌, ◌⊎◌, inl, inr, Bool, true, false, if◌then◌else◌, List, length, slice_index_or, refl, sym, ap, ◌∙◌, subst, arith}
use Rattle.std.proofs.lemmas.Bool.{cases_lt, and_parts, lt-ltb, eqb-false}
use Rattle.patmos_instr.specs.declared.functions.StackFunc.TheVariants.{Sres, Sfree}
use Rattle.patmos_sem.specs.declared.effects.Effect.TheVariants as effect
use Rattle.sp_tree.specs.Formed.{slots_of, function_formed, functions_formed, is_formed}
use Rattle.sp_tree.specs.Statements.{PlainFunction, no_function, PlainUnit}
use Rattle.sp_shape.specs.Memory.{Memory}
use Rattle.sp_shape.specs.Parts.{no_part}
use Rattle.sp_shape.specs.Pointers.{pointers_of, AreWithinStack}
use Rattle.sp_shape.specs.Run.{Run, IsWhole, Back, Sources, run, at_begin}
use Rattle.sp_shape.specs.Trail.{Step, all_done, parts_trail, trails, trail}
use Rattle.sp_emit.specs.Functions.{codes}
use Rattle.sp_emit.specs.Places.{stack_word, words_cleared}
use Rattle.sp_emit.proofs.Codes.{codes_at, codes_length, words_few, words_called, words_outside, code_of}
use Rattle.sp_emit.proofs.BegunBody.{begun_chain}
use Rattle.sp_emit.specs.Chains.{stmts_call, stmts_chain, chains}
use Rattle.sp_emit.specs.Functions.{arguments_kept, state_kept, words_taken, words_freed, frame_words, frame_taken, frame_freed, base_slot, offset_slot, body_code, function_code, places_of, return_tail, emitted}
use Rattle.sp_emit.proofs.Arguments.{did_stack}
use Rattle.sp_emit.proofs.Passed.{end_run}
use Rattle.sp_emit.proofs.Around.{Begins, cleared_in, arguments_in, state_in, Ends, given_back, back_in}
use Rattle.sp_emit.proofs.Pointing.{Points, points_then, points_none, points_one, inside, Framed, Stays, inside_done}
use Rattle.sp_emit.proofs.Serves.{function_run}
use Rattle.sp_emit.specs.Places.{tops}
use Rattle.sp_emit.proofs.Windows.{InWindow, own_window, unit_parts}
use Rattle.sp_emit.proofs.WithinFrames.{GivesBack, CalleesStay, body_stays}
use Rattle.sp_emit.specs.declared.stands.Homes.{Homes}
use Rattle.sp_emit.proofs.WordPlaces.{Outside}

-- ---- before and after the body

begins_inside : (homes : Homes) (frame : ℕ) (f : PlainFunction) → Outside homes.first (slots_of f) frame
    → (stmts_call f.body ≡ true → base_slot homes.first f + 2 ≤ frame) → Begins (inside frame) homes f
begins_inside homes frame f out room = record {
  mask = refl;
  named = λ slot p is. refl;
  here = λ slot lt. refl;
  stores = λ slot lt there. lt-ltb (stack_word homes.first slot) frame (out slot lt there);
  base = λ has. lt-ltb (base_slot homes.first f) frame (omega (arith, room has));
  offset = λ has. lt-ltb (offset_slot homes.first f) frame (omega (arith, room has));
}

ends_inside : (homes frame : ℕ) (f : PlainFunction) → f.result < slots_of f → Outside homes (slots_of f) frame
    → (stmts_call f.body ≡ true → base_slot homes f + 2 ≤ frame) → Ends (inside frame) homes f
ends_inside homes frame f result out room = record {
  gives = record {
    mask = refl;
    result = refl;
    reads = λ there. lt-ltb (stack_word homes f.result) frame (out f.result result there);
  };
  place = λ has. refl;
  base = λ has. lt-ltb (base_slot homes f) frame (omega (arith, room has));
  offset = λ has. lt-ltb (offset_slot homes f) frame (omega (arith, room has));
}

-- ---- functions

-- a frame is taken, and all that is asked for until then and from then on lies within the stack
record Entered (frame : ℕ) (m t : Run) : Type 0 where
  stays : Framed frame t
  points : Points m t
  st : t.st + frame ≡ m.st

entered_then : {frame : ℕ} {m n t : Run} → Entered frame m n → Stays frame n t → Entered frame m t
entered_then a b = record { stays = b.framed; points = points_then a.points b.points; st = omega (arith, a.st, b.st) }

takes : (from : Sources) (frame : ℕ) (m : Run) → IsWhole m → frame ≤ 128 → m.st ≤ 65536 → m.st ≤ m.ss → 49152 + frame
    ≤ m.st → Entered frame m (run from (all_done (words_taken frame)) m)
takes from zero m whole few high held enough = record {
  stays = record { whole = whole; few = omega arith; high = omega (arith, high); held = omega (arith, held) };
  points = points_none m m refl refl;
  st = omega arith;
}
takes from (suc n) m whole few high held enough =
    subst (Entered (suc n) m) (sym (did_stack from Sres (suc n) m whole)) (record {
      stays = record {
        whole = record { fits = whole.fits; pending = whole.pending };
        few = few;
        high = omega (arith, high, enough);
        held = omega (arith, held, few, enough);
      };
      points = points_one (effect.StackOp Sres (suc n)) m _ refl (few, enough) refl;
      st = omega (arith, enough);
    })

frees : (from : Sources) (frame : ℕ) (m n : Run) → Entered frame m n
    → GivesBack m (run from (all_done (words_freed frame)) n)
frees from zero m n x =
    record { points = x.points; whole = x.stays.whole; st = omega (arith, x.st); held = omega (arith, x.stays.held) }
frees from (suc k) m n x = subst (GivesBack m) (sym (did_stack from Sfree (suc k) n x.stays.whole)) (record {
  points = points_then x.points (points_one (effect.StackOp Sfree (suc k)) n _ refl (x.stays.few, x.stays.high) refl);
  whole = record { fits = x.stays.whole.fits; pending = x.stays.whole.pending };
  st = x.st;
  held = omega arith;
})

-- bundles after the frame that ask for nothing of the stack
gives_then : (from : Sources) (m n : Run) → GivesBack m n → m.st ≤ 65536
    → GivesBack m (run from (all_done return_tail) n)
gives_then from m n b high =
    let s = inside_done from 0 return_tail n (record {
      whole = b.whole;
      few = omega arith;
      high = omega (arith, b.st, high);
      held = omega (arith, b.held);
    }) refl in
    record {
      points = points_then b.points s.points;
      whole = s.framed.whole;
      st = s.st ∙ b.st;
      held = omega (arith, s.framed.held);
    }

function_stays : {homes : Homes} {tops : List ℕ} (from : Sources) (code : ℕ → List Step) (g : ℕ → ℕ)
    (fs : List PlainFunction) (number : ℕ) (f : PlainFunction) → InWindow homes tops fs number f
    → CalleesStay from code number g
    → (m : Run) → IsWhole m → m.st ≤ 65536 → m.st ≤ m.ss → 49152 + (f.frame + stmts_chain g f.body) ≤ m.st
    → GivesBack m (run from (parts_trail code (function_code homes f)) m)
function_stays {homes} from code g fs number f w callees m whole high held enough =
    let p = w.parts in
    let n = frame_words homes.first f in
    let few = words_few homes.first f (omega (arith, p.room)) in
    let out = words_outside homes.first f (omega (arith, p.room)) in
    let calls : stmts_call f.body ≡ true → base_slot homes.first f + 2 ≤ n =
    λ has. let is = words_called homes.first f has in omega (arith, is) in
    let t0 = run from (all_done (frame_taken homes.first f)) m in
    let x0 = takes from n m whole (omega (arith, few, p.frame)) high held (omega (arith, few, enough)) in
    let b = begins_inside homes n f out calls in
    let c = inside_done from n (words_cleared homes (slots_of f)) t0 x0.stays (cleared_in b) in
    let xc = entered_then x0 c in
    let tc = run from (all_done (words_cleared homes (slots_of f))) t0 in
    let x1 = entered_then xc (inside_done from n (arguments_kept homes.first f.parameters) tc xc.stays
    (arguments_in b f.parameters (omega (arith, p.before_mask, p.mask)))) in
    let t1 = run from (all_done (arguments_kept homes.first f.parameters)) tc in
    let x2 = entered_then x1 (inside_done from n (state_kept homes f) t1 x1.stays (state_in b p.mask)) in
    let t2 = run from (all_done (state_kept homes f)) t1 in
    let chain = begun_chain homes.flags g f in
    let x3 = entered_then x2 (body_stays w from code g callees t2 x2.stays
    (omega (arith, chain, x2.st, few, enough))) in
    let t3 = run from (parts_trail code (body_code homes f)) t2 in
    let x4 = entered_then x3 (inside_done from n (given_back homes.first f) t3 x3.stays
    (back_in (ends_inside homes.first n f p.result out calls))) in
    let t4 = run from (all_done (given_back homes.first f)) t3 in
    subst (GivesBack m)
    (sym (function_run homes from code f m ∙ ap (run from (all_done return_tail)) (end_run homes.first from f t3)))
    (gives_then from m (run from (all_done (frame_freed homes.first f)) t4) (frees from n m t4 x4) high)

-- ---- all of them, in order

all_stay : (from : Sources) (fs : List PlainFunction) (n : ℕ) → n ≤ length fs → functions_formed fs n ≡ true
    → CalleesStay from (code_of fs n) n (chains fs n)
all_stay from fs zero within formed = record { called = λ k less. absurd (omega (arith, less)) }
all_stay from fs (suc n) within formed =
    let parts = and_parts (functions_formed fs n) (function_formed fs n (slice_index_or fs n no_function)) formed in
    record {
      called = λ k less m whole high held enough. by (own_window fs n parts.0 parts.1)
          (all_stay from fs n (omega (arith, within)) parts.0)
          k less m whole high held (k == n) refl enough;
    }
  where
    f : PlainFunction
    f = slice_index_or fs n no_function

    by : InWindow (places_of fs n) (tops fs n) fs n f → CalleesStay from (code_of fs n) n (chains fs n)
        → (k : ℕ) → k < suc n
        → (m : Run) → IsWhole m → m.st ≤ 65536 → m.st ≤ m.ss → (b : Bool) → (k == n) ≡ b
        → 49152 + (if b then f.frame + stmts_chain (chains fs n) f.body else chains fs n k) ≤ m.st
        → GivesBack m (run from (if b then parts_trail (code_of fs n) (slice_index_or (codes fs) n no_part) else
        code_of fs n k) m)
    by own before k less m whole high held true is enough =
        subst (λ c. GivesBack m (run from (parts_trail (code_of fs n) c) m))
        (sym (codes_at fs n (omega (arith, within))))
        (function_stays from (code_of fs n) (chains fs n) fs n f own before m whole high held enough)
    by own before k less m whole high held false other enough =
        before.called k (earlier (cases_lt k n)) m whole high held enough
      where
        earlier : (k < n) ⊎ (n ≤ k) → k < n
        earlier (inl lt) = lt
        earlier (inr ge) = absurd (eqb-false k n other (omega (arith, ge, less)))

pub task_stays : (u : PlainUnit) (from : Sources) (memory : Memory) (loads : List ℕ) (backs : List Back) → is_formed u
    ≡ true → 49152 + chains u.functions (length u.functions) u.entry ≤ 65536
    → AreWithinStack (run from (trail (emitted u)) (at_begin memory loads backs)).asked (pointers_of
    (at_begin memory loads backs))
task_stays u from memory loads backs formed few =
    let p = unit_parts u formed in
    let begin = at_begin memory loads backs in
    let g = (all_stay from u.functions (length u.functions) (omega arith) p.functions).called u.entry
    p.entry begin
    (record { fits = record { count = refl; pred_count = refl; zero = refl; always = refl }; pending = refl })
    (omega arith) (omega arith) (omega (arith, few)) in
    subst (λ n. AreWithinStack (run from (trails (codes u.functions) n u.entry) begin).asked (pointers_of begin))
    (sym (codes_length u.functions))
    (subst (λ l. AreWithinStack l (pointers_of begin)) (sym g.points.is) g.points.within)
