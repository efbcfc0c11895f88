-- Functions leave the whole stack as it was, and the registers after their windows, whatever their loads give.
use Rattle.std.specs.Prelude.{min}
use Rattle.std.proofs.Common.{◌≡◌, ℕ, zero, suc, ◌+◌, ◌-◌, ◌*◌, ◌<◌, ◌≤◌, true, List, ◌++◌, length, slice_index_or, refl, sym, ap, ◌∙◌, subst, arith}
use Rattle.std.proofs.lemmas.Bool.{lt-ltb}
use Rattle.patmos_instr.specs.declared.functions.StackFunc.TheVariants.{Sres, Sfree}
use Rattle.sp_tree.specs.Formed.{slots_of, functions_formed}
use Rattle.sp_tree.specs.Statements.{PlainFunction, no_function}
use Rattle.sp_shape.specs.Run.{Run, Sources, run, IsWhole}
use Rattle.sp_shape.specs.Trail.{Step, all_done, parts_trail}
use Rattle.sp_emit.specs.Functions.{arguments_kept, state_kept, result_given, frame_taken, frame_freed, base_slot, offset_slot, first_counter, function_end, body_code, function_code, places_of, return_tail, words_taken, words_freed, frame_words}
use Rattle.sp_emit.specs.declared.registers.TheConstants.{RESULT, MASK, FIRST, OVERRUN}
use Rattle.sp_emit.proofs.Arguments.{did_stack}
use Rattle.sp_emit.specs.Chains.{stmts_call}
use Rattle.sp_emit.proofs.Beginning.{reserved_after}
use Rattle.sp_emit.specs.Holding.{KeepsFrom}
use Rattle.sp_emit.specs.Flags.{begun_body}
use Rattle.sp_emit.specs.Places.{words_cleared, tops, top_of, stack_word}
use Rattle.sp_emit.proofs.Codes.{tops_at, brought_is, words_few, words_called, words_outside, code_of}
use Rattle.sp_tree.proofs.Forms.{FunctionParts}
use Rattle.sp_emit.proofs.Low.{end_at, word_at, stmts_low}
use Rattle.sp_emit.proofs.Windows.{InWindow, body_placed, each_function}
use Rattle.sp_emit.proofs.Passing.{outside_low, low, AllPass, Ready, Passes, passes_then, passes_more, passes_done, passes_parts}
use Rattle.sp_emit.proofs.Around.{Begins, cleared_in, arguments_in, state_in, Ends, given_back, result_read, back_in}
use Rattle.sp_emit.proofs.Serves.{function_run}
use Rattle.sp_emit.specs.declared.stands.Homes.{Homes}
use Rattle.sp_emit.proofs.WordPlaces.{Outside}

-- ---- before and after the body

begins_low : (homes : Homes) (top count : ℕ) (f : PlainFunction) → homes.first + slots_of f ≤ top → MASK < top
    → Outside homes.first (slots_of f) count → (stmts_call f.body ≡ true → base_slot homes.first f + 2 ≤ count)
    → Begins (low top count) homes f
begins_low homes top count f within own out room = record {
  mask = outside_low top MASK own;
  named = λ slot p is. refl;
  here = λ slot lt. outside_low top (homes.first + slot) (omega (arith, lt, within));
  stores = λ slot lt there. lt-ltb (stack_word homes.first slot) count (out slot lt there);
  base = λ has. lt-ltb (base_slot homes.first f) count (omega (arith, room has));
  offset = λ has. lt-ltb (offset_slot homes.first f) count (omega (arith, room has));
}

ends_low : (homes top : ℕ) (f : PlainFunction) → MASK < top → Ends (low top 0) homes f
ends_low homes top f own = record {
  gives = record {
    mask = outside_low top MASK own;
    result = outside_low top RESULT (omega (arith, own));
    reads = λ out. refl;
  };
  place = λ has. refl;
  base = λ has. refl;
  offset = λ has. refl;
}

-- what stands before the freeing of the frame, and then it
pub end_run : (homes : ℕ) (from : Sources) (f : PlainFunction) (m : Run) → run from (all_done (function_end homes f)) m
    ≡ run from (all_done (frame_freed homes f)) (run from (all_done (given_back homes f)) m)
end_run homes from f m = brought_is (λ bs. run from (all_done (bs ++ result_given homes f)) m
    ≡ run from (all_done (frame_freed homes f)) (run from (all_done (bs ++ result_read homes f)) m)) homes f
    (λ has. refl) refl

-- ---- functions

-- a frame was taken; its top is so far down, and the registers from one on are as they were
pub record InFrame (top frame : ℕ) (m t : Run) : Type 0 where
  pub whole : IsWhole t
  pub st : t.st ≡ m.st - frame
  pub behind : (a : ℕ) → m.st ≤ a → t.stack a ≡ m.stack a
  pub high : KeepsFrom top m t

pub in_frame_still : {top frame count : ℕ} {m n t : Run} → count ≤ frame → frame ≤ m.st → InFrame top frame m n
    → Passes top count n t → InFrame top frame m t
in_frame_still le enough x p = record {
  whole = p.whole;
  st = p.keeps.st ∙ x.st;
  behind = λ a above. p.keeps.stack a (omega (arith, x.st, above, le, enough)) ∙ x.behind a above;
  high = λ r from lt. p.keeps.high r from lt ∙ x.high r from lt;
}

-- where the window of a function ends
abbrev pub window_end : ℕ → PlainFunction → ℕ
window_end homes f = homes + (f.frame - 2)

-- the states of a function's run
unfoldable pub taken : Homes → Sources → PlainFunction → Run → Run
taken homes from f m = run from (all_done (frame_taken homes.first f)) m

unfoldable pub cleared : Homes → Sources → PlainFunction → Run → Run
cleared homes from f m = run from (all_done (words_cleared homes (slots_of f))) (taken homes from f m)

unfoldable pub entered : Homes → Sources → PlainFunction → Run → Run
entered homes from f m = run from (all_done (state_kept homes f))
    (run from (all_done (arguments_kept homes.first f.parameters)) (cleared homes from f m))

unfoldable pub worked : Homes → Sources → (ℕ → List Step) → PlainFunction → Run → Run
worked homes from code f m = run from (parts_trail code (body_code homes f)) (entered homes from f m)

takes_room : (from : Sources) (top frame : ℕ) (m : Run) → IsWhole m
    → InFrame top frame m (run from (all_done (words_taken frame)) m)
takes_room from top zero m whole =
    record { whole = whole; st = omega arith; behind = λ a above. refl; high = λ r at lt. refl }
takes_room from top (suc n) m whole =
    subst (InFrame top (suc n) m) (sym (did_stack from Sres (suc n) m whole)) (record {
      whole = record { fits = whole.fits; pending = whole.pending };
      st = refl;
      behind = λ a above. reserved_after m.st (suc n) a m.stack above;
      high = λ r at lt. refl;
    })

pub enters_frame : (homes : Homes) (from : Sources) (fs : List PlainFunction) (number : ℕ) (f : PlainFunction) (m : Run)
    → FIRST ≤ homes.first → FunctionParts fs number f → IsWhole m → f.frame ≤ m.st
    → InFrame (window_end homes.first f) (frame_words homes.first f) m (entered homes from f m)
unfolding entered cleared taken
enters_frame homes from fs number f m own p whole enough =
    let n = frame_words homes.first f in
    let top = window_end homes.first f in
    let few = words_few homes.first f (omega (arith, p.room)) in
    let most : n ≤ 128 = omega (arith, few, p.frame) in
    let room : n ≤ m.st = omega (arith, few, enough) in
    let out = words_outside homes.first f (omega (arith, p.room)) in
    let first = takes_room from top n m whole in
    let b = begins_low homes top n f (omega (arith, p.room)) (omega (arith, own)) out
    (λ has. let is = words_called homes.first f has in omega (arith, is)) in
    let c = passes_done from top n (words_cleared homes (slots_of f)) (taken homes from f m) most first.whole
    (cleared_in b) in
    let second = in_frame_still (omega arith) room first c in
    let a = passes_done from top n (arguments_kept homes.first f.parameters) (cleared homes from f m) most c.whole
    (arguments_in b f.parameters (omega (arith, p.before_mask, p.mask))) in
    let third = in_frame_still (omega arith) room second a in
    in_frame_still (omega arith) room third (passes_done from top n (state_kept homes f)
    (run from (all_done (arguments_kept homes.first f.parameters)) (cleared homes from f m)) most a.whole
    (state_in b p.mask))

pub works_in_frame : (homes : Homes) (from : Sources) (code : ℕ → List Step) (tops : List ℕ) (fs : List PlainFunction)
    (number least : ℕ) (f : PlainFunction) (m : Run) → InWindow homes tops fs number f
    → AllPass from code tops number least → Ready (least + 128) m
    → Passes (window_end homes.first f) (stack_word homes.first (first_counter f + 1)) (entered homes from f m)
    (worked homes from code f m)
unfolding worked
works_in_frame homes from code tops fs number least f m w others ready =
    let p = w.parts in
    let n = frame_words homes.first f in
    let few = words_few homes.first f (omega (arith, p.room)) in
    let x = enters_frame homes from fs number f m w.homed.own p ready.0 (omega (arith, ready.1, p.frame)) in
    let counter = first_counter f in
    let b = body_placed w in
    passes_more (omega (arith, p.room, p.mask)) (omega arith) (passes_parts from code tops number least
    (end_at homes counter) (word_at homes counter) (omega (arith, p.frame)) others (body_code homes f)
    (stmts_low tops homes fs number (slots_of f) n counter w.homed (omega (arith, b.levels)) counter
    (begun_body homes.flags f) (omega arith) b) (entered homes from f m)
    (x.whole, omega (arith, x.st, few, ready.1, p.frame)))

frees_frame : (from : Sources) (top frame : ℕ) (m n : Run) → frame ≤ m.st → InFrame top frame m n
    → Passes top 0 m (run from (all_done (words_freed frame)) n)
frees_frame from top zero m n enough x = record {
  whole = x.whole;
  keeps = record {
    st = omega (arith, x.st);
    stack = λ a above. x.behind a (omega (arith, above));
    high = x.high;
  };
}
frees_frame from top (suc k) m n enough x =
    subst (Passes top 0 m) (sym (did_stack from Sfree (suc k) n x.whole)) (record {
      whole = record { fits = x.whole.fits; pending = x.whole.pending };
      keeps = record {
        st = omega (arith, x.st, enough);
        stack = λ a above. x.behind a (omega (arith, above));
        high = x.high;
      };
    })

pub passes_function : (homes : Homes) (from : Sources) (code : ℕ → List Step) (tops : List ℕ) (fs : List PlainFunction)
    (number least : ℕ) (f : PlainFunction) → InWindow homes tops fs number f → AllPass from code tops number least
    → (m : Run) → Ready (least + 128) m → Passes (window_end homes.first f) 0 m (run from
    (parts_trail code (function_code homes f)) m)
unfolding worked entered cleared taken
passes_function homes from code tops fs number least f window others m ready =
    let p = window.parts in
    let own = window.homed.own in
    let top = window_end homes.first f in
    let room = (let e : f.frame ≤ m.st = omega (arith, ready.1, p.frame) in e) in
    let x = enters_frame homes from fs number f m own p ready.0 room in
    let n = frame_words homes.first f in
    let few = words_few homes.first f (omega (arith, p.room)) in
    let fits : n ≤ m.st = omega (arith, few, room) in
    let y = in_frame_still (omega (arith, p.room, p.mask)) fits x (works_in_frame homes from code tops fs number least f
    m window others ready) in
    let z = in_frame_still (omega arith) fits y (passes_done from top 0 (given_back homes.first f)
    (worked homes from code f m) (omega arith) y.whole (back_in (ends_low homes.first top f (omega (arith, own))))) in
    let t = run from (all_done (given_back homes.first f)) (worked homes from code f m) in
    let w = frees_frame from top n m t fits z in
    let r = passes_done from top 0 return_tail (run from (all_done (frame_freed homes.first f)) t) (omega arith) w.whole
    refl in
    subst (Passes top 0 m)
    (sym (function_run homes from code f m ∙ ap (run from (all_done return_tail)) (end_run homes.first from f
    (worked homes from code f m)))) (passes_then w r)

-- ---- all of them, in order

-- a window that ends past the flag ends there
capped_passes : {top : ℕ} {m t : Run} → Passes top 0 m t → Passes (min OVERRUN top) 0 m t
capped_passes p = record {
  whole = p.whole;
  keeps = record {
    st = p.keeps.st;
    stack = p.keeps.stack;
    high = λ r from lt.
        p.keeps.high r (omega (arith, from, lt)) lt;
  };
}

pub all_pass : (from : Sources) (fs : List PlainFunction) (n : ℕ) → n ≤ length fs → functions_formed fs n ≡ true
    → AllPass from (code_of fs n) (tops fs n) n (n * 128)
all_pass from fs n within formed = record {
  called = λ k less m ready.
      subst (λ top. Passes top 0 m (run from (code_of fs n k) m)) (sym (tops_at fs n k less))
      (each_function fs (λ k steps. (m : Run) → Ready (k * 128 + 128) m → Passes (top_of fs k) 0 m (run from steps m))
      (λ i w before m ready. capped_passes (passes_function (places_of fs i) from (code_of fs i) (tops fs i) fs i
      (i * 128) (slice_index_or fs i no_function) w (record {
        called = λ j lower m ready.
            subst (λ top. Passes top 0 m (run from (code_of fs i j) m)) (sym (tops_at fs i j lower))
            (before j lower m (ready.0, omega (arith, ready.1, lower)));
      }) m ready)) n within formed k less m (ready.0, omega (arith, ready.1, less)));
}
