-- The code of functions does what they give, each over the earlier ones.
use Rattle.std.proofs.Common.{◌≡◌, ℕ, zero, suc, ◌+◌, ◌-◌, ◌*◌, ◌<◌, ◌≤◌, ◌^◌, ◌==◌, ◌⊎◌, inl, inr, Bool, true, false, ◌&&◌, if◌then◌else◌, Option, None, Some, List, ◌++◌, length, slice_index, slice_index_or, nat_lt, refl, sym, ap, ◌∙◌, subst, arith}
use Rattle.std.specs.Prelude.{min}
use Rattle.std.proofs.lemmas.Bool.{cases_lt, and_parts, ltb-true, eqb-true, eqb-false}
use Rattle.c_world.specs.Numbers.{flag}
use Rattle.c_world.specs.World.{World}
use Rattle.shared_order.specs.Words.{put}
use Rattle.sp_tree.proofs.Forms.{earlier_one, parts_of_function}
use Rattle.sp_tree.specs.Formed.{args_formed, result_formed, callee_formed, stmt_formed, slots_of, function_formed, functions_formed}
use Rattle.sp_tree.specs.Plain.{PlainSp}
use Rattle.sp_tree.specs.Statements.{PlainFunction, no_function, calls}
use Rattle.sp_tree.specs.Straight.{State, Outcome, Serves, stmts_done, begun_frame, function_outcome, serves}
use Rattle.sp_shape.proofs.Whole.{run_append}
use Rattle.sp_shape.specs.Parts.{no_part, joined}
use Rattle.sp_shape.specs.Run.{Run, Sources, by_words, run}
use Rattle.sp_shape.specs.Trail.{Step, all_done, parts_trail}
use Rattle.sp_shape.proofs.Lists.{done_append}
use Rattle.sp_emit.specs.Functions.{arguments_kept, state_kept, frame_taken, function_begin, function_end, function_rest, body_code, function_code, places_of, first_counter, return_tail, base_slot, frame_words}
use Rattle.sp_emit.specs.Means.{Follows, HasStmtConstants, HasStmtsConstants, HasConstants}
use Rattle.sp_emit.specs.declared.registers.TheConstants.{OVERRUN}
use Rattle.sp_emit.specs.Serving.{Carries, CalledWith}
use Rattle.sp_emit.specs.Functions.{codes}
use Rattle.sp_emit.specs.Chains.{stmts_call}
use Rattle.sp_emit.specs.Flags.{stmt_hinders, begun_body, function_stands, AreAbove, stmt_spared, stmts_spared, flag_tops, flag_top_of}
use Rattle.sp_emit.specs.Places.{flag_of, shown_word, words_cleared, homes_over, tops, top_of, stmt_least, homes_of}
use Rattle.sp_emit.proofs.Codes.{codes_at, tops_at, words_few, words_called, words_outside, base_outside, flag_tops_at, code_of}
use Rattle.sp_emit.proofs.Beginning.{begins_frame}
use Rattle.sp_emit.proofs.Calling.{Returns, ServedBy, call_is_done, Spares}
use Rattle.sp_emit.proofs.BegunBody.{begun_formed, begun_levels, begun_least, begun_constants, begun_spared}
use Rattle.sp_emit.proofs.Entering.{begun_words, enters}
use Rattle.sp_emit.proofs.FlagsStand.{stands_of, all_stand, begun_state, begun_done}
use Rattle.sp_emit.proofs.FlagWords.{shown_plain}
use Rattle.sp_emit.proofs.Frames.{put_same, put_word}
use Rattle.sp_emit.proofs.Returning.{returns_value}
use Rattle.sp_emit.proofs.Runs.{Runs, CallsRun, stmts_run}
use Rattle.sp_emit.proofs.Values.{run_joined}
use Rattle.sp_emit.specs.declared.stands.Homes.{Homes}
use Rattle.sp_emit.proofs.FlagsAbove.{above_fewer, flags_above}
use Rattle.sp_emit.proofs.Sparing.{all_leave}

-- what a function begins with, piece by piece
pub begin_run : (homes : Homes) (from : Sources) (f : PlainFunction) (m : Run)
    → run from (all_done (function_begin homes f)) m
    ≡ run from (all_done (state_kept homes f)) (run from (all_done (arguments_kept homes.first f.parameters))
    (run from (all_done (words_cleared homes (slots_of f))) (run from (all_done (frame_taken homes.first f)) m)))
begin_run homes from f m =
    let t0 = run from (all_done (frame_taken homes.first f)) m in
    let c = run from (all_done (words_cleared homes (slots_of f))) t0 in
    let rest = arguments_kept homes.first f.parameters ++ state_kept homes f in
    ap (λ steps. run from steps m) (done_append (frame_taken homes.first f) (words_cleared homes (slots_of f) ++ rest))
    ∙ run_append from (all_done (frame_taken homes.first f)) (all_done (words_cleared homes (slots_of f) ++ rest)) m
    ∙ ap (λ steps. run from steps t0) (done_append (words_cleared homes (slots_of f)) rest)
    ∙ run_append from (all_done (words_cleared homes (slots_of f))) (all_done rest) t0
    ∙ ap (λ steps. run from steps c) (done_append (arguments_kept homes.first f.parameters) (state_kept homes f))
    ∙ run_append from (all_done (arguments_kept homes.first f.parameters)) (all_done (state_kept homes f)) c

-- the run of a function's code, piece by piece
pub function_run : (homes : Homes) (from : Sources) (code : ℕ → List Step) (f : PlainFunction) (m : Run)
    → run from (parts_trail code (function_code homes f)) m
    ≡ run from (all_done return_tail) (run from (all_done (function_end homes.first f))
    (run from (parts_trail code (body_code homes f))
    (run from (all_done (state_kept homes f)) (run from (all_done (arguments_kept homes.first f.parameters))
    (run from (all_done (words_cleared homes (slots_of f))) (run from (all_done (frame_taken homes.first f)) m))))))
function_run homes from code f m =
    let t0 = run from (all_done (frame_taken homes.first f)) m in
    let body = body_code homes f in
    let rest = parts_trail code (joined body (function_rest homes.first f)) in
    let c = run from (all_done (words_cleared homes (slots_of f))) t0 in
    run_append from (all_done (function_begin homes f)) rest m
    ∙ ap (run from rest) (begin_run homes from f m)
    ∙ run_joined from code body (function_rest homes.first f) (run from (all_done (state_kept homes f))
    (run from (all_done (arguments_kept homes.first f.parameters)) c))
    ∙ run_append from (all_done (function_end homes.first f)) (all_done return_tail) (run from (parts_trail code body)
    (run from (all_done (state_kept homes f)) (run from (all_done (arguments_kept homes.first f.parameters)) c)))

flag_word : (b : Bool) → flag b < 2 ^ 32
flag_word true = omega arith
flag_word false = omega arith

-- where its body begins, the run is where the tree's state is
follows_begun : (homes : Homes) (slots : ℕ) (f : PlainFunction) (mask : ℕ) (args : List ℕ) (w : World) {m : Run}
    (t : Run) → CalledWith mask args w m → Carries w t → ((u : ℕ) → u < slots → shown_word homes u t
    ≡ begun_words (flag_of homes.flags f.mask) f.mask mask (slice_index args) u)
    → Follows homes slots (begun_state (flag_of homes.flags f.mask) f.mask (record {
      frame = begun_frame f mask args;
      world = w;
    })) t
follows_begun homes slots f mask args w t x carries shows = by (flag_of homes.flags f.mask) shows
  where
    words : (u : ℕ) → begun_frame f mask args u < 2 ^ 32
    words u = put_word f.mask mask u (slice_index args) (2 ^ 32) x.mask_word (x.arg_words u)

    by : (o : Option ℕ) → ((u : ℕ) → u < slots → shown_word homes u t ≡ begun_words o f.mask mask (slice_index args) u)
        → Follows homes slots (begun_state o f.mask (record { frame = begun_frame f mask args; world = w })) t
    by None shows = record {
      whole = carries.whole;
      shows = record { frame = shows; world = carries.has };
      words = record { frame = λ u lt. words u; world = carries.words };
      flag = carries.flag;
    }
    by (Some p) shows =
        let own = put_same f.mask mask (slice_index args) in record {
          whole = carries.whole;
          shows = record {
            frame = λ u lt. shows u lt ∙ ap (λ v. put f.mask (flag (v == 1)) (begun_frame f mask args) u)
                (sym own);
            world = carries.has;
          };
          words = record {
            frame = λ u lt. put_word f.mask (flag (begun_frame f mask args f.mask == 1)) u
                (begun_frame f mask args) (2 ^ 32) (flag_word (begun_frame f mask args f.mask == 1)) (words u);
            world =
                carries.words;
          };
          flag = carries.flag;
        }

-- a function over what the earlier ones do
pub function_serves : (homes : Homes) (tops spared : List ℕ) (code : ℕ → List Step) (g : Serves)
    (fs : List PlainFunction) (number low : ℕ) (f : PlainFunction) → functions_formed fs number ≡ true
    → function_formed fs number f ≡ true → HasStmtsConstants f.body → homes_over tops f ≤ homes.first
    → function_stands homes.flags f ≡ true → AreAbove (stmts_spared spared f.body) homes.flags
    → CallsRun homes tops spared code g fs number (frame_words homes.first f) (slots_of f) low
    → (mask : ℕ) (args : List ℕ) (w : World) (m : Run) → length args ≡ f.parameters → low + 128 ≤ m.st
    → CalledWith mask args w m → Returns (homes.first + (f.frame - 2)) (function_outcome g f mask args w) m
    (run by_words (parts_trail code (function_code homes f)) m)
function_serves homes tops spared code g fs number low f earlier formed constants least placed above others mask args w
    m count enough x =
    let p = parts_of_function fs number f formed in
    let slots = slots_of f in
    let t1 = run by_words (all_done (arguments_kept homes.first f.parameters))
    (run by_words (all_done (words_cleared homes slots)) (run by_words (all_done (frame_taken homes.first f)) m)) in
    let n = frame_words homes.first f in
    let few = words_few homes.first f (omega (arith, p.room)) in
    let out = words_outside homes.first f (omega (arith, p.room)) in
    let stand = stands_of homes.flags f placed in
    let taken = begins_frame homes n slots f.parameters args m (λ i lt. stand.parameters i (omega (arith, lt, count)))
    x.carries.whole count (omega (arith, least)) (omega (arith, p.before_mask, p.mask)) p.parameters out
    (omega (arith, p.room, p.frame)) (omega (arith, few, p.frame, enough)) x.given x.arg_words in
    let t2 = run by_words (all_done (state_kept homes f)) t1 in
    let e = enters homes slots n (base_slot homes.first f) f.mask mask (stmts_call f.body) (slice_index args) w m t1
    (omega (arith, least)) (omega (arith, p.room, p.frame)) (omega (arith, few, p.frame))
    (omega (arith, few, p.frame, enough)) (λ has. let is = words_called homes.first f has in omega (arith, is))
    out (base_outside homes.first f (omega (arith, p.room))) p.mask x.masked x.mask_word x.carries taken in
    let s : State = record { frame = begun_frame f mask args; world = w } in
    let y = follows_begun homes slots f mask args w t2 x e.carries e.frame_is in
    let z = stmts_done g (begun_body homes.flags f) (begun_state (flag_of homes.flags f.mask) f.mask s) in
    let levels = begun_levels homes.flags f in
    let fewer = begun_least homes.flags tops f in
    let d = stmts_run homes tops spared code g fs number n slots (first_counter f) low others
    (omega (arith, p.room, p.frame)) (omega (arith, p.room, p.frame, p.mask)) (begun_body homes.flags f)
    (omega (arith, p.room, p.mask, levels))
    (begun_formed homes.flags fs number slots f p.body) (begun_constants homes.flags f constants)
    (omega (arith, least, fewer)) stand.body
    (above_fewer homes.flags (stmts_spared spared (begun_body homes.flags f))
    (begun_spared homes.flags spared f) above) (begun_state (flag_of homes.flags f.mask) f.mask s) t2
    (omega (arith, e.st, few, enough, p.frame)) y in
    let t3 = run by_words (parts_trail code (body_code homes f)) t2 in
    let r = returns_value homes.first z.world n (base_slot homes.first f) f.result (z.frame f.result)
    (stmts_call f.body) t3 (record {
      whole = d.follows.whole;
      has = d.follows.shows.world;
      words = d.follows.words.world;
      flag = d.follows.flag;
    })
    (omega (arith, least)) (omega (arith, p.result, p.room, p.frame)) (sym (shown_plain homes f.result t3 stand.result)
    ∙ d.follows.shows.frame f.result p.result) (d.follows.words.frame f.result p.result) in
    subst (λ z. Returns (homes.first + (f.frame - 2)) (record { value = z.frame f.result; world = z.world }) m
    (run by_words (parts_trail code (function_code homes f)) m)) (sym (begun_done g homes.flags f s stand.mask))
    (subst (Returns (homes.first + (f.frame - 2)) (record { value = z.frame f.result; world = z.world }) m)
    (sym (function_run homes by_words code f m)) (record {
      answers = record {
        carries = r.carries;
        value = r.value;
        flagged = r.flagged;
        value_word = d.follows.words.frame f.result p.result;
        st = omega (arith, r.st, d.keeps.st, e.st, few, enough, p.frame);
        stack = λ a above. ap (λ words. words a) r.stack ∙ d.keeps.stack a (omega (arith, e.st, above, p.room, p.mask))
            ∙ e.behind a above;
      };
      high = λ q from lt. r.high q (omega (arith, from)) lt ∙ d.keeps.high q (omega (arith, from, p.room, p.mask)) lt
          ∙ e.high q (omega (arith, from, p.room)) lt;
    }))

-- ---- all of them, in order

unfoldable pub AllServe : List PlainFunction → ℕ → Type 0
AllServe fs n = (k : ℕ) → k < n → ServedBy (code_of fs n) (serves fs n) k (slice_index_or fs k no_function).parameters
    ((k + 1) * 128) (top_of fs k)

-- over the earlier ones, calls do what they mean
pub calls_run : (homes : Homes) (fs : List PlainFunction) (n frame slots : ℕ) → functions_formed fs n ≡ true
    → slots ≤ 128 → ((k : ℕ) → k < n → Spares (code_of fs n) k (flag_top_of fs k)) → AllServe fs n
    → CallsRun homes (tops fs n) (flag_tops fs n) (code_of fs n) (serves fs n) fs n frame slots (n * 128)
unfolding AllServe ServedBy
calls_run homes fs n frame slots formed most leave earlier = record { calls = each }
  where
    each : (counter mask k : ℕ) (args : List PlainSp) (result : Option ℕ) → slots ≤ counter + 1
        → stmt_formed fs n slots (calls mask k args result) ≡ true → HasStmtConstants (calls mask k args result)
        → stmt_least (tops fs n) (calls mask k args result) ≤ homes.first
        → stmt_hinders homes.flags (calls mask k args result) ≡ false
        → AreAbove (stmt_spared (flag_tops fs n) (calls mask k args result)) homes.flags
        → Runs homes (code_of fs n) (serves fs n) frame counter slots (n * 128) (calls mask k args result)
    each counter mask k args result fits named constants least stand above s m enough x =
        let a = and_parts (nat_lt mask slots) (callee_formed fs n k (length args)
        && (args_formed slots args && result_formed slots result)) named in
        let b = and_parts (callee_formed fs n k (length args)) (args_formed slots args && result_formed slots result)
        a.1 in
        let callee = and_parts (nat_lt k n) (length args == (slice_index_or fs k no_function).parameters) b.0 in
        let c = and_parts (args_formed slots args) (result_formed slots result) b.1 in
        let less = ltb-true k n callee.0 in
        let count = eqb-true (length args) (slice_index_or fs k no_function).parameters callee.1 in
        let few = (parts_of_function fs k (slice_index_or fs k no_function)
        (earlier_one fs k n less formed)).parameters in
        call_is_done homes (code_of fs n) (serves fs n) frame counter slots ((k + 1) * 128) (top_of fs k) mask k args
        result (flag_top_of fs k) s m stand (above_fewer homes.flags (flag_top_of fs k)
        (let top = flag_tops_at fs n k less in omega (arith, top)) above) (leave k less) most fits
        (ltb-true mask slots a.0) (omega (arith, count, few)) c.0 constants c.1
        (λ word given w t same room called. earlier k less word given w t (same ∙ count) room called)
        (let top = tops_at fs n k less in omega (arith, least, top)) (omega (arith, least))
        (omega (arith, less, enough)) x

-- a window that ends past the flag ends there
ends_at : {top : ℕ} {g : Outcome} {m t : Run} → Returns top g m t → Returns (min OVERRUN top) g m t
ends_at r = record { answers = r.answers; high = λ q from lt. r.high q (omega (arith, from, lt)) lt }

pub all_serve : (fs : List PlainFunction) → HasConstants fs → (n : ℕ) → n ≤ length fs → functions_formed fs n ≡ true
    → AllServe fs n
unfolding AllServe ServedBy
all_serve fs constants zero within formed k less mask args w m count room called = absurd (omega (arith, less))
all_serve fs constants (suc n) within formed k less mask args w m count room called =
    by (all_serve fs constants n (omega (arith, within)) (and_parts (functions_formed fs n)
    (function_formed fs n (slice_index_or fs n no_function)) formed).0) (k == n) refl
  where
    parts : (functions_formed fs n ≡ true) × (function_formed fs n (slice_index_or fs n no_function) ≡ true)
    parts = and_parts (functions_formed fs n) (function_formed fs n (slice_index_or fs n no_function)) formed

    f : PlainFunction
    f = slice_index_or fs n no_function

    last : AllServe fs n → k ≡ n → Returns (top_of fs n) (function_outcome (serves fs n) f mask args w) m (run by_words
        (parts_trail (code_of fs n) (function_code (places_of fs n) f)) m)
    last before is =
        let p = parts_of_function fs n f parts.1 in
        let base = stmts_spared (flag_tops fs n) f.body in
        ends_at (function_serves (places_of fs n) (tops fs n) (flag_tops fs n) (code_of fs n) (serves fs n) fs n
        (n * 128) f parts.0 parts.1 (constants n) (omega arith) (all_stand base f) (flags_above base f)
        (calls_run (places_of fs n) fs n (frame_words (homes_of fs n) f) (slots_of f) parts.0
        (omega (arith, p.room, p.frame)) (λ i lt p past few t whole. all_leave by_words fs n
        (omega (arith, within)) parts.0 i lt p past few t whole) before)
        mask args w m (count ∙ ap (λ j. (slice_index_or fs j no_function).parameters) is)
        (omega (arith, room, is)) called)

    by : AllServe fs n → (b : Bool) → (k == n) ≡ b
        → Returns (top_of fs k) (if b then function_outcome (serves fs n) f mask args w else serves fs n
        k mask args w) m
        (run by_words (if b then parts_trail (code_of fs n) (slice_index_or (codes fs) n no_part) else code_of fs n k)
        m)
    by before true is =
        subst (λ i. Returns (top_of fs i) (function_outcome (serves fs n) f mask args w) m
        (run by_words (parts_trail (code_of fs n) (slice_index_or (codes fs) n no_part)) m)) (sym (eqb-true k n is))
        (subst (λ c. Returns (top_of fs n) (function_outcome (serves fs n) f mask args w) m
        (run by_words (parts_trail (code_of fs n) c) m)) (sym (codes_at fs n (omega (arith, within))))
        (last before (eqb-true k n is)))
    by before false other = before k (earlier (eqb-false k n other)) mask args w m count room called
      where
        earlier : (k ≡ n → ⊥) → k < n
        earlier ne = cut (cases_lt k n)
          where
            cut : (k < n) ⊎ (n ≤ k) → k < n
            cut (inl lt) = lt
            cut (inr ge) = absurd (ne (omega (arith, ge, less)))
