-- The loops of expressions and statements make all their iterations, where those of the functions that are called do.
use Rattle.std.proofs.Common.{◌≡◌, ℕ, ◌+◌, ◌-◌, ◌^◌, ◌<◌, ◌≤◌, true, List, Option, slice_index_or, ◌∙◌, subst, refl, arith}
use Rattle.sp_tree.specs.Formed.{result_formed, slots_of}
use Rattle.sp_tree.specs.Statements.{PlainStmt, iterations, PlainStmts, no_stmt, stmt, PlainFunction}
use Rattle.sp_shape.proofs.Whole.{once_whole, run_append}
use Rattle.sp_shape.specs.Parts.{PlainParts, no_part, part, joined}
use Rattle.sp_shape.specs.Run.{Run, Sources, Back, once, run, begun, IsWhole}
use Rattle.sp_shape.specs.Trail.{Step, all_done, part_trail, parts_trail}
use Rattle.sp_shape.specs.Iterating.{PartsIteration}
use Rattle.sp_emit.specs.Places.{word_of, fetched_at, stack_word}
use Rattle.sp_emit.specs.Counts.{HasStmtCounts, HasStmtsCounts}
use Rattle.sp_emit.specs.Flags.{begun_body}
use Rattle.sp_emit.specs.Functions.{frame_words, first_counter, body_code}
use Rattle.sp_emit.specs.Instructions.{set_number}
use Rattle.sp_emit.specs.Statements.{mask_handed, call_tail, call_code, iterations_begin, stmt_code, stmts_code}
use Rattle.sp_emit.proofs.Counters.{counter_iterations}
use Rattle.sp_emit.proofs.DigitIterations.{division_iterations, signed_division_iterations}
use Rattle.sp_emit.proofs.Leaving.{number_leaves}
use Rattle.sp_emit.proofs.Low.{low_within, low_flows, stmts_low, end_at, word_at}
use Rattle.sp_emit.proofs.Passing.{AllPass, Ready, ready_still, low, may_pass, Low, passes_then, passes_done, passes_parts, passes_begun}
use Rattle.sp_emit.proofs.Footprints.{call_tail_in}
use Rattle.sp_emit.proofs.Walks.{Walk, Within, Flows, StmtFlows, StmtsFlow, body_is, begins, hands, in_walk}
use Rattle.sp_emit.proofs.Windows.{InWindow, ArePlaced, body_placed}
use Rattle.sp_emit.proofs.WordPlaces.{fetched_some, fetched_few, keep_leaves}
use Rattle.sp_emit.specs.declared.stands.Homes.{Homes}

-- ---- parts after others

pub iterations_joined : (from : Sources) (f : ℕ → List Step) (Called : ℕ → Run → Type 0) (back : Back)
    (xs ys : PlainParts) (m : Run) → PartsIteration (run from) f Called back xs m
    → PartsIteration (run from) f Called back ys (run from (parts_trail f xs) m)
    → PartsIteration (run from) f Called back (joined xs ys) m
iterations_joined from f Called back no_part ys m x y = y
iterations_joined from f Called back (part p xs) ys m x y = (
  x.0,
  iterations_joined from f Called back xs ys (run from (part_trail f p) m) x.1
      (subst (PartsIteration (run from) f Called back ys) (run_append from (part_trail f p) (parts_trail f xs) m) y),
)

-- ---- code that makes them all, and leaves the stack and the registers from one on

-- functions that are called make theirs, and leave the stack, where it has so much room
pub record Callees (from : Sources) (f : ℕ → List Step) (Called : ℕ → Run → Type 0) (tops : List ℕ)
    (number low : ℕ) : Type 0 where
  pub passing : AllPass from f tops number low
  pub iterating : (k : ℕ) → k < number → (m : Run) → Ready low m → Called k m

record Goes (from : Sources) (f : ℕ → List Step) (Called : ℕ → Run → Type 0) (back : Back) (tops : List ℕ)
    (number top count least : ℕ) (ps : PlainParts) : Type 0 where
  iterates : (m : Run) → Ready least m → PartsIteration (run from) f Called back ps m
  lies : Low tops number top count ps

go_walk : (from : Sources) (f : ℕ → List Step) (Called : ℕ → Run → Type 0) (back : Back) (tops : List ℕ)
    (number least : ℕ) → AllPass from f tops number least → (top count : ℕ) → count ≤ 128
    → Walk (Goes from f Called back tops number top count least) (low top count)
go_walk from f Called back tops number least passing top count few =
    let W = in_walk (low top count) refl (may_pass tops number top) in
    record {
      none = record { iterates = λ m ready. tt; lies = W.none };
      both = λ x y a b. record {
        iterates = λ m ready.
            let p = passes_parts from f tops number least top count few passing x a.lies m ready in
            iterations_joined from f Called back x y m (a.iterates m ready)
            (b.iterates (run from (parts_trail f x) m) (ready_still ready p));
        lies = W.both x y a.lies b.lies;
      };
      lone = λ bs all. record { iterates = λ m ready. (tt, tt); lies = W.lone bs all };
      unsigned = λ ra rb after last. record {
        iterates = λ m ready. division_iterations from f Called back ra rb after m ready.0;
        lies = W.unsigned ra rb after last;
      };
      signed = λ rest quotient ra rb after own other last. record {
        iterates = λ m ready. signed_division_iterations from f Called back rest quotient ra rb after m ready.0;
        lies = W.signed rest quotient ra rb after own other last;
      };
    }

-- ---- calls and loops

-- the counter where a loop begins
counter_set : (from : Sources) (homes counter count : ℕ) (m : Run) → 1 ≤ homes → IsWhole m → counter < 128
    → count < 2 ^ 32 → word_of homes counter (run from (all_done (iterations_begin homes counter count)) m) ≡ count
counter_set from homes counter count m some whole few word =
    let left = fetched_at homes counter in
    let n = once from (set_number left count) m in
    (keep_leaves from homes counter n (once_whole from (set_number left count) m whole) few).word
    ∙ number_leaves from left count m whole (fetched_some homes counter some) (fetched_few homes counter) word

mutual
  stmt_counts : (t : PlainStmt) → HasStmtCounts t → StmtFlows (λ k. Unit {0}) (λ count. count < 2 ^ 32) t
  stmt_counts (iterations count body) counts = (counts.0, stmts_counts body counts.1)
  stmt_counts _ counts = tt

  stmts_counts : (ts : PlainStmts) → HasStmtsCounts ts → StmtsFlow (λ k. Unit {0}) (λ count. count < 2 ^ 32) ts
  stmts_counts no_stmt counts = tt
  stmts_counts (stmt t rest) counts = (stmt_counts t counts.0, stmts_counts rest counts.1)

pub body_iterations : {homes : Homes} {tops : List ℕ} {fs : List PlainFunction} {number : ℕ} {f : PlainFunction}
    → InWindow homes tops fs number f → (from : Sources) (code : ℕ → List Step)
    (Called : ℕ → Run → Type 0) (back : Back)
    (least : ℕ) → from.stack ≡ true → Callees from code Called tops number least
    → HasStmtsCounts (begun_body homes.flags f)
    → (m : Run) → Ready least m → PartsIteration (run from) code Called back (body_code homes f) m
body_iterations {homes} {tops} {fs} {number} {f} w from code Called back least told callees counts m ready =
    (body_is (go_walk from code Called back tops number least callees.passing top count few)
    refl refl w x (record { called = called; repeated = repeated })
    (stmts_counts (begun_body homes.flags f) counts)).iterates m ready
  where
    most : ℕ
    most = first_counter f

    top : ℕ
    top = end_at homes most

    count : ℕ
    count = word_at homes most

    frame : ℕ
    frame = frame_words homes.first f

    x : Within (low top count) homes most
    x = low_within homes most

    few : count ≤ 128
    few = omega (arith, w.parts.frame)

    le : slots_of f ≤ most + 1
    le = omega (arith, (body_placed w).levels)

    G : Flows (Low tops number top count) tops homes fs number (slots_of f) frame most (λ k. Unit {0})
        (λ count. Unit {0})
    G = low_flows tops homes fs number (slots_of f) frame most w.homed le

    called : (mask k : ℕ) (result : Option ℕ) → mask < slots_of f → k < number → slice_index_or tops k 0 ≤ homes.first
        → result_formed (slots_of f) result ≡ true → Unit {0}
        → Goes from code Called back tops number top count least (call_code homes frame mask k result)
    called mask k result lt earlier window formed may = record {
      iterates = λ m ready.
          let q = passes_done from top count (mask_handed homes mask) m few ready.0 (hands x mask (omega (arith, le, lt))
          w.homed.own) in
          let u = run from (all_done (mask_handed homes mask)) m in
          let r = passes_done from top count call_tail u few q.whole (call_tail_in (low top count) refl) in
          let b = passes_begun top count (run from (all_done call_tail) u) r.whole in (
            tt,
            (
              callees.iterating k earlier (begun (run from (all_done call_tail) u))
                  (ready_still ready (passes_then q (passes_then r b))),
              (tt, tt),
            ),
          );
      lies = G.called mask k result lt earlier window formed tt;
    }

    repeated : (n counter : ℕ) (body : PlainStmts) → 1 ≤ n → 1 ≤ counter → counter ≤ most
        → ArePlaced tops homes fs number (slots_of f) (counter - 1) body → n < 2 ^ 32
        → Goes from code Called back tops number top count least (stmts_code homes frame (counter - 1) body)
        → Goes from code Called back tops number top count least (stmt_code homes frame counter (iterations n body))
    repeated n counter body times nested within placed word goes =
        let inner = stmts_code homes frame (counter - 1) body in
        let lies : Low tops number (homes.first + counter) (stack_word homes.first counter) inner =
        subst (λ c. Low tops number (homes.first + c) (stack_word homes.first c) inner)
        (let e : counter - 1 + 1 ≡ counter = omega (arith, nested) in e)
        (stmts_low tops homes fs number (slots_of f) frame (counter - 1) w.homed (omega (arith, placed.levels))
        (counter - 1) body (omega arith) placed) in
        record {
          iterates = λ m ready.
              let p = passes_done from top count (iterations_begin homes.first counter n) m few ready.0 (begins x counter
              n within) in (
                tt,
                (
                  counter_iterations from code (PartsIteration (run from) code Called back inner) inner homes.first
                      counter least told (omega (arith, w.homed.own)) (omega (arith, within, w.parts.frame))
                      goes.iterates
                      (passes_parts from code tops number least (homes.first + counter)
                      (stack_word homes.first counter) (omega (arith, within, w.parts.frame)) callees.passing inner
                      lies) n word (run from (all_done (iterations_begin homes.first counter n)) m)
                      (ready_still ready p) (counter_set from homes.first counter n m (omega (arith, w.homed.own))
                      ready.0 (omega (arith, within, w.parts.frame)) word),
                  tt,
                ),
              );
          lies = G.repeated n counter body times nested within placed tt goes.lies;
        }
