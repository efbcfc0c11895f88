-- How runs go on: from words in code to the next.
use Rattle.std.proofs.Common.{◌≡◌, ℕ, zero, suc, ◌+◌, ◌<◌, ◌≤◌, ◌==◌, Bool, true, false, List, [], ◌∷◌, ◌++◌, length, drop, get_or, slice_index, slice_index_or, refl, ap, sym, ◌∙◌, arith, eq-eqb, ne_eqb, ◌≢◌, if◌then◌else◌, inl, inr}
use Rattle.std.proofs.lemmas.Bool.{cases_lt}
use Rattle.std.proofs.lemmas.List.{drop_all}
use Rattle.tc_word.proofs.Items.{drop_item}
use Rattle.c_world.specs.Shown.{shown}
use Rattle.c_world.specs.World.{World, Sending, may_start, with_send}
use Rattle.c_world.specs.declared.memory.Memory.{Memory}
use Rattle.sp_tree.specs.declared.statements.SpStmt.{SpStmt}
use Rattle.sp_tree.specs.Ran.{state_of, HasDone, HasGiven}
use Rattle.sp_tree.specs.Shown.{plain_stmt, stmts_of}
use Rattle.sp_tree.specs.Statements.{PlainStmt, PlainStmts, stmt, PlainFunction, no_function}
use Rattle.sp_tree.specs.Straight.{State, Outcome, Serves, where_on, times, stmt_done, stmts_done, begun_frame, function_outcome, serves}

-- ---- an end, and what is yet to be done

pub has_done : (s : State) (frame : List ℕ) (memory : Memory) (sends : List Sending) → s ≡ state_of frame memory sends
    → HasDone s frame memory
has_done s frame memory sends is =
    record { ends = is ∙ ap (state_of frame memory) (sym (ap (λ (t : State). t.world.sends) is)) }

pub has_given : (g : Outcome) (n : ℕ) (memory : Memory) (sends : List Sending) → g
    ≡ record { value = n; world = shown memory sends } → HasGiven g n memory
has_given g n memory sends is = record {
  gives = is ∙ ap (λ x. let t : Outcome = record { value = n; world = shown memory x } in t) (sym
      (ap (λ (t : Outcome). t.world.sends) is));
}

-- from these words on, it ends as the whole does
pub record Reaches (whole : State) (next : State → State) (frame : List ℕ) (memory : Memory) : Type 0 where
  pub sends : List Sending
  pub same : whole ≡ next (state_of frame memory sends)

pub reaches_first : (next : State → State) (frame : List ℕ) (memory : Memory) (sends : List Sending)
    → Reaches (next (state_of frame memory sends)) next frame memory
reaches_first next frame memory sends = record { sends = sends; same = refl }

pub along : (d e : State) (frame : List ℕ) (memory : Memory) → d ≡ e → HasDone e frame memory → HasDone d frame memory
along d e frame memory same h = has_done d frame memory e.world.sends (same ∙ h.ends)

-- ---- masks

pub on : (mask : ℕ) (change : State → State) (s : State) → (s.frame mask == 1) ≡ true
    → where_on mask change s ≡ change s
on mask change s is = ap (λ b. if b then change s else s) is

-- a change that changes sends alone changes no word
pub sent_shown : (core source target count : ℕ) (m : Memory) (sends : List Sending)
    → with_send core source target count (shown m sends) ≡ shown m (with_send core source target count
    (shown m sends)).sends
sent_shown core source target count m sends = by (may_start source target count)
  where
    more : List Sending
    more = sends ++ record { core = core; source = source; target = target; count = count } ∷ []

    by : (b : Bool) → (if b then shown m more else shown m sends)
        ≡ shown m (if b then shown m more else shown m sends).sends
    by true = refl
    by false = refl

-- ---- statements one after another

pub reach_item : (g : Serves) (d : State) (stmts : List SpStmt) (i : ℕ) (t : SpStmt) (f : List ℕ) (m : Memory)
    → i < length stmts → t ≡ get_or stmts i t
    → Reaches d (stmts_done g (stmts_of (drop i stmts))) f m
    → Reaches d (stmts_done g (stmt (plain_stmt t) (stmts_of (drop (i + 1) stmts)))) f m
reach_item g d stmts i t f m within is r = record {
  sends = r.sends;
  same = r.same ∙ ap (λ ts. stmts_done g (stmts_of ts) (state_of f m r.sends)) (drop_item stmts i t within is);
}

pub next_stmt : (g : Serves) (d : State) (t : PlainStmt) (rest : PlainStmts) (f : List ℕ) (m : Memory)
    (f' : List ℕ) (m' : Memory)
    → Reaches d (stmts_done g (stmt t rest)) f m
    → ((sends : List Sending) → HasDone (stmt_done g t (state_of f m sends)) f' m')
    → Reaches d (stmts_done g rest) f' m'
next_stmt g d t rest f m f' m' r h = record {
  sends = (stmt_done g t (state_of f m r.sends)).world.sends;
  same = r.same ∙ ap (stmts_done g rest) (h r.sends).ends;
}

pub at_the_end : (g : Serves) (d : State) (stmts : List SpStmt) (i : ℕ) (f : List ℕ) (m : Memory) → length stmts ≤ i
    → Reaches d (stmts_done g (stmts_of (drop i stmts))) f m → HasDone d f m
at_the_end g d stmts i f m past r =
    has_done d f m r.sends (r.same ∙ ap (λ ts. stmts_done g (stmts_of ts) (state_of f m r.sends))
    (drop_all i stmts past))

-- ---- iterations

pub another_iteration : (b : State → State) (d : State) (n k : ℕ) (f : List ℕ) (m : Memory) → n ≡ k
    → Reaches d (times n b) f m → Reaches d (times k b) f m
another_iteration b d n k f m same r =
    record { sends = r.sends; same = r.same ∙ ap (λ j. times j b (state_of f m r.sends)) same }

pub next_iteration : (b : State → State) (d : State) (n : ℕ) (f : List ℕ) (m : Memory) (f' : List ℕ) (m' : Memory)
    → Reaches d (times (suc n) b) f m → ((sends : List Sending) → HasDone (b (state_of f m sends)) f' m')
    → Reaches d (times n b) f' m'
next_iteration b d n f m f' m' r h = record {
  sends = (b (state_of f m r.sends)).world.sends;
  same = r.same ∙ ap (times n b) (h r.sends).ends;
}

pub all_iterated : (b : State → State) (d : State) (f : List ℕ) (m : Memory) → Reaches d (times zero b) f m
    → HasDone d f m
all_iterated b d f m r = has_done d f m r.sends r.same

-- ---- functions

pub serves_own : (fs : List PlainFunction) (k n mask : ℕ) (args : List ℕ) (w : World) → k < n
    → serves fs n k mask args w ≡ function_outcome (serves fs k) (slice_index_or fs k no_function) mask args w
serves_own fs k zero mask args w below = absurd (omega arith)
serves_own fs k (suc n) mask args w below = elim (cases_lt k n) [
  | inl less ↦
      let other : k ≢ n = omega arith in
      ap (λ b. if b then function_outcome (serves fs n) (slice_index_or fs n no_function) mask args w else serves fs n k
      mask args w) (ne_eqb k n other)
      ∙ serves_own fs k n mask args w less
  | inr more ↦
      let same : n ≡ k = omega arith in
      ap (λ b. if b then function_outcome (serves fs n) (slice_index_or fs n no_function) mask args w else serves fs n k
      mask args w) (eq-eqb k n (sym same))
      ∙ ap (λ j. function_outcome (serves fs j) (slice_index_or fs j no_function) mask args w) same
]

-- the function of a number, run on its own frame
pub body_given : (fs : List PlainFunction) (k n mask : ℕ) (args own : List ℕ) (m : Memory) (sends : List Sending)
    (run : PlainFunction)
    (own' : List ℕ) (m' : Memory) → k < n → slice_index_or fs k no_function ≡ run → slice_index own
    ≡ begun_frame run mask args
    → HasDone (stmts_done (serves fs k) run.body (state_of own m sends)) own' m'
    → HasGiven (serves fs n k mask args (shown m sends)) (slice_index own' run.result) m'
body_given fs k n mask args own m sends run own' m' below is_run frame h =
    let done = stmts_done (serves fs k) run.body (state_of own m sends) in
    has_given (serves fs n k mask args (shown m sends)) (slice_index own' run.result) m' done.world.sends
    (serves_own fs k n mask args (shown m sends) below ∙ ap (λ f. function_outcome (serves fs k) f mask args
    (shown m sends)) is_run
    ∙ ap (λ words. let s = stmts_done (serves fs k) run.body (record { frame = words; world = shown m sends }) in
    let t : Outcome = record { value = s.frame run.result; world = s.world } in t) (sym frame)
    ∙ ap (λ (s : State). let t : Outcome = record { value = s.frame run.result; world = s.world } in t) h.ends)

-- a send changes no word
pub sent : (mask core source target count : ℕ) (f : List ℕ) (m : Memory) (sends : List Sending)
    → HasDone (if slice_index f mask == 1 then (let s : State = record {
      frame = slice_index f;
      world = with_send core source target count (shown m sends);
    } in s) else state_of f m sends) f m
sent mask core source target count f m sends = by (slice_index f mask == 1)
  where
    by : (b : Bool)
        → HasDone (if b then (let s : State = record {
          frame = slice_index f;
          world = with_send core source target count
              (shown m sends);
        } in s) else state_of f m sends) f m
    by true = record {
      ends = ap (λ w. let s : State = record { frame = slice_index f; world = w } in s)
          (sent_shown core source target count m sends);
    }
    by false = record { ends = refl }
