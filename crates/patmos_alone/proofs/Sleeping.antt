-- Cycles in which a core does nothing of its own.
use Rattle.std.proofs.Common.{◌≡◌, ◌≢◌, ℕ, ◌+◌, ◌≤◌, ◌<◌, ◌==◌, ◌&&◌, nat_le, nat_lt, Bool, true, false, refl, ap, ◌∙◌, eqb-true, arith, None}
use Rattle.std.proofs.lemmas.Bool.{leb-true}
use Rattle.std.proofs.lemmas.Bool.Decides.{nat_tests}
use Rattle.slot_arbiter.specs.Order.{IsNext}
use Rattle.slot_arbiter.specs.Slot.{is_slot_start}
use Rattle.shared_order.specs.Program.{Prog, and_then}
use Rattle.patmos_model.specs.State.{Plain, Core, is_running, is_free}
use Rattle.patmos_model.specs.Cells.{Acted, now}
use Rattle.patmos_model.specs.Transaction.{is_due}
use Rattle.patmos_model.specs.Flows.{flowed}
use Rattle.patmos_model.specs.Cycle.{own, bundle_step, slot_step, if_running}
use Rattle.patmos_model.proofs.Waits.{none_right, none_left, stopped_own, flow_waits, bundle_waits, bundle_if_running, slot_waits}
use Rattle.patmos_alone.specs.Alone.{CanFirstMove}

-- one that is neither free nor can move words
waiting : (c : Core) (u : ℕ) (runs : Bool) → is_running c.plain ≡ runs → is_free u c.plain ≡ false → is_due u c.plain
    ≡ false → own u c ≡ now c
waiting c u false is busy none = stopped_own c u is
waiting c u true is busy none =
    ap (λ b. elim b as (λ _. Prog Acted) [
      | true ↦ and_then (if_running (bundle_step u) (flowed u c)) (slot_step u)
      | false ↦ now c
    ]) is
    ∙ ap (λ d. and_then (if_running (bundle_step u) d) (slot_step u)) (flow_waits c u busy)
    ∙ ap (λ p. and_then p (slot_step u)) (bundle_if_running c u (is_running c.plain) (bundle_waits c u busy))
    ∙ slot_waits (record { core = c; pending_store = None }) u none

-- the same of any core with this plain part
pub sleeps_stopped : (x : Plain) (c : Core) (u : ℕ) → is_running x ≡ false → c.plain ≡ x → own u c ≡ now c
sleeps_stopped x c u is same = stopped_own c u (ap is_running same ∙ is)

sleeps : (x : Plain) (c : Core) (u : ℕ) → is_free u x ≡ false → is_due u x ≡ false → c.plain ≡ x → own u c ≡ now c
sleeps x c u busy none same =
    waiting c u (is_running c.plain) refl (ap (is_free u) same ∙ busy) (ap (is_due u) same ∙ none)

-- no words are to be moved, and the core is not free yet, or was before
pub sleeps_waiting : (x : Plain) (c : Core) (u : ℕ) → x.transfer.words ≡ 0 → x.free ≢ u → c.plain ≡ x → own u c ≡ now c
sleeps_waiting x c u none other same =
    sleeps x c u (none_right (x.transfer.words == 0) (x.free == u) (by (x.free == u) refl))
    (none_left (nat_lt 0 x.transfer.words) (nat_le x.free u && is_slot_start x.site.table x.site.slot x.site.core u)
    (ap (nat_lt 0) none)) same
  where
    by : (b : Bool) → (x.free == u) ≡ b → (x.free == u) ≡ false
    by true is = absurd (other (eqb-true x.free u is))
    by false is = is

no_start : (test : ℕ → Bool) (t start u : ℕ) (b : Bool) → IsNext test t start → t ≤ u → u < start → test u ≡ b
    → test u ≡ false
no_start test t start u true next from before is = absurd (omega (arith, before, next.least u from is))
no_start test t start u false next from before is = is

-- words are to be moved, and a slot starts
pub due_there : (x : Plain) (t start : ℕ) → 0 < x.transfer.words → x.free ≤ t
    → IsNext (is_slot_start x.site.table x.site.slot x.site.core) t start → is_due start x ≡ true
due_there x t start some free next =
    both_true (nat_lt 0 x.transfer.words) (nat_le x.free start && is_slot_start x.site.table x.site.slot x.site.core
    start) (is_below 0 x.transfer.words some)
    (both_true (nat_le x.free start) (is_slot_start x.site.table x.site.slot x.site.core start)
    (is_within x.free start (omega (arith, free, next.from))) next.passes)
  where
    both_true : (a b : Bool) → a ≡ true → b ≡ true → (a && b) ≡ true
    both_true a b h g = (λ i. h i && g i)

    is_below : (a b : ℕ) → a < b → nat_lt a b ≡ true
    is_below a b h = grind (arith, nat_tests)

    is_within : (a b : ℕ) → a ≤ b → nat_le a b ≡ true
    is_within a b h = grind (arith, nat_tests)

-- the next start is not this
pub starts_later : (test : ℕ → Bool) (t start : ℕ) → IsNext test t start → start ≢ t → test t ≡ false
starts_later test t start next other = by (test t) refl
  where
    later : t ≤ start → start ≢ t → t < start
    later le ne = grind (arith)

    by : (b : Bool) → test t ≡ b → test t ≡ false
    by b is = no_start test t start t b next (omega arith) (later next.from other) is

-- words that wait for the first slot from a cycle on, but not in it, can first be moved there
pub slot_first : (cycle start : ℕ) (x : Plain) → 0 < x.transfer.words → x.free ≡ cycle → cycle < start
    → IsNext (is_slot_start x.site.table x.site.slot x.site.core) cycle start → CanFirstMove (cycle + 1) start x
slot_first cycle start x some free later next = record {
  ahead = omega (arith, later);
  due = due_there x cycle start some (omega (arith, free)) next;
  before = λ u from below. none_right (nat_lt 0 x.transfer.words)
      (nat_le x.free u && is_slot_start x.site.table x.site.slot x.site.core u)
      (none_right (nat_le x.free u) (is_slot_start x.site.table x.site.slot x.site.core u)
      (no_start (is_slot_start x.site.table x.site.slot x.site.core) cycle start u
      (is_slot_start x.site.table x.site.slot x.site.core u) next (omega (arith, from)) below refl));
}

-- words that can be moved first in a cycle sleep before it
pub sleeps_first : (x : Plain) (c : Core) (u from start : ℕ) → 0 < x.transfer.words → CanFirstMove from start x
    → from ≤ u → u < start → c.plain ≡ x → own u c ≡ now c
sleeps_first x c u from start some first reached below same =
    sleeps x c u (none_left (x.transfer.words == 0) (x.free == u) (by (x.transfer.words == 0) refl))
    (first.before u reached below) same
  where
    by : (b : Bool) → (x.transfer.words == 0) ≡ b → (x.transfer.words == 0) ≡ false
    by true is = absurd (omega (arith, some, eqb-true x.transfer.words 0 is))
    by false is = is

-- words are to be moved, and no slot starts yet
pub sleeps_moving : (x : Plain) (c : Core) (u t start : ℕ) → 0 < x.transfer.words → (x.free ≤ u → t ≤ u) → u < start
    → IsNext (is_slot_start x.site.table x.site.slot x.site.core) t start → c.plain ≡ x → own u c ≡ now c
sleeps_moving x c u t start some reach before next same =
    sleeps x c u (none_left (x.transfer.words == 0) (x.free == u) (by_words (x.transfer.words == 0) refl))
    (none_right (nat_lt 0 x.transfer.words) (nat_le x.free u && is_slot_start x.site.table x.site.slot x.site.core u)
    (by_free (nat_le x.free u) refl)) same
  where
    by_words : (b : Bool) → (x.transfer.words == 0) ≡ b → (x.transfer.words == 0) ≡ false
    by_words true is = absurd (omega (arith, some, eqb-true x.transfer.words 0 is))
    by_words false is = is

    by_free : (b : Bool) → nat_le x.free u ≡ b
        → (nat_le x.free u && is_slot_start x.site.table x.site.slot x.site.core u) ≡ false
    by_free true is = none_right (nat_le x.free u) (is_slot_start x.site.table x.site.slot x.site.core u)
        (no_start (is_slot_start x.site.table x.site.slot x.site.core) t start u
        (is_slot_start x.site.table x.site.slot x.site.core u) next (reach (leb-true x.free u is)) before refl)
    by_free false is = none_left (nat_le x.free u) (is_slot_start x.site.table x.site.slot x.site.core u) is
