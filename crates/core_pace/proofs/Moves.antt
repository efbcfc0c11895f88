-- How a core moves its words, transaction by transaction, and what comes of its pace.
use Rattle.std.proofs.Common.{◌≡◌, ℕ, zero, suc, ◌+◌, ◌-◌, ◌*◌, ◌<◌, ◌≤◌, ◌==◌, min, Bool, true, false, List, [], ◌∷◌, ◌++◌, Option, None, refl, sym, ap, ◌∙◌, subst, arith, append-nil, append_assoc, inl, inr, ◌⊎◌}
use Rattle.std.proofs.lemmas.Bool.{eqb-true, eqb-false, eq-eqb, ne_eqb}
use Rattle.slot_arbiter.specs.Slot.{is_slot_start}
use Rattle.slot_arbiter.specs.Order.{IsNext}
use Rattle.shared_order.specs.Program.{and_then}
use Rattle.patmos_model.specs.declared.flow.Flow.{Flow}
use Rattle.patmos_model.specs.declared.state.Status.{Status}
use Rattle.patmos_model.specs.declared.state.Status.TheVariants.{Running}
use Rattle.patmos_model.specs.Site.{Site}
use Rattle.patmos_model.specs.State.{Core}
use Rattle.patmos_model.specs.Cells.{Acted}
use Rattle.patmos_model.specs.Cycle.{settled}
use Rattle.patmos_model.specs.Apart.{after_own}
use Rattle.patmos_model.specs.Transaction.{transaction}
use Rattle.patmos_model.specs.Bursts.{slots_of, bursts_in, in_cycles}
use Rattle.patmos_model.proofs.Leaves.{Leaves}
use Rattle.core_pace.specs.Spans.{IsSlotted, start_in, cycles_from, end_from, accesses_from, moved_by}
use Rattle.core_pace.specs.Moment.{Moment, core_in, done_in, Passes}
use Rattle.core_pace.specs.Next.{IsDue, transacted, waited, until, moved_once, moved, freed, all_moved}
use Rattle.core_pace.specs.Pace.{Pace, pace_of, with_line, carried}
use Rattle.core_pace.proofs.Parts.{leaves_map}
use Rattle.core_pace.proofs.OwnActs.{Sleeps, none_done, idle_or_busy, not_free, sleeps_early, transaction_own, all_of_it}
use Rattle.core_pace.proofs.Answered.{LeavesAs, bursted, leaves_transaction}
use Rattle.core_pace.proofs.SlotStarts.{start_is_next}
use Rattle.core_pace.proofs.Waits.{Enters, waited_same, waited_cycle, until_cycle, acting_leaves, acts_first, enters, waits, waits_free, waits_slot}

-- a core at a moment: its site, status, flow and pace
pub record IsLeft (site : Site) (status : Status) (flow : Option Flow) (p : Pace) (c : Core) : Type 0 where
  pub site_is : c.plain.site ≡ site
  pub status_is : c.plain.status ≡ status
  pub flow_is : c.plain.flow ≡ flow
  pub pace : pace_of c ≡ p

-- the core of one moment is left so by another
abbrev pub Becomes : Moment → Pace → Moment → Type 0
Becomes m p m' = IsLeft (core_in m).plain.site (core_in m).plain.status (core_in m).plain.flow p (core_in m')

becomes_then : (m m' m'' : Moment) (p : Pace) → Becomes m p m' → Becomes m' (pace_of (core_in m')) m'' → Becomes m p m''
becomes_then m m' m'' p one two = record {
  site_is = two.site_is ∙ one.site_is;
  status_is = two.status_is ∙ one.status_is;
  flow_is = two.flow_is ∙ one.flow_is;
  pace = two.pace ∙ one.pace;
}

pub becomes_after : (m m' m'' : Moment) (p q : Pace) → Becomes m p m' → Becomes m' q m'' → Becomes m q m''
becomes_after m m' m'' p q one two = record {
  site_is = two.site_is ∙ one.site_is;
  status_is = two.status_is ∙ one.status_is;
  flow_is = two.flow_is ∙ one.flow_is;
  pace = two.pace;
}

-- ---- the pace of transactions one after another

abbrev pub bursts_on : Site → ℕ → ℕ → Pace → Pace
bursts_on site zero t p = p
bursts_on site (suc count) t p = bursts_on site count (start_in site t + site.slot) (bursted site (start_in site t) p)

record IsBursted (site : Site) (count t : ℕ) (p q : Pace) : Type 0 where
  free : q.free ≡ end_from site count t
  write : q.write ≡ p.write
  words : q.words ≡ p.words - 4 * count
  line : with_line q.line q.loads ≡ with_line p.line p.loads
  accesses : q.accesses ≡ p.accesses ++ in_cycles (cycles_from site count t) (bursts_in count p.write p.words)
  misses : q.misses ≡ p.misses
  held : q.held ≡ p.held

is_bursted : (site : Site) (count t : ℕ) (p : Pace) → p.free ≡ t → IsBursted site count t p (bursts_on site count t p)
is_bursted site zero t p free = record {
  free = free;
  write = refl;
  words = omega arith;
  line = refl;
  accesses = sym (append-nil p.accesses);
  misses = refl;
  held = refl;
}
is_bursted site (suc count) t p free =
    let u : ℕ = start_in site t in
    let after : IsBursted site count (u + site.slot) (bursted site u p) (bursts_on site count (u + site.slot)
    (bursted site u p)) =
    is_bursted site count (u + site.slot) (bursted site u p) refl in
    record {
      free = after.free;
      write = after.write;
      words = after.words ∙ (let fewer : p.words - 4 - 4 * count ≡ p.words - 4 * suc count = omega arith in fewer);
      line = after.line;
      accesses = after.accesses
          ∙ append_assoc p.accesses (record { cycle = u; write = p.write; words = min 4 p.words } ∷ []) (in_cycles
          (cycles_from site count (u + site.slot)) (bursts_in count p.write (p.words - 4)));
      misses = after.misses;
      held = after.held;
    }

-- no line is on its way after a transaction
no_line_left : (site : Site) (count t : ℕ) (p : Pace) → p.line ≡ None → (bursts_on site count t p).line ≡ None
no_line_left site zero t p none = none
no_line_left site (suc count) t p none =
    no_line_left site count (start_in site t + site.slot) (bursted site (start_in site t) p) refl

no_line_after : (site : Site) (count t : ℕ) (p : Pace) → 0 < count → (bursts_on site count t p).line ≡ None
no_line_after site zero t p some = absurd (omega (arith, some))
no_line_after site (suc count) t p some =
    no_line_left site count (start_in site t + site.slot) (bursted site (start_in site t) p) refl

-- as many transactions as the words take carry all of them
pub bursts_carry : (site : Site) (p : Pace) → bursts_on site (slots_of p.words) p.free p ≡ carried site p
bursts_carry site p = by (p.words == 0) refl
  where
    count : ℕ
    count = slots_of p.words

    q : Pace
    q = bursts_on site count p.free p

    by : (b : Bool) → (p.words == 0) ≡ b → q ≡ elim b as (λ _. Pace) [
      | true ↦ p
      | false ↦ record p {
        free = moved_by site p.free p.words;
        words = 0;
        line = None;
        accesses = p.accesses ++ accesses_from site p.free p.write p.words;
        loads = with_line p.line p.loads;
      }
    ]
    by true is = let none : slots_of p.words ≡ 0 = omega (arith, eqb-true p.words 0 is) in
        ap (λ k. bursts_on site k p.free p) none
    by false is =
        let some : p.words ≡ 0 → ⊥ = eqb-false p.words 0 is in
        let h : IsBursted site count p.free p q = is_bursted site count p.free p refl in
        let line : q.line ≡ None = no_line_after site count p.free p (omega (arith, some)) in
        let words : q.words ≡ 0 = h.words ∙ omega (arith, some) in
        let loads : q.loads ≡ with_line p.line p.loads = ap (λ l. with_line l q.loads) (sym line) ∙ h.line in
        λ i. record {
          free = h.free i;
          write = h.write i;
          words = words i;
          line = line i;
          accesses = h.accesses i;
          misses = h.misses i;
          loads = loads i;
          held = h.held i;
        }

pub carried_words : (site : Site) (p : Pace) → (carried site p).words ≡ 0
carried_words site p = by (p.words == 0) refl
  where
    by : (b : Bool) → (p.words == 0) ≡ b → (elim b as (λ _. Pace) [
      | true ↦ p
      | false ↦ record p {
        free = moved_by site p.free p.words;
        words = 0;
        line = None;
        accesses = p.accesses ++ accesses_from site p.free p.write p.words;
        loads = with_line p.line p.loads;
      }
    ]).words ≡ 0
    by true is = eqb-true p.words 0 is
    by false is = refl

-- where no line is on its way, or one comes with words, none is afterwards
pub carried_line : (site : Site) (p : Pace) → (0 < p.words) ⊎ (p.line ≡ None) → (carried site p).line ≡ None
carried_line site p h = by (p.words == 0) refl h
  where
    by : (b : Bool) → (p.words == 0) ≡ b → (0 < p.words) ⊎ (p.line ≡ None) → (elim b as (λ _. Pace) [
      | true ↦ p
      | false ↦ record p {
        free = moved_by site p.free p.words;
        words = 0;
        line = None;
        accesses = p.accesses ++ accesses_from site p.free p.write p.words;
        loads = with_line p.line p.loads;
      }
    ]).line ≡ None
    by true is (inl some) = absurd (omega (arith, some, eqb-true p.words 0 is))
    by true is (inr none) = none
    by false is h = refl

-- no time is gone back
end_grows : (site : Site) (count t : ℕ) → IsSlotted site → t ≤ end_from site count t
end_grows site zero t slots = omega arith
end_grows site (suc count) t slots =
    let next : IsNext (is_slot_start site.table site.slot site.core) t (start_in site t) =
    start_is_next site.table site.slot site.core t slots in
    omega (arith, next.from, end_grows site count (start_in site t + site.slot) slots)

pub carried_free : (site : Site) (p : Pace) → IsSlotted site → p.free ≤ (carried site p).free
carried_free site p slots = by (p.words == 0)
  where
    by : (b : Bool) → p.free ≤ (elim b as (λ _. Pace) [
      | true ↦ p
      | false ↦ record p {
        free = moved_by site p.free p.words;
        words = 0;
        line = None;
        accesses = p.accesses ++ accesses_from site p.free p.write p.words;
        loads = with_line p.line p.loads;
      }
    ]).free
    by true = omega arith
    by false = end_grows site (slots_of p.words) p.free slots

-- and words that are moved take time
pub carried_later : (site : Site) (p : Pace) → IsSlotted site → 0 < p.words → p.free < (carried site p).free
carried_later site p slots some =
    subst (λ b. p.free < (by_test b).free) (sym none) (after (slots_of p.words) (omega (arith, some)))
  where
    by_test : Bool → Pace
    by_test b = elim b as (λ _. Pace) [
      | true ↦ p
      | false ↦ record p {
        free = moved_by site p.free p.words;
        words = 0;
        line = None;
        accesses = p.accesses ++ accesses_from site p.free p.write p.words;
        loads = with_line p.line p.loads;
      }
    ]

    none : (p.words == 0) ≡ false
    none = ne_eqb p.words 0 (λ e. omega (arith, some, e))

    after : (count : ℕ) → 0 < count → p.free < end_from site count p.free
    after zero positive = absurd (omega (arith, positive))
    after (suc count) positive =
        let next : IsNext (is_slot_start site.table site.slot site.core) p.free (start_in site p.free) =
        start_is_next site.table site.slot site.core p.free slots in
        omega (arith, next.from, slots.lasts, end_grows site count (start_in site p.free + site.slot) slots)

-- with nothing to move the pace stays
pub carried_idle : (site : Site) (p : Pace) → p.words ≡ 0 → carried site p ≡ p
carried_idle site p none = ap (λ b. elim b as (λ _. Pace) [
  | true ↦ p
  | false ↦ record p {
    free = moved_by site p.free p.words;
    words = 0;
    line = None;
    accesses = p.accesses ++ accesses_from site p.free p.write p.words;
    loads = with_line p.line p.loads;
  }
]) (eq-eqb p.words 0 none)

-- ---- the run

-- a core that has words to move from this cycle on, and slots to move them in
pub record IsMoving (m : Moment) : Type 0 where
  pub running : (core_in m).plain.status ≡ Running
  pub some : 0 < (core_in m).plain.transfer.words
  pub from : (core_in m).plain.free ≤ m.cycle

module _ (n core : ℕ) where
  pub waited_becomes : (d : ℕ) (m : Moment) → Becomes m (pace_of (core_in m)) (waited n core d m)
  waited_becomes d m = record {
    site_is = ap (λ (c : Core). c.plain.site) (waited_same n core d m);
    status_is = ap (λ (c : Core). c.plain.status) (waited_same n core d m);
    flow_is = ap (λ (c : Core). c.plain.flow) (waited_same n core d m);
    pace = ap pace_of (waited_same n core d m);
  }

  transacted_becomes : (m : Moment) → Becomes m (bursted (core_in m).plain.site m.cycle (pace_of (core_in m)))
      (transacted n core m)
  transacted_becomes m =
      let c : Core = core_in m in
      let p : Pace = bursted c.plain.site m.cycle (pace_of c) in
      acting_leaves n core (IsLeft c.plain.site c.plain.status c.plain.flow p) (transaction m.cycle c) m
      (leaves_map (LeavesAs ⊥ c.plain.site c.plain.status c.plain.flow p)
      (λ (y : Acted). IsLeft c.plain.site c.plain.status c.plain.flow p y.core)
      (λ y h. record { site_is = h.site_is; status_is = h.status_is; flow_is = h.flow_is; pace = h.pace })
      (transaction m.cycle c) (leaves_transaction c m.cycle))

  module _ (x : Core) (values : List ℕ) where
    -- a transaction is all of the task's part in its cycle
    transaction_passes : (m : Moment) → IsMoving m → 0 < (core_in m).plain.site.slot
        → is_slot_start (core_in m).plain.site.table (core_in m).plain.site.slot (core_in m).plain.site.core m.cycle
        ≡ true
        → Passes n core x values m → Passes n core x values (transacted n core m)
    transaction_passes m moving lasts start passes =
        passes ∙ (λ i. record { cycle = suc m.cycle; told = told i; bundles = bundles i })
      where
        c : Core
        c = core_in m

        u : ℕ
        u = m.cycle

        rests : Leaves (λ (y : Acted). Sleeps u y.core.plain) (transaction u c)
        rests = leaves_map (LeavesAs ⊥ c.plain.site c.plain.status c.plain.flow (bursted c.plain.site u (pace_of c)))
            (λ (y : Acted). Sleeps u y.core.plain)
            (λ y h. sleeps_early y.core.plain u
            (let free : y.core.plain.free ≡ u + c.plain.site.slot = ap (λ (p : Pace). p.free) h.pace in
            omega (arith, free, lasts)))
            (transaction u c) (leaves_transaction c u)

        told : after_own n core u m.told ≡ after_own n core u (transacted n core m).told
        told = acts_first n core (transaction u c) m
            (ap (λ p. and_then p settled) (transaction_own c u moving.running moving.some moving.from start)
            ∙ all_of_it u (transaction u c) rests)

        asleep_then : Sleeps u (core_in (transacted n core m)).plain
        asleep_then = acting_leaves n core (λ (d : Core). Sleeps u d.plain) (transaction u c) m rests

        bundles : m.bundles ++ done_in u c ≡ m.bundles ++ done_in u (core_in (transacted n core m))
        bundles = ap (λ l. m.bundles ++ l)
            (none_done c u (inr (not_free c.plain u moving.some))
            ∙ sym (none_done (core_in (transacted n core m)) u (idle_or_busy (core_in (transacted n core m))
            u asleep_then)))

    -- one transaction, from the cycle in which it is wanted to the end of its slot
    pub record IsMovedOnce (m : Moment) : Type 0 where
      pub passes : Passes n core x values (moved_once n core m)
      pub enters_it : Enters n core x values (moved_once n core m)
      pub cycle : (moved_once n core m).cycle ≡ start_in (core_in m).plain.site m.cycle + (core_in m).plain.site.slot
      pub left : Becomes m (bursted (core_in m).plain.site (start_in (core_in m).plain.site m.cycle)
          (pace_of (core_in m))) (moved_once n core m)

    moves_once : (m : Moment) → IsMoving m → IsSlotted (core_in m).plain.site → Passes n core x values m → IsMovedOnce m
    moves_once m moving slots passes =
        let site : Site = (core_in m).plain.site in
        let u : ℕ = start_in site m.cycle in
        let next : IsNext (is_slot_start site.table site.slot site.core) m.cycle u =
        start_is_next site.table site.slot site.core m.cycle slots in
        let at : Moment = until n core u m in
        let there : at.cycle ≡ u = until_cycle n core u m next.from in
        let same : Becomes m (pace_of (core_in m)) at = waited_becomes (u - m.cycle) m in
        let words : (core_in at).plain.transfer.words ≡ (core_in m).plain.transfer.words =
        ap (λ (p : Pace). p.words) same.pace in
        let free : (core_in at).plain.free ≡ (core_in m).plain.free = ap (λ (p : Pace). p.free) same.pace in
        let moving_there : IsMoving at = record {
          running = same.status_is ∙ moving.running;
          some = omega (arith, words, moving.some);
          from = omega (arith, free, there, moving.from, next.from);
        } in
        let start_there : is_slot_start (core_in at).plain.site.table (core_in at).plain.site.slot
        (core_in at).plain.site.core at.cycle ≡ true =
        (λ i. is_slot_start (same.site_is i).table (same.site_is i).slot (same.site_is i).core (there i))
        ∙ next.passes in
        let lasts : 0 < (core_in at).plain.site.slot =
        subst (λ (s : Site). 0 < s.slot) (sym same.site_is) slots.lasts in
        let done_there : Passes n core x values (transacted n core at) =
        transaction_passes at moving_there lasts start_there (waits_slot n core x values u m moving.some next passes) in
        let burst : Becomes at (bursted (core_in at).plain.site at.cycle (pace_of (core_in at)))
        (transacted n core at) = transacted_becomes at in
        let burst_here : Becomes m (bursted site u (pace_of (core_in m))) (transacted n core at) = record {
          site_is = burst.site_is ∙ same.site_is;
          status_is = burst.status_is ∙ same.status_is;
          flow_is = burst.flow_is ∙ same.flow_is;
          pace = burst.pace ∙ (λ i. bursted (same.site_is i) (there i) (same.pace i));
        } in
        let ends : (core_in (transacted n core at)).plain.free ≡ u + site.slot =
        ap (λ (p : Pace). p.free) burst_here.pace in
        record {
          enters_it = enters n core x values site.slot (transacted n core at) slots.lasts
              (λ k below. sleeps_early (core_in (transacted n core at)).plain (at.cycle + k)
              (omega (arith, ends, there, below))) done_there;
          passes = waits n core x values site.slot (transacted n core at)
              (λ k below. sleeps_early (core_in (transacted n core at)).plain (at.cycle + k)
              (omega (arith, ends, there, below))) done_there;
          cycle = waited_cycle n core site.slot (transacted n core at) ∙ ap (λ v. v + site.slot) there;
          left = becomes_then m (transacted n core at) (moved_once n core m) (bursted site u (pace_of (core_in m)))
              burst_here (waited_becomes site.slot (transacted n core at));
        }

    -- so many transactions
    pub record IsMovedOn (count : ℕ) (m : Moment) : Type 0 where
      pub passes : Passes n core x values (moved n core count m)
      pub enters_it : 0 < count → Enters n core x values (moved n core count m)
      pub cycle : (moved n core count m).cycle ≡ end_from (core_in m).plain.site count m.cycle
      pub left : Becomes m (bursts_on (core_in m).plain.site count m.cycle (pace_of (core_in m))) (moved n core count m)

    -- after the last of them the run comes to a cycle of its own
    last_entered : (count : ℕ) (m : Moment) → Enters n core x values m
        → (0 < count → Enters n core x values (moved n core count m)) → Enters n core x values (moved n core count m)
    last_entered zero m here later = here
    last_entered (suc count) m here later = later (omega arith)

    pub moves_on : (count : ℕ) (m : Moment) → count ≡ slots_of (core_in m).plain.transfer.words
        → (0 < (core_in m).plain.transfer.words → ((core_in m).plain.status ≡ Running)
        × ((core_in m).plain.free ≡ m.cycle))
        → IsSlotted (core_in m).plain.site → Passes n core x values m → IsMovedOn count m
    moves_on zero m count due slots passes = record {
      passes = passes;
      enters_it = λ some. absurd (omega (arith, some));
      cycle = refl;
      left = record { site_is = refl; status_is = refl; flow_is = refl; pace = refl };
    }
    moves_on (suc count) m is due slots passes =
        let site : Site = (core_in m).plain.site in
        let words : ℕ = (core_in m).plain.transfer.words in
        let some : 0 < words = omega (arith, is) in
        let now_due = due some in
        let one : IsMovedOnce m =
        moves_once m (record { running = now_due.0; some = some; from = omega (arith, now_due.1) }) slots passes in
        let m' : Moment = moved_once n core m in
        let fewer : (core_in m').plain.transfer.words ≡ words - 4 = ap (λ (p : Pace). p.words) one.left.pace in
        let free : (core_in m').plain.free ≡ start_in site m.cycle + site.slot =
        ap (λ (p : Pace). p.free) one.left.pace in
        let rest : IsMovedOn count m' =
        moves_on count m' (omega (arith, is, fewer, some)) (λ more. (
          one.left.status_is ∙ now_due.0,
          free
              ∙ sym one.cycle,
        ))
        (subst IsSlotted (sym one.left.site_is) slots) one.passes in
        record {
          passes = rest.passes;
          enters_it = λ more. last_entered count m' one.enters_it rest.enters_it;
          cycle = rest.cycle ∙ (λ i. end_from (one.left.site_is i) count (one.cycle i));
          left = becomes_after m m' (moved n core (suc count) m) _ (bursts_on site (suc count) m.cycle
              (pace_of (core_in m))) one.left (record {
                site_is = rest.left.site_is;
                status_is = rest.left.status_is;
                flow_is = rest.left.flow_is;
                pace = rest.left.pace ∙ (λ i. bursts_on (one.left.site_is i) count (one.cycle i) (one.left.pace i));
              });
        }

    -- what a core that is to move its words from this cycle on, or none, comes to
    pub record IsAllMoved (m : Moment) : Type 0 where
      pub passes : Passes n core x values (all_moved n core m)
      pub enters_it : m.cycle < (core_in (all_moved n core m)).plain.free → Enters n core x values (all_moved n core m)
      pub cycle : (all_moved n core m).cycle ≡ (core_in (all_moved n core m)).plain.free
      pub words : (core_in (all_moved n core m)).plain.transfer.words ≡ 0
      pub left : Becomes m (carried (core_in m).plain.site (pace_of (core_in m))) (all_moved n core m)

    pub moves_all : (m : Moment) → IsDue m → Passes n core x values m → IsAllMoved m
    moves_all m due passes = record {
      passes = waits_free n core x values m' on.passes;
      enters_it = entered;
      cycle = until_cycle n core (core_in m').plain.free m' near ∙ sym free_then;
      words = ap (λ (p : Pace). p.words) left.pace ∙ carried_words site p;
      left = left;
    }
      where
        site : Site
        site = (core_in m).plain.site

        p : Pace
        p = pace_of (core_in m)

        count : ℕ
        count = slots_of p.words

        m' : Moment
        m' = moved n core count m

        on : IsMovedOn count m
        on = moves_on count m refl due.moving due.slots passes

        none_or_some : (p.words ≡ 0) ⊎ (0 < p.words)
        none_or_some = by (p.words == 0) refl
          where
            by : (b : Bool) → (p.words == 0) ≡ b → (p.words ≡ 0) ⊎ (0 < p.words)
            by true is = inl (eqb-true p.words 0 is)
            by false is = inr (let some : p.words ≡ 0 → ⊥ = eqb-false p.words 0 is in omega (arith, some))

        carries : bursts_on site count m.cycle p ≡ carried site p
        carries = elim none_or_some [
          | inl none ↦
              let no_slots : count ≡ 0 = omega (arith, none) in
              ap (λ k. bursts_on site k m.cycle p) no_slots ∙ sym (ap (λ k. bursts_on site k p.free p) no_slots)
              ∙ bursts_carry site p
          | inr some ↦ ap (λ t. bursts_on site count t p) (sym (due.moving some).1) ∙ bursts_carry site p
        ]

        near : m'.cycle ≤ (core_in m').plain.free
        near = elim none_or_some [
          | inl none ↦
              let no_slots : count ≡ 0 = omega (arith, none) in
              let here : m'.cycle ≡ m.cycle = on.cycle ∙ ap (λ k. end_from site k m.cycle) no_slots in
              let free : (core_in m').plain.free ≡ p.free =
              ap (λ (q : Pace). q.free) on.left.pace ∙ ap (λ k. (bursts_on site k m.cycle p).free) no_slots in
              omega (arith, here, free, due.near)
          | inr some ↦
              let free : (core_in m').plain.free ≡ end_from site count m.cycle =
              ap (λ (q : Pace). q.free) on.left.pace ∙ (is_bursted site count m.cycle p (due.moving some).1).free in
              omega (arith, on.cycle, free)
        ]

        wait : Becomes m' (pace_of (core_in m')) (freed n core m')
        wait = waited_becomes ((core_in m').plain.free - m'.cycle) m'

        free_then : (core_in (freed n core m')).plain.free ≡ (core_in m').plain.free
        free_then = ap (λ (q : Pace). q.free) wait.pace

        left : Becomes m (carried site p) (all_moved n core m)
        left = record {
          site_is = wait.site_is ∙ on.left.site_is;
          status_is = wait.status_is ∙ on.left.status_is;
          flow_is = wait.flow_is ∙ on.left.flow_is;
          pace = wait.pace ∙ on.left.pace ∙ carries;
        }

        -- waited for, or at the end of the last slot
        entered : m.cycle < (core_in (all_moved n core m)).plain.free → Enters n core x values (all_moved n core m)
        entered late = elim none_or_some [
          | inl none ↦
              let no_slots : count ≡ 0 = omega (arith, none) in
              let same : all_moved n core m ≡ freed n core m = ap (λ k. freed n core (moved n core k m)) no_slots in
              let free : (core_in (all_moved n core m)).plain.free ≡ p.free =
              ap (λ (z : Moment). (core_in z).plain.free) same ∙ ap (λ (c : Core). c.plain.free) (waited_same n core
              (p.free - m.cycle) m) in
              subst (Enters n core x values) (sym same)
              (enters n core x values (p.free - m.cycle) m (omega (arith, late, free))
              (λ k below. sleeps_early (core_in m).plain (m.cycle + k) (omega (arith, below))) passes)
          | inr some ↦
              let free : (core_in m').plain.free ≡ end_from site count m.cycle =
              ap (λ (q : Pace). q.free) on.left.pace ∙ (is_bursted site count m.cycle p (due.moving some).1).free in
              let none_left : (core_in m').plain.free - m'.cycle ≡ 0 = omega (arith, on.cycle, free) in
              let same : freed n core m' ≡ m' = ap (λ d. waited n core d m') none_left in
              subst (Enters n core x values) (sym same) (on.enters_it (omega (arith, some)))
        ]
