-- A clock that begins whole periods later does the same so much later; and it depends on no more of its start than the
-- slot that comes first.
use Rattle.std.proofs.Common.{◌≡◌, ℕ, zero, suc, ◌+◌, ◌-◌, ◌*◌, ◌/◌, ◌<◌, ◌==◌, Bool, true, false, List, ◌∷◌, ◌++◌, map, None, refl, sym, ap, ◌∙◌, arith}
use Rattle.std.proofs.lemmas.Bool.{eqb-true}
use Rattle.std.proofs.lemmas.List.{map-id}
use Rattle.method_cache.specs.declared.cache.Method.{Method}
use Rattle.slot_arbiter.specs.Slot.{is_slot_start, period}
use Rattle.patmos_model.specs.Site.{Site}
use Rattle.patmos_model.specs.Bursts.{slots_of, bursts_in, in_cycles}
use Rattle.core_pace.specs.Pace.{Pace, Event, came, asked_by, with_line, carried, happened, clock}
use Rattle.core_pace.specs.Run.{starting}
use Rattle.core_pace.specs.Spans.{IsSlotted, start_in, cycles_from, end_from, accesses_from, moved_by}
use Rattle.core_pace.specs.Starts.{first_passing}
use Rattle.core_pace.proofs.SlotStarts.{rounds_on}
use Rattle.start_times.proofs.Steps.{pace_at, carried_at, clock_at}

-- a test that comes round is passed so much later
first_later : (test : ℕ → Bool) (far : ℕ) → ((t : ℕ) → test (t + far) ≡ test t) → (count t : ℕ)
    → first_passing test count (t + far) ≡ first_passing test count t + far
first_later test far round zero t = refl
first_later test far round (suc count) t =
    ap (λ b. elim b as (λ _. ℕ) [ true ↦ t + far | false ↦ first_passing test count (t + far + 1) ]) (round t)
    ∙ by (test t) (first_later test far round count (t + 1))
  where
    next : t + far + 1 ≡ t + 1 + far
    next = omega arith

    by : (b : Bool) → first_passing test count (t + 1 + far) ≡ first_passing test count (t + 1) + far
        → elim b as (λ _. ℕ) [ true ↦ t + far | false ↦ first_passing test count (t + far + 1) ]
        ≡ (elim b as (λ _. ℕ) [ true ↦ t | false ↦ first_passing test count (t + 1) ]) + far
    by true rest = refl
    by false rest = ap (first_passing test count) next ∙ rest

-- the site, with a start
abbrev pub started : Site → ℕ → Site
started site start = record site { start = start }

module _ (site : Site) where
  pub period_later : IsSlotted site → (periods t : ℕ) → start_in site (t + periods * period site.table site.slot)
      ≡ start_in site t + periods * period site.table site.slot
  period_later slots periods t =
      let far : ℕ = periods * period site.table site.slot in
      let round : (u : ℕ) → is_slot_start site.table site.slot site.core (u + far)
      ≡ is_slot_start site.table site.slot site.core u =
      λ u. let iteration : u + far ≡ far + u = omega arith in
      ap (is_slot_start site.table site.slot site.core) iteration
      ∙ rounds_on site.table site.slot site.core periods u slots.lasts in
      first_later (is_slot_start site.table site.slot site.core) far round (period site.table site.slot) t

  -- whole periods later
  pub clock_later : (slots : IsSlotted site) (periods t : ℕ) (es : List Event) → let far =
      periods * period site.table site.slot in
      clock (started site (t + far)) es (starting (started site (t + far)))
      ≡ pace_at (started site t) (started site (t + far)) (λ u. u + far) (λ u. omega arith) (λ u. omega arith)
      (period_later slots periods) (clock (started site t) es (starting (started site t)))
  clock_later slots periods t es =
      let far : ℕ = periods * period site.table site.slot in
      clock_at (started site t) (started site (t + far)) (λ u. u + far) (λ u. omega arith) (λ u. omega arith)
      (period_later slots periods) es (starting (started site t))

  -- the clock itself does not look at the start
  still : (p : Pace) → record p { accesses = map (λ a. a) p.accesses } ≡ p
  still p = λ i. record p { accesses = map-id p.accesses i }

  clock_any : (start other : ℕ) (es : List Event) (p : Pace) → clock (started site other) es p
      ≡ clock (started site start) es p
  clock_any start other es p =
      sym (ap (clock (started site other) es) (still p))
      ∙ clock_at (started site start) (started site other) (λ u. u) (λ u. refl) (λ u. refl) (λ u. refl) es p
      ∙ still (clock (started site start) es p)

  carried_any : (start other : ℕ) (p : Pace) → carried (started site other) p ≡ carried (started site start) p
  carried_any start other p =
      sym (ap (carried (started site other)) (still p))
      ∙ carried_at (started site start) (started site other) (λ u. u) (λ u. refl) (λ u. refl) (λ u. refl) p
      ∙ still (carried (started site start) p)

  -- words are moved from the next slot on
  carried_next : (t u : ℕ) (p : Pace) → 0 < p.words → start_in site t ≡ start_in site u
      → carried site (record p { free = t }) ≡ carried site (record p { free = u })
  carried_next t u p some next = by (p.words == 0) refl
    where
      slots : slots_of p.words ≡ suc ((p.words - 1) / 4)
      slots = omega (arith, some)

      ends : (count : ℕ) → count ≡ suc ((p.words - 1) / 4) → end_from site count t ≡ end_from site count u
      ends zero is = absurd (omega (arith, is))
      ends (suc count) is = ap (λ v. end_from site count (v + site.slot)) next

      cycles : (count : ℕ) → count ≡ suc ((p.words - 1) / 4) → cycles_from site count t ≡ cycles_from site count u
      cycles zero is = absurd (omega (arith, is))
      cycles (suc count) is = ap (λ v. v ∷ cycles_from site count (v + site.slot)) next

      by : (b : Bool) → (p.words == 0) ≡ b → elim b as (λ _. Pace) [
        | true ↦ record p { free = t }
        | false ↦ record p {
          free = moved_by site t p.words;
          words = 0;
          line = None;
          accesses = p.accesses
              ++ accesses_from site t p.write p.words;
          loads = with_line p.line p.loads;
        }
      ] ≡ elim b as (λ _. Pace) [
        | true ↦ record p { free = u }
        | false ↦ record p {
          free = moved_by site u p.words;
          words = 0;
          line = None;
          accesses = p.accesses
              ++ accesses_from site u p.write p.words;
          loads = with_line p.line p.loads;
        }
      ]
      by true none = absurd (omega (arith, some, eqb-true p.words 0 none))
      by false some = λ i. record p {
        free = ends (slots_of p.words) slots i;
        words = 0;
        line = None;
        accesses = p.accesses ++ in_cycles (cycles (slots_of p.words) slots i) (bursts_in (slots_of p.words)
            p.write p.words);
        loads = with_line p.line p.loads;
      }

  -- a task that has the same slot first does all at the same cycles
  pub clock_from_slot : (t u : ℕ) (method : Method) (es : List Event) → start_in site t ≡ start_in site u
      → clock (started site t) (came method ∷ es) (starting (started site t))
      ≡ clock (started site u) (came method ∷ es) (starting (started site u))
  clock_from_slot t u method es next =
      clock_any u t es (happened (started site t) (came method) (starting (started site t)))
      ∙ ap (clock (started site u) es)
      (carried_any u t (asked_by (came method) (starting (started site t)))
      ∙ carried_next t u (asked_by (came method) (starting (started site t))) (omega arith) next)
