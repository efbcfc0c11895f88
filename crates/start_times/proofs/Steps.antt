-- Two clocks in step: where slots start at the moved cycles, all is done at the moved cycles.
use Rattle.std.proofs.Common.{◌≡◌, ℕ, zero, suc, ◌+◌, ◌-◌, ◌==◌, min, Bool, true, false, List, [], ◌∷◌, ◌++◌, map, None, Some, refl, sym, ap, ◌∙◌}
use Rattle.std.proofs.lemmas.List.{map-append}
use Rattle.slot_arbiter.specs.declared.event.Access.{Access}
use Rattle.method_cache.specs.Residents.{resident, is_among, touched}
use Rattle.patmos_instr.specs.declared.functions.StackFunc.TheVariants.{Sres, Sens, Sfree}
use Rattle.patmos_model.specs.Site.{Site}
use Rattle.patmos_model.specs.Bursts.{Burst, slots_of, bursts_in, in_cycles}
use Rattle.core_pace.specs.Pace.{Pace, Event, quick, load, cached, store, stack, came, is_loaded, asks, asked_by, with_line, carried, happened, clock}
use Rattle.core_pace.specs.Spans.{start_in, cycles_from, end_from, accesses_from, moved_by}

module _ (site other : Site) (to : ℕ → ℕ) (next : (t : ℕ) → to (t + 1) ≡ to t + 1)
    (slot : (t : ℕ) → to (t + site.slot) ≡ to t + other.slot)
    (wait : (t : ℕ) → start_in other (to t) ≡ to (start_in site t)) where
  abbrev pub access_at : Access → Access
  access_at a = record a { cycle = to a.cycle }

  abbrev pub pace_at : Pace → Pace
  pace_at p = record p { free = to p.free; accesses = map access_at p.accesses }

  -- the end of a slot that is wanted at the moved cycle
  slot_ends : (t : ℕ) → start_in other (to t) + other.slot ≡ to (start_in site t + site.slot)
  slot_ends t = ap (λ u. u + other.slot) (wait t) ∙ sym (slot (start_in site t))

  end_at : (count t : ℕ) → end_from other count (to t) ≡ to (end_from site count t)
  end_at zero t = refl
  end_at (suc count) t = ap (end_from other count) (slot_ends t) ∙ end_at count (start_in site t + site.slot)

  cycles_at : (count t : ℕ) → cycles_from other count (to t) ≡ map to (cycles_from site count t)
  cycles_at zero t = refl
  cycles_at (suc count) t =
      let rest : cycles_from other count (start_in other (to t) + other.slot)
      ≡ map to (cycles_from site count (start_in site t + site.slot)) =
      ap (cycles_from other count) (slot_ends t) ∙ cycles_at count (start_in site t + site.slot) in
      (λ i. wait t i ∷ rest i)

  moved_cycles : (cycles : List ℕ) (bs : List Burst) → in_cycles (map to cycles) bs
      ≡ map access_at (in_cycles cycles bs)
  moved_cycles [] bs = refl
  moved_cycles (cycle ∷ cycles) [] = refl
  moved_cycles (cycle ∷ cycles) (b ∷ bs) =
      ap (λ l. record { cycle = to cycle; write = b.write; words = b.words } ∷ l) (moved_cycles cycles bs)

  accesses_at : (t : ℕ) (write : Bool) (words : ℕ) → accesses_from other (to t) write words
      ≡ map access_at (accesses_from site t write words)
  accesses_at t write words =
      ap (λ cycles. in_cycles cycles (bursts_in (slots_of words) write words)) (cycles_at (slots_of words) t)
      ∙ moved_cycles (cycles_from site (slots_of words) t) (bursts_in (slots_of words) write words)

  pub carried_at : (p : Pace) → carried other (pace_at p) ≡ pace_at (carried site p)
  carried_at p = by (p.words == 0)
    where
      all : map access_at p.accesses ++ accesses_from other (to p.free) p.write p.words
          ≡ map access_at (p.accesses ++ accesses_from site p.free p.write p.words)
      all =
          ap (λ l. map access_at p.accesses ++ l) (accesses_at p.free p.write p.words)
          ∙ sym (map-append access_at p.accesses (accesses_from site p.free p.write p.words))

      by : (b : Bool) → elim b as (λ _. Pace) [
        | true ↦ pace_at p
        | false ↦ record (pace_at p) {
          free = moved_by other (to p.free) p.words;
          words = 0;
          line = None;
          accesses = map access_at p.accesses ++ accesses_from other (to p.free) p.write p.words;
          loads = with_line p.line p.loads;
        }
      ] ≡ pace_at (elim b as (λ _. Pace) [
        | true ↦ p
        | false ↦ record p {
          free = moved_by site p.free p.words;
          words = 0;
          line = None;
          accesses = p.accesses ++ accesses_from site p.free p.write p.words;
          loads = with_line p.line p.loads;
        }
      ])
      by true = refl
      by false = λ i. record p {
        free = end_at (slots_of p.words) p.free i;
        words = 0;
        line = None;
        accesses = all i;
        loads = with_line p.line p.loads;
      }

  -- a bundle that moves nothing ends with its cycle
  one_more : (p : Pace) → record (pace_at p) { free = to p.free + 1 } ≡ pace_at (record p { free = p.free + 1 })
  one_more p = λ i. record (pace_at p) { free = sym (next p.free) i }

  asks_at : (write : Bool) (words : ℕ) (p : Pace) → asks write words (pace_at p) ≡ pace_at (asks write words p)
  asks_at write words p = by (words == 0)
    where
      by : (b : Bool) → elim b as (λ _. Pace) [
        | true ↦ record (pace_at p) { free = to p.free + 1 }
        | false ↦ record (pace_at p) { write = write; words = words; line = None }
      ] ≡ pace_at (elim b as (λ _. Pace) [
        | true ↦ record p { free = p.free + 1 }
        | false ↦ record p { write = write; words = words; line = None }
      ])
      by true = one_more p
      by false = refl

  asked_at : (e : Event) (p : Pace) → asked_by e (pace_at p) ≡ pace_at (asked_by e p)
  asked_at quick p = one_more p
  asked_at load p = refl
  asked_at (cached address) p = by (is_loaded address p.loads)
    where
      by : (b : Bool) → elim b as (λ _. Pace) [
        | true ↦ record (pace_at p) { free = to p.free + 1; loads = address ∷ p.loads }
        | false ↦ record (pace_at p) { write = false; words = 4; line = Some address }
      ] ≡ pace_at (elim b as (λ _. Pace) [
        | true ↦ record p { free = p.free + 1; loads = address ∷ p.loads }
        | false ↦ record p { write = false; words = 4; line = Some address }
      ])
      by true = one_more (record p { loads = address ∷ p.loads })
      by false = refl
  asked_at store p = refl
  asked_at (stack Sres count) p = asks_at true (count + p.held - 128) (record p { held = min 128 (count + p.held) })
  asked_at (stack Sens count) p = asks_at false (count - p.held) (record p { held = p.held + (count - p.held) })
  asked_at (stack Sfree count) p = one_more (record p { held = p.held - count })
  asked_at (came method) p = by (is_among method.function (resident p.misses))
    where
      by : (b : Bool) → elim b as (λ _. Pace) [
        | true ↦ record (pace_at p) { write = false; words = 0; line = None; misses = touched p.misses method }
        | false ↦ record (pace_at p) {
          write = false;
          words = method.words + 1;
          line = None;
          misses = touched p.misses method;
        }
      ] ≡ pace_at (elim b as (λ _. Pace) [
        | true ↦ record p { write = false; words = 0; line = None; misses = touched p.misses method }
        | false ↦ record p { write = false; words = method.words + 1; line = None; misses = touched p.misses method }
      ])
      by true = refl
      by false = refl

  pub clock_at : (es : List Event) (p : Pace) → clock other es (pace_at p) ≡ pace_at (clock site es p)
  clock_at [] p = refl
  clock_at (e ∷ es) p = ap (clock other es) (ap (carried other) (asked_at e p) ∙ carried_at (asked_by e p))
      ∙ clock_at es (happened site e p)
