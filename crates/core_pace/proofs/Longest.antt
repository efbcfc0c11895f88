-- Events take no longer than their bundles and transactions.
use Rattle.std.proofs.Common.{◌≡◌, ℕ, zero, suc, ◌+◌, ◌-◌, ◌*◌, ◌<◌, ◌≤◌, ◌==◌, min, Bool, true, false, List, [], ◌∷◌, ◌++◌, length, length-append, None, Some, refl, ap, ◌∙◌, arith}
use Rattle.method_cache.specs.Residents.{resident, is_among, touched}
use Rattle.stack_cache.specs.declared.slots.TheConstants.{STACK_CACHE_WORDS}
use Rattle.patmos_instr.specs.declared.functions.StackFunc.TheVariants.{Sres, Sens, Sfree}
use Rattle.slot_arbiter.specs.Slot.{is_slot_start}
use Rattle.slot_arbiter.specs.Order.{IsNext}
use Rattle.patmos_model.specs.Site.{Site}
use Rattle.patmos_model.specs.Bursts.{slots_of, bursts_in, in_cycles}
use Rattle.core_pace.specs.Starts.{gap_in}
use Rattle.core_pace.specs.Spans.{IsSlotted, start_in, cycles_from, end_from, accesses_from, moved_by}
use Rattle.core_pace.specs.Pace.{Pace, Event, quick, load, cached, store, stack, came, is_loaded, asks, asked_by, with_line, carried, clock}
use Rattle.core_pace.specs.Bound.{most_in_slot, bundles_of, bundles_among}
use Rattle.core_pace.proofs.SlotStarts.{start_is_next, gap_outlasts}

-- as many transactions as there are slots
made_in : (site : Site) (count : ℕ) (t words : ℕ) (write : Bool) → length (in_cycles (cycles_from site count t)
    (bursts_in count write words)) ≡ count
made_in site zero t words write = refl
made_in site (suc count) t words write = ap suc (made_in site count (start_in site t + site.slot) (words - 4) write)

-- each takes no more than its most
pub ends_within : (site : Site) (count t : ℕ) → IsSlotted site → end_from site count t ≤ t + most_in_slot site * count
ends_within site zero t slots = omega arith
ends_within site (suc count) t slots =
    let u : ℕ = start_in site t in
    let next : IsNext (is_slot_start site.table site.slot site.core) t u =
    start_is_next site.table site.slot site.core t slots in
    let wait : u < t + gap_in site.table site.slot site.core =
    (gap_outlasts site.table site.slot site.core slots).wait t u next in
    let rest : end_from site count (u + site.slot) ≤ u + site.slot + most_in_slot site * count =
    ends_within site count (u + site.slot) slots in
    let one : u + site.slot ≤ t + most_in_slot site = omega (arith, wait) in
    omega (arith, rest, one)

-- what an event asks for takes one cycle if it is a bundle's, and makes no transaction yet
record AsksWithin (e : Event) (p q : Pace) : Type 0 where
  free : q.free ≤ p.free + bundles_of e
  accesses : q.accesses ≡ p.accesses

within_asks : (write : Bool) (words held : ℕ) (e : Event) (p : Pace) → bundles_of e ≡ 1
    → AsksWithin e p (asks write words (record p { held = held }))
within_asks write words held e p one = by (words == 0)
  where
    by : (b : Bool)
        → AsksWithin e p (elim b as (λ _. Pace) [
          | true ↦ record p { held = held; free = p.free + 1 }
          | false ↦
              record p { held = held; write = write; words = words; line = None }
        ])
    by true = record { free = omega (arith, one); accesses = refl }
    by false = record { free = omega arith; accesses = refl }

asks_within : (e : Event) (p : Pace) → AsksWithin e p (asked_by e p)
asks_within quick p = record { free = omega arith; accesses = refl }
asks_within load p = record { free = omega arith; accesses = refl }
asks_within (cached address) p = by (is_loaded address p.loads)
  where
    by : (b : Bool) → AsksWithin (cached address) p (elim b as (λ _. Pace) [
      | true ↦ record p { free = p.free + 1; loads = address ∷ p.loads }
      | false ↦ record p { write = false; words = 4; line = Some address }
    ])
    by true = record { free = omega arith; accesses = refl }
    by false = record { free = omega arith; accesses = refl }
asks_within store p = record { free = omega arith; accesses = refl }
asks_within (stack Sres count) p = within_asks true (count + p.held - STACK_CACHE_WORDS)
    (min STACK_CACHE_WORDS (count + p.held)) (stack Sres count) p refl
asks_within (stack Sens count) p =
    within_asks false (count - p.held) (p.held + (count - p.held)) (stack Sens count) p refl
asks_within (stack Sfree count) p = record { free = omega arith; accesses = refl }
asks_within (came method) p = by (is_among method.function (resident p.misses))
  where
    by : (b : Bool) → AsksWithin (came method) p (elim b as (λ _. Pace) [
      | true ↦ record p { write = false; words = 0; line = None; misses = touched p.misses method }
      | false ↦ record p { write = false; words = method.words + 1; line = None; misses = touched p.misses method }
    ])
    by true = record { free = omega arith; accesses = refl }
    by false = record { free = omega arith; accesses = refl }

-- the words that are moved take no more than the most of each transaction
carried_within : (site : Site) (p : Pace) → IsSlotted site → (carried site p).free + most_in_slot site
    * length p.accesses ≤ p.free + most_in_slot site * length (carried site p).accesses
carried_within site p slots = by (p.words == 0)
  where
    moved : Pace
    moved = record p {
      free = moved_by site p.free p.words;
      words = 0;
      line = None;
      accesses = p.accesses ++ accesses_from site p.free p.write p.words;
      loads = with_line p.line p.loads;
    }

    by : (b : Bool) → (elim b as (λ _. Pace) [ true ↦ p | false ↦ moved ]).free + most_in_slot site * length p.accesses
        ≤ p.free + most_in_slot site * length (elim b as (λ _. Pace) [ true ↦ p | false ↦ moved ]).accesses
    by true = omega arith
    by false =
        let count : ℕ = slots_of p.words in
        let made : length moved.accesses ≡ length p.accesses + count =
        length-append p.accesses (accesses_from site p.free p.write p.words)
        ∙ ap (λ k. length p.accesses + k) (made_in site count p.free p.words p.write) in
        let time : moved.free ≤ p.free + most_in_slot site * count = ends_within site count p.free slots in
        let product : most_in_slot site * length moved.accesses ≡ most_in_slot site * (length p.accesses + count) =
        ap (λ k. most_in_slot site * k) made in
        omega (arith, time, product)

pub clock_within : (site : Site) (es : List Event) (p : Pace) → IsSlotted site
    → (clock site es p).free + most_in_slot site * length p.accesses ≤ p.free + bundles_among es + most_in_slot site
    * length (clock site es p).accesses
clock_within site [] p slots = omega arith
clock_within site (e ∷ es) p slots =
    let q : Pace = asked_by e p in
    let asks_for : AsksWithin e p q = asks_within e p in
    let moves : (carried site q).free + most_in_slot site * length q.accesses ≤ q.free + most_in_slot site
    * length (carried site q).accesses = carried_within site q slots in
    let rest = clock_within site es (carried site q) slots in
    let same : most_in_slot site * length q.accesses ≡ most_in_slot site * length p.accesses =
    ap (λ l. most_in_slot site * length l) asks_for.accesses in
    omega (arith, asks_for.free, moves, rest, same)
