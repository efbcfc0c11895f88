-- Whoever starts just after the beginning of an own slot waits longest.
use Rattle.std.proofs.Common.{◌≡◌, ℕ, zero, suc, ◌+◌, ◌-◌, ◌*◌, ◌/◌, ◌%◌, ◌<◌, ◌≤◌, ◌==◌, Bool, true, false, List, [], ◌∷◌, length, refl, sym, ap, ◌∙◌, arith, inl, inr}
use Rattle.std.proofs.lemmas.Bool.{and_parts, cases_lt, eqb-true}
use Rattle.std.proofs.lemmas.Nat.{div_below, mod_below, div-add-mod', mul-le}
use Rattle.slot_arbiter.specs.Slot.{is_slot_start, period}
use Rattle.slot_arbiter.specs.Table.{is_owned}
use Rattle.slot_arbiter.specs.Order.{IsNext}
use Rattle.slot_arbiter.proofs.Turns.{next_same}
use Rattle.core_pace.specs.Starts.{HasSlots, start_from}
use Rattle.core_pace.proofs.SlotStarts.{start_is_next, rounds_on}

-- a table with an entry has a period
some_period : (table : List ℕ) (slot core : ℕ) → HasSlots table slot core → 0 < period table slot
some_period [] slot core has = let none : false ≡ true = has.entry in cc
some_period (x ∷ xs) slot core has = omega (arith, has.lasts)

module _ (table : List ℕ) (slot core : ℕ) (has : HasSlots table slot core) where
  abbrev starts : ℕ → Bool
  starts = is_slot_start table slot core

  beyond : (t v : ℕ) → t ≤ v → starts v ≡ true → starts t ≡ false → t + 1 ≤ v
  beyond t v from own other = elim (cases_lt t v) [
    | inl less ↦ omega (arith, less)
    | inr last ↦
        let same : t ≡ v = omega (arith, from, last) in
        absurd (let bad : true ≡ false = sym own ∙ sym (ap starts same) ∙ other in cc)
  ]

  -- from a cycle in which no own slot starts, the first slot is that of the next cycle
  passed : (t : ℕ) → starts t ≡ false → start_from table slot core t ≡ start_from table slot core (t + 1)
  passed t other =
      let here : IsNext starts t (start_from table slot core t) = start_is_next table slot core t has in
      let after : IsNext starts (t + 1) (start_from table slot core t) = record {
        passes = here.passes;
        from = beyond t (start_from table slot core t) here.from here.passes other;
        least = λ v from own. here.least v (omega (arith, from)) own;
      } in
      next_same starts (t + 1) (start_from table slot core t) (start_from table slot core (t + 1)) after
      (start_is_next table slot core (t + 1) has)

  -- an own slot that starts in the first period ends there
  ends_within : (u : ℕ) → u < period table slot → starts u ≡ true → u + slot ≤ period table slot
  ends_within u first own =
      let edge : u % slot ≡ 0 =
      eqb-true (u % slot) 0 (and_parts (u % slot == 0) (is_owned table core (u / slot)) own).0 in
      let number : u / slot < length table = div_below u slot (length table) has.lasts first in
      let next : (u / slot + 1) * slot ≤ length table * slot =
      mul-le (u / slot + 1) slot (length table) slot (omega (arith, number)) (omega arith) in
      omega (arith, next, edge, div-add-mod' u slot)

  module _ (end : ℕ → ℕ) (later : (periods t : ℕ) → end (t + periods * period table slot) ≡ end t + periods
      * period table slot) (same : (t u : ℕ) → start_from table slot core t ≡ start_from table slot core u
      → end t ≡ end u) where
    -- no more than from the cycle after the beginning of an own slot
    pub record IsMissed (t : ℕ) : Type 0 where
      pub slot_start : ℕ
      pub own : starts slot_start ≡ true
      pub longer : end t - t ≤ end (slot_start + 1) - (slot_start + 1)

    -- such a slot is found by going back
    back_to : (count t k : ℕ) → k < count → starts (t + k) ≡ true → IsMissed (t + count)
    back_to zero t k near own = absurd (omega (arith, near))
    back_to (suc count) t k near own = by (starts (t + count)) refl (λ less. back_to count t k less own)
      where
        next : t + count + 1 ≡ t + suc count
        next = omega arith

        by : (b : Bool) → starts (t + count) ≡ b → (k < count → IsMissed (t + count)) → IsMissed (t + suc count)
        by true is rest = record { slot_start = t + count; own = is; longer = omega (arith, ap end next) }
        by false is rest = elim (cases_lt k count) [
          | inl less ↦
              let before : IsMissed (t + count) = rest less in
              let ends : end (t + count) ≡ end (t + suc count) =
              same (t + count) (t + count + 1) (passed (t + count) is) ∙ ap end next in
              record { slot_start = before.slot_start; own = before.own; longer = omega (arith, before.longer, ends) }
          | inr last ↦
              let there : k ≡ count = omega (arith, near, last) in
              absurd (let bad : true ≡ false = sym own ∙ ap (λ n. starts (t + n)) there ∙ is in cc)
        ]

    -- and it ends in the first period
    pub record IsMissedFirst (t : ℕ) : Type 0 where
      pub slot_start : ℕ
      pub first : slot_start + slot ≤ period table slot
      pub own : starts slot_start ≡ true
      pub longer : end t - t ≤ end (slot_start + 1) - (slot_start + 1)

    missed_first : (t : ℕ) → IsMissed t → IsMissedFirst t
    missed_first t m =
        let n : ℕ = period table slot in
        let u : ℕ = m.slot_start in
        let whole : u ≡ u / n * n + u % n = omega (arith, div-add-mod' u n) in
        let shift : u + 1 ≡ u % n + 1 + u / n * n = omega (arith, whole) in
        let ends : end (u + 1) ≡ end (u % n + 1) + u / n * n = ap end shift ∙ later (u / n) (u % n + 1) in
        let own : starts (u % n) ≡ true =
        sym (rounds_on table slot core (u / n) (u % n) has.lasts) ∙ sym (ap starts whole) ∙ m.own in
        record {
          slot_start = u % n;
          first = ends_within (u % n) (mod_below u n (some_period table slot core has)) own;
          own = own;
          longer = omega (arith, m.longer, ends, shift);
        }

    pub missed : (t : ℕ) → IsMissedFirst t
    missed t =
        let n : ℕ = period table slot in
        let next : IsNext starts t (start_from table slot core t) = start_is_next table slot core t has in
        let k : ℕ = start_from table slot core t - t in
        let there : t + k ≡ start_from table slot core t = omega (arith, next.from) in
        let far : (k + 1) * 1 ≤ (k + 1) * n =
        mul-le (k + 1) 1 (k + 1) n (omega arith) (some_period table slot core has) in
        let m : IsMissedFirst (t + (k + 1) * n) = missed_first (t + (k + 1) * n)
        (back_to ((k + 1) * n) t k (omega (arith, far)) (ap starts there ∙ next.passes)) in
        record {
          slot_start = m.slot_start;
          first = m.first;
          own = m.own;
          longer = omega (
            arith,
            m.longer,
            later (k + 1) t,
          );
        }
