-- The slot starts that compute are those that the relations tell.
use Rattle.std.proofs.Common.{◌≡◌, ℕ, zero, suc, ◌+◌, ◌-◌, ◌*◌, ◌/◌, ◌%◌, ◌<◌, ◌≤◌, Bool, true, false, ◌&&◌, ◌==◌, max, List, length, slice_index, refl, sym, ap, ◌∙◌, subst, arith, inl, inr, add-zero}
use Rattle.std.proofs.Math.Nat.{add-mod_right}
use Rattle.std.proofs.lemmas.Nat.{mod_below, div-add-mod', mod-mul-add, div-mul-add, mul-le}
use Rattle.std.proofs.lemmas.Bool.{cases_lt}
use Rattle.std.specs.Int.{div_ceil}
use Rattle.slot_arbiter.specs.Table.{is_owned}
use Rattle.slot_arbiter.specs.Slot.{is_slot_start, period}
use Rattle.slot_arbiter.specs.Order.{IsNext, IsGap, OutlastsWaits}
use Rattle.slot_arbiter.proofs.Cycles.{IsCeiling, ceiling, start_near, start_of_slot}
use Rattle.slot_arbiter.proofs.Turns.{next_same, comes}
use Rattle.core_pace.specs.Starts.{HasSlots, first_passing, start_from, greatest_gap, gap_in}

-- what passes after a number that does not comes later
later : (test : ℕ → Bool) (t k : ℕ) → test (t + k) ≡ true → test t ≡ false → 0 < k
later test t zero there here =
    let same : test t ≡ true = sym (ap test (add-zero t)) ∙ there in absurd (both_ways same here)
  where
    both_ways : test t ≡ true → test t ≡ false → ⊥
    both_ways p q = let bad : true ≡ false = sym p ∙ q in cc
later test t (suc k) there here = omega arith

-- the first number that passes is the next, where one is found
pub first_is_next : (test : ℕ → Bool) (n t k : ℕ) → k < n → test (t + k) ≡ true → IsNext test t (first_passing test n t)
first_is_next test zero t k below there = absurd (omega (arith, below))
first_is_next test (suc n) t k below there =
    by (test t) refl (λ some shift. first_is_next test n (t + 1) (k - 1) some shift)
  where
    by : (b : Bool) → test t ≡ b → ((k - 1 < n) → (test (t + 1 + (k - 1)) ≡ true)
        → IsNext test (t + 1) (first_passing test n (t + 1)))
        → IsNext test t (elim b as (λ _. ℕ) [ true ↦ t | false ↦ first_passing test n (t + 1) ])
    by true is rest = record { passes = is; from = omega arith; least = λ v from own. from }
    by false is rest =
        let some : 0 < k = later test t k there is in
        let shift : t + k ≡ t + 1 + (k - 1) = omega arith in
        let after : IsNext test (t + 1) (first_passing test n (t + 1)) =
        rest (omega arith) (sym (ap test shift) ∙ there) in
        record {
          passes = after.passes;
          from = omega (arith, after.from);
          least = λ v from own.
              let beyond : 0 < v - t =
              later test t (v - t) (let same : t + (v - t) ≡ v = omega arith in ap test same ∙ own) is in
              after.least v (omega arith) own;
        }

-- ---- a core with an entry has a slot start within a period

-- an own slot is the next from its number on
next_here : (test : ℕ → Bool) (t : ℕ) → test t ≡ true → IsNext test t t
next_here test t own = record { passes = own; from = omega arith; least = λ v from also. from }

starts_within : (table : List ℕ) (slot core t : ℕ) → HasSlots table slot core → (k : ℕ)
    × ((k < period table slot) × (is_slot_start table slot core (t + k) ≡ true))
starts_within table slot core t h =
    let first : ℕ = div_ceil t slot in
    let edge : IsCeiling t slot first = ceiling t slot first h.lasts refl in
    let at = comes table core first h.entry in
    let v : ℕ = (first + at.0) * slot in
    let near : v < t + length table * slot = start_near t slot first at.0 (length table) edge at.1.0 in
    let far : first * slot ≤ v = mul-le first slot (first + at.0) slot (omega arith) (omega arith) in
    let own_edge : IsCeiling v slot (first + at.0) =
    record { some = h.lasts; after = omega arith; near = omega (arith, h.lasts) } in
    let start : IsNext (is_slot_start table slot core) v v = start_of_slot table slot core v (first + at.0)
    (first + at.0) own_edge (next_here (is_owned table core) (first + at.0) at.1.1) in
    let same : t + (v - t) ≡ v = omega (arith, edge.after, far) in
    (v - t, (omega (arith, near), ap (is_slot_start table slot core) same ∙ start.passes))

pub start_is_next : (table : List ℕ) (slot core t : ℕ) → HasSlots table slot core
    → IsNext (is_slot_start table slot core) t (start_from table slot core t)
start_is_next table slot core t h =
    let at = starts_within table slot core t h in
    first_is_next (is_slot_start table slot core) (period table slot) t at.0 at.1.0 at.1.1

-- ---- the table repeats for ever

round_on : (table : List ℕ) (slot core u : ℕ) → 0 < slot → is_slot_start table slot core (period table slot + u)
    ≡ is_slot_start table slot core u
round_on table slot core u some =
    let n : ℕ = length table in
    let k : ℕ = u / slot in
    let r : ℕ = u % slot in
    let whole : n * slot + u ≡ (k + n) * slot + r = omega (arith, div-add-mod' u slot) in
    let in_slot : r < slot = mod_below u slot some in
    let place : (n * slot + u) % slot ≡ r = ap (λ v. v % slot) whole ∙ mod-mul-add (k + n) slot r in_slot in
    let number : (n * slot + u) / slot ≡ k + n = ap (λ v. v / slot) whole ∙ div-mul-add (k + n) slot r in_slot in
    (λ i. (place i == 0) && is_owned table core (number i))
    ∙ ap (λ j. (r == 0) && (slice_index table j == core)) (add-mod_right k n)

pub rounds_on : (table : List ℕ) (slot core q u : ℕ) → 0 < slot → is_slot_start table slot core (q * period table slot
    + u) ≡ is_slot_start table slot core u
rounds_on table slot core zero u some =
    let same : zero * period table slot + u ≡ u = omega arith in ap (is_slot_start table slot core) same
rounds_on table slot core (suc q) u some =
    let next : suc q * period table slot + u ≡ period table slot + (q * period table slot + u) = omega arith in
    ap (is_slot_start table slot core) next ∙ round_on table slot core (q * period table slot + u) some
    ∙ rounds_on table slot core q u some

-- ---- the greatest gap

-- it is no less than any that was looked at
gap_covers : (test : ℕ → Bool) (n below u : ℕ) → u < below → test u ≡ true → first_passing test n (u + 1) ≤ u
    + greatest_gap test n below
gap_covers test n zero u low own = absurd (omega (arith, low))
gap_covers test n (suc below) u low own = by (test below) refl (λ less. gap_covers test n below u less own)
  where
    by : (b : Bool) → test below ≡ b → (u < below → first_passing test n (u + 1) ≤ u + greatest_gap test n below)
        → first_passing test n (u + 1) ≤ u + elim b as (λ _. ℕ) [
          | true ↦ max (first_passing test n (below + 1) - below)
              (greatest_gap test n below)
          | false ↦ greatest_gap test n below
        ]
    by true is rest = elim (cases_lt u below) [
      | inl less ↦ let before : first_passing test n (u + 1) ≤ u + greatest_gap test n below = rest less in omega arith
      | inr last ↦
          let same : u ≡ below = omega arith in
          let here : first_passing test n (u + 1) ≡ first_passing test n (below + 1) =
          ap (λ v. first_passing test n (v + 1)) same in
          omega arith
    ]
    by false is rest = elim (cases_lt u below) [
      | inl less ↦ rest less
      | inr last ↦
          let same : u ≡ below = omega arith in
          let own_there : test below ≡ true = sym (ap test same) ∙ own in
          let bad : true ≡ false = sym own_there ∙ is in
          absurd (let no : true ≡ false = bad in cc)
    ]

-- and it is one of those, unless there is none
gap_found : (test : ℕ → Bool) (n below : ℕ) → 0 < greatest_gap test n below → (v : ℕ)
    × ((test v ≡ true) × (greatest_gap test n below ≡ first_passing test n (v + 1) - v))
gap_found test n zero some = absurd (omega (arith, some))
gap_found test n (suc below) some = by (test below) refl some (gap_found test n below)
  where
    gap : ℕ
    gap = greatest_gap test n below

    here : ℕ
    here = first_passing test n (below + 1) - below

    Found : ℕ → Type 0
    Found g = (v : ℕ) × ((test v ≡ true) × (g ≡ first_passing test n (v + 1) - v))

    by : (b : Bool) → test below ≡ b → 0 < (elim b as (λ _. ℕ) [ true ↦ max here gap | false ↦ gap ])
        → (0 < gap → Found gap)
        → Found (elim b as (λ _. ℕ) [ true ↦ max here gap | false ↦ gap ])
    by false is positive rest = rest positive
    by true is positive rest = elim (cases_lt here gap) [
      | inl smaller ↦
          let at = rest (omega arith) in
          let same : max here gap ≡ gap = omega arith in
          (at.0, (at.1.0, same ∙ at.1.1))
      | inr greater ↦ let same : max here gap ≡ here = omega arith in (below, (is, same))
    ]

-- the next from a number's place in the period stands as far away
next_in_period : (table : List ℕ) (slot core q r v : ℕ) → 0 < slot → IsNext (is_slot_start table slot core) (q
    * period table slot + r) (q * period table slot + v) → IsNext (is_slot_start table slot core) r v
next_in_period table slot core q r v some h =
    let far : ℕ = q * period table slot in
    record {
      passes = sym (rounds_on table slot core q v some) ∙ h.passes;
      from = omega (arith, h.from);
      least = λ w from own.
          let there : is_slot_start table slot core (far + w) ≡ true = rounds_on table slot core q w some ∙ own in
          let least : far + v ≤ far + w = h.least (far + w) (omega arith) there in
          omega arith;
    }

pub gap_is_greatest : (table : List ℕ) (slot core : ℕ) → HasSlots table slot core
    → IsGap (is_slot_start table slot core) (gap_in table slot core)
gap_is_greatest table slot core h = record {
  reached =
      let at = starts_within table slot core 0 h in
      let first : is_slot_start table slot core at.0 ≡ true =
      let same : 0 + at.0 ≡ at.0 = omega arith in sym (ap starts same) ∙ at.1.1 in
      let next = start_is_next table slot core (at.0 + 1) h in
      let covers : start_from table slot core (at.0 + 1) ≤ at.0 + gap = gap_covers starts n n at.0 at.1.0 first in
      let found = gap_found starts n n (omega (arith, covers, next.from)) in
      let after = start_is_next table slot core (found.0 + 1) h in
      let there : start_from table slot core (found.0 + 1) ≡ found.0 + gap = omega (arith, found.1.1, after.from) in
      (found.0, (found.1.0, subst (λ v. IsNext starts (found.0 + 1) v) there after));
  greatest = λ u v own next.
      let q : ℕ = u / n in
      let r : ℕ = u % n in
      let whole : u ≡ q * n + r = omega (arith, div-add-mod' u n) in
      let some : 0 < n = let at = starts_within table slot core 0 h in omega (arith, at.1.0) in
      let place : is_slot_start table slot core r ≡ true =
      sym (rounds_on table slot core q r h.lasts) ∙ sym (ap starts whole) ∙ own in
      let from_here : u + 1 ≡ q * n + (r + 1) = omega (arith, whole) in
      let to_here : v ≡ q * n + (v - q * n) = omega (arith, whole, next.from) in
      let near : IsNext starts (r + 1) (v - q * n) =
      next_in_period table slot core q (r + 1) (v - q * n) h.lasts
      (subst (λ x. IsNext starts (q * n + (r + 1)) x) to_here (subst (λ x. IsNext starts x v) from_here next)) in
      let same : start_from table slot core (r + 1) ≡ v - q * n =
      next_same starts (r + 1) _ _ (start_is_next table slot core (r + 1) h) near in
      let covers : start_from table slot core (r + 1) ≤ r + gap = gap_covers starts n n r (mod_below u n some) place in
      omega (arith, covers, same, whole);
}
  where
    n : ℕ
    n = period table slot

    gap : ℕ
    gap = gap_in table slot core

    starts : ℕ → Bool
    starts = is_slot_start table slot core

-- ---- a wait is shorter than the gap

-- from a slot start before t on, the starts come to t in steps of the gap at most
walks : (table : List ℕ) (slot core : ℕ) → HasSlots table slot core → (fuel w t u : ℕ) → t ≤ w + fuel → w < t
    → is_slot_start table slot core w ≡ true → IsNext (is_slot_start table slot core) t u
    → u < t + gap_in table slot core
walks table slot core h zero w t u near before own next = absurd (omega (arith, near, before))
walks table slot core h (suc fuel) w t u near before own next =
    let after = start_is_next table slot core (w + 1) h in
    let gap = (gap_is_greatest table slot core h).greatest w (start_from table slot core (w + 1)) own after in
    elim (cases_lt (start_from table slot core (w + 1)) t) [
      | inl early ↦ walks table slot core h fuel (start_from table slot core (w + 1)) t u
          (omega (arith, near, after.from)) early after.passes next
      | inr late ↦ omega (arith, gap, next.least (start_from table slot core (w + 1)) late after.passes, before)
    ]

pub gap_outlasts : (table : List ℕ) (slot core : ℕ) → HasSlots table slot core
    → OutlastsWaits (is_slot_start table slot core) (gap_in table slot core)
gap_outlasts table slot core h = record {
  wait = λ t u next.
      let n : ℕ = period table slot in
      let at = starts_within table slot core t h in
      let one : 1 * period table slot ≡ n = omega arith in
      let round : 1 * period table slot + u ≡ n + u = omega arith in
      let later_next : IsNext (is_slot_start table slot core) (n + t) (n + u) = record {
        passes = round_on table slot core u h.lasts ∙ next.passes;
        from = omega (arith, next.from);
        least = λ w from own.
            let back : is_slot_start table slot core (w - n) ≡ true =
            sym (round_on table slot core (w - n) h.lasts)
            ∙ (let same : n + (w - n) ≡ w = omega arith in ap (is_slot_start table slot core) same ∙ own) in
            omega (arith, next.least (w - n) (omega arith) back, from);
      } in
      let far : n + u < n + t + gap_in table slot core = walks table slot core h n (t + at.0) (n + t) (n + u)
      (omega arith) (omega (arith, at.1.0)) at.1.1 later_next in
      omega (arith, far);
}
