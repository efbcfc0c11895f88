-- From slots to cycles: the k-th slot starts at cycle k * slot.
use Rattle.std.proofs.Common.{◌≡◌, ℕ, ◌+◌, ◌*◌, ◌/◌, ◌%◌, ◌<◌, ◌≤◌, true, ◌==◌, min, List, ap, ◌∙◌, refl, subst, arith, inl, inr}
use Rattle.std.proofs.Math.Nat.{mul-mod_left}
use Rattle.std.proofs.lemmas.Nat.{div-mul-add, div-add-mod', mul-le}
use Rattle.std.proofs.lemmas.Bool.{eqb-true, eq-eqb, cases_lt, and_parts, and_from}
use Rattle.std.proofs.lemmas.Grind.{div_ceil_times}
use Rattle.std.specs.Int.{div_ceil}
use Rattle.slot_arbiter.specs.Table.{is_owned}
use Rattle.slot_arbiter.specs.Slot.{is_slot_start}
use Rattle.slot_arbiter.specs.Order.{IsNext, IsGap, OutlastsWaits}

div_whole : (k slot : ℕ) → 0 < slot → k * slot / slot ≡ k
div_whole k slot some = ap (λ x. x / slot) (omega arith) ∙ div-mul-add k slot 0 some

-- a slot start is the start of an own slot
starts_slot : (table : List ℕ) (slot core u : ℕ) → is_slot_start table slot core u ≡ true → (u ≡ u / slot * slot)
    × (is_owned table core (u / slot) ≡ true)
starts_slot table slot core u h =
    let parts = and_parts (u % slot == 0) (is_owned table core (u / slot)) h in
    let even : u % slot ≡ 0 = eqb-true (u % slot) 0 parts.0 in
    (omega (arith, div-add-mod' u slot), parts.1)

-- an own slot starts at a slot start
slot_starts : (table : List ℕ) (slot core k : ℕ) → 0 < slot → is_owned table core k ≡ true
    → is_slot_start table slot core (k * slot) ≡ true
slot_starts table slot core k some own =
    and_from (k * slot % slot == 0) (is_owned table core (k * slot / slot))
    (eq-eqb (k * slot % slot) 0 (mul-mod_left k slot))
    (ap (is_owned table core) (div_whole k slot some) ∙ own)

-- slots in the order of their starts
pub slot_order : (a b slot : ℕ) → a * slot < (b + 1) * slot → a ≤ b
slot_order a b slot h = elim (cases_lt b a) [
  | inl after ↦ let far : (b + 1) * slot ≤ a * slot =
      mul-le (b + 1) slot a slot (omega arith) (omega arith) in absurd (omega arith)
  | inr fine ↦ fine
]

-- `first` is the first slot that starts at or after cycle t
pub record IsCeiling (t slot first : ℕ) : Type 0 where
  pub some : 0 < slot
  pub after : t ≤ first * slot
  pub near : first * slot < t + slot

-- the next own slot from there on starts at the next slot start
pub start_of_slot : (table : List ℕ) (slot core t first v : ℕ) → IsCeiling t slot first
    → IsNext (is_owned table core) first v → IsNext (is_slot_start table slot core) t (v * slot)
start_of_slot table slot core t first v edge h = record {
  passes = slot_starts table slot core v edge.some h.passes;
  from = let far : first * slot ≤ v * slot = mul-le first slot v slot h.from (omega arith) in omega (arith, edge.after);
  least = λ w from own.
      let start = starts_slot table slot core w own in
      let later : first ≤ w / slot = slot_order first (w / slot) slot (omega (arith, edge.near, start.0)) in
      let least : v ≤ w / slot = h.least (w / slot) later start.1 in
      let far : v * slot ≤ w / slot * slot = mul-le v slot (w / slot) slot least (omega arith) in
      omega (arith, start.0);
}

-- and the other way round
pub slot_of_start : (table : List ℕ) (slot core t first u : ℕ) → IsCeiling t slot first
    → IsNext (is_slot_start table slot core) t u → (u ≡ u / slot * slot) × IsNext (is_owned table core) first (u / slot)
slot_of_start table slot core t first u edge h =
    let start = starts_slot table slot core u h.passes in (
      start.0,
      record {
        passes = start.1;
        from = slot_order first (u / slot) slot (omega (arith, edge.near, start.0, h.from));
        least = λ w from own.
            let far : first * slot ≤ w * slot = mul-le first slot w slot from (omega arith) in
            let least : u ≤ w * slot =
            h.least (w * slot) (omega (arith, edge.after)) (slot_starts table slot core w edge.some own) in
            slot_order (u / slot) w slot (omega (arith, edge.some, start.0));
      },
    )

-- rounding up finds that slot
pub ceiling : (t slot first : ℕ) → 0 < slot → first ≡ div_ceil t slot → IsCeiling t slot first
ceiling t slot first some e =
    let round = div_ceil_times t slot some in
    let same : first * slot ≡ (t / slot + min 1 (t % slot)) * slot = ap (λ k. k * slot) e in
    record { some = some; after = omega (arith, round.0, same); near = omega (arith, round.1, same) }

-- fewer slots on than the table has, it is less than a period on
pub start_near : (t slot first k n : ℕ) → IsCeiling t slot first → k < n → (first + k) * slot < t + n * slot
start_near t slot first k n edge h =
    let far : (k + 1) * slot ≤ n * slot = mul-le (k + 1) slot n slot (omega arith) (omega arith) in
    omega (arith, edge.near)

-- the gap in cycles is the gap in slots, in cycles
pub gap_in_cycles : (table : List ℕ) (slot core g : ℕ) → 0 < slot → IsGap (is_owned table core) g
    → IsGap (is_slot_start table slot core) (g * slot)
gap_in_cycles table slot core g some h =
    let u : ℕ = h.reached.0 in
    let next = start_of_slot table slot core (u * slot + 1) (u + 1) (u + g) (after_slot u slot some) h.reached.1.1 in
    record {
      reached = (
        u * slot,
        (
          slot_starts table slot core u some h.reached.1.0,
          let same : (u + g) * slot ≡ u * slot + g * slot = omega arith in
              let P : ℕ → Type 0 = λ v. IsNext (is_slot_start table slot core) (u * slot + 1) v in
              subst P same next,
        ),
      );
      greatest = λ a v own from.
          let start = starts_slot table slot core a own in
          let k : ℕ = a / slot in
          let P : ℕ → Type 0 = λ t. IsNext (is_slot_start table slot core) (t + 1) v in
          let next = slot_of_start table slot core (k * slot + 1) (k + 1) v (after_slot k slot some)
          (subst P start.0 from) in
          let within : v / slot ≤ k + g = h.greatest k (v / slot) start.1 next.1 in
          let far : v / slot * slot ≤ (k + g) * slot = mul-le (v / slot) slot (k + g) slot within (omega arith) in
          omega (arith, next.0, start.0);
    }
  where
    after_slot : (k slot : ℕ) → 0 < slot → IsCeiling (k * slot + 1) slot (k + 1)
    after_slot k slot some = record { some = some; after = omega arith; near = omega arith }

-- so many slots outlast all waits where they do in slots
pub wait_in_cycles : (table : List ℕ) (slot core g : ℕ) → 0 < slot → OutlastsWaits (is_owned table core) g
    → OutlastsWaits (is_slot_start table slot core) (g * slot)
wait_in_cycles table slot core g some within = record {
  wait = λ t u h.
      let first : ℕ = div_ceil t slot in
      let edge : IsCeiling t slot first = ceiling t slot first some refl in
      let next = slot_of_start table slot core t first u edge h in
      let few : u / slot + 1 ≤ first + g = omega (arith, within.wait first (u / slot) next.1) in
      let far : (u / slot + 1) * slot ≤ (first + g) * slot =
      mul-le (u / slot + 1) slot (first + g) slot few (omega arith) in
      omega (arith, next.0, edge.near);
}
