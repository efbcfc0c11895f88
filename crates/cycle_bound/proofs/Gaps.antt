-- The gap of a core's slots: there is one, and it is worked out from the slot table.
use Rattle.std.proofs.Common.{◌≡◌, ℕ, zero, suc, ◌+◌, ◌-◌, ◌<◌, ◌≤◌, max, Bool, true, false, List, [], ◌∷◌, length, ◌⊎◌, refl, ap, sym, ◌∙◌, subst, arith, inl, inr, if◌then◌else◌}
use Rattle.std.proofs.lemmas.Bool.{cases_lt}
use Rattle.slot_arbiter.specs.Order.{IsNext, IsGap}
use Rattle.slot_arbiter.specs.Slot.{is_slot_start}
use Rattle.slot_arbiter.specs.Table.{has_entry, is_owned}
use Rattle.slot_arbiter.specs.declared.place.Place.{Place}
use Rattle.slot_arbiter.proofs.Cycles.{gap_in_cycles}
use Rattle.slot_arbiter.proofs.Entries.{owner_has_entry}
use Rattle.slot_arbiter.proofs.Turns.{all_waits, gap_from_waits, longer_reached, more_waits, next_at, none_passed}
use Rattle.cycle_bound.specs.Gap.{slots_to, most_slots_to, gap}

-- ---- any gap

pub gap_some : (test : ℕ → Bool) (far : ℕ) → IsGap test far → 1 ≤ far
gap_some test far h = let from = h.reached.1.1.from in omega (arith, from)

gap_least : (test : ℕ → Bool) (a b : ℕ) → IsGap test a → IsGap test b → a ≤ b
gap_least test a b h g =
    let most = g.greatest h.reached.0 (h.reached.0 + a) h.reached.1.0 h.reached.1.1 in omega (arith, most)

pub one_gap : (test : ℕ → Bool) (a b : ℕ) → IsGap test a → IsGap test b → a ≡ b
one_gap test a b h g = let low = gap_least test a b h g in let high = gap_least test b a g h in omega (arith, low, high)

-- ---- the gap that is worked out from the table

true_false : true ≡ false → ⊥
true_false e = cc

-- what a count from a slot on finds: the next own one, or none among so many
abbrev Found : (ℕ → Bool) → ℕ → ℕ → ℕ → Type 0
Found own k more count = IsNext own k (k + count) ⊎ ((j : ℕ) → j < more → own (k + j) ≡ false)

-- a slot of another's is passed
passed : (own : ℕ → Bool) (k more count : ℕ) → own k ≡ false → Found own (k + 1) more count
    → Found own k (suc more) (1 + count)
passed own k more count other (inl next) =
    let same : k + (1 + count) ≡ k + 1 + count = omega arith in
    inl (record {
      passes = ap own same ∙ next.passes;
      from = omega arith;
      least = λ v from mine. omega (arith, next.least v (behind v from mine) mine);
    })
  where
    behind : (v : ℕ) → k ≤ v → own v ≡ true → k + 1 ≤ v
    behind v from mine = elim (cases_lt k v) [
      | inl less ↦ omega arith
      | inr more' ↦ let same : v ≡ k = omega arith in absurd (true_false (sym mine ∙ ap own same ∙ other))
    ]
passed own k more count other (inr none) = inr others
  where
    others : (j : ℕ) → j < suc more → own (k + j) ≡ false
    others zero below = let same : k + zero ≡ k = omega arith in ap own same ∙ other
    others (suc j) below = let same : k + suc j ≡ k + 1 + j = omega arith in ap own same ∙ none j (omega (arith, below))

counted : (own : ℕ → Bool) (k more rest : ℕ) (b : Bool) → own k ≡ b → Found own (k + 1) more rest
    → Found own k (suc more) (if b then 0 else 1 + rest)
counted own k more rest true mine later =
    let same : k + 0 ≡ k = omega arith in
    inl (record { passes = ap own same ∙ mine; from = omega arith; least = λ v from _. omega (arith, from) })
counted own k more rest false other later = passed own k more rest other later

found_among : (table : List ℕ) (core k more : ℕ) → Found (is_owned table core) k more (slots_to table core k more)
found_among table core k zero = inr (λ j below. absurd (omega (arith, below)))
found_among table core k (suc more) =
    counted (is_owned table core) k more (slots_to table core (k + 1) more) (is_owned table core k) refl
    (found_among table core (k + 1) more)

next_own : (table : List ℕ) (core k : ℕ) → has_entry table core ≡ true
    → IsNext (is_owned table core) k (k + slots_to table core k (length table))
next_own table core k owner = elim (found_among table core k (length table)) [
  | inl next ↦ next
  | inr none ↦ absurd (none_passed table core k owner none)
]

-- the most of the counts from the first so many slots on is the longest wait from any of them
longest : (table : List ℕ) (core n : ℕ) → has_entry table core ≡ true
    → ((j v : ℕ) → j < n → IsNext (is_owned table core) j v → v ≤ j + most_slots_to table core n)
longest table core zero owner = λ j v below _. absurd (omega (arith, below))
longest table core (suc n) owner =
    λ j v below next. more_waits (is_owned table core) n (most_slots_to table core n)
    (slots_to table core n (length table)) (most_slots_to table core (suc n)) refl
    (next_own table core n owner) (longest table core n owner) j v (omega (arith, below)) next

reached : (table : List ℕ) (core n : ℕ) → has_entry table core ≡ true
    → (j : ℕ) × IsNext (is_owned table core) j (j + most_slots_to table core (suc n))
reached table core zero owner =
    let none : slots_to table core 0 (length table) ≡ max 0 (slots_to table core 0 (length table)) = omega arith in (
      0,
      next_at (is_owned table core) 0 (0 + slots_to table core 0 (length table)) 0
          (0 + most_slots_to table core (suc zero)) refl (ap (λ w. 0 + w) none) (next_own table core 0 owner),
    )
reached table core (suc n) owner =
    longer_reached (is_owned table core) (suc n) (most_slots_to table core (suc n)) (slots_to table core (suc n)
    (length table)) (most_slots_to table core (suc (suc n))) refl
    (next_own table core (suc n) owner) (reached table core n owner)

gap_in_slots : (table : List ℕ) (core n : ℕ) → length table ≡ suc n → has_entry table core ≡ true
    → IsGap (is_owned table core) (1 + most_slots_to table core (length table))
gap_in_slots table core n some owner =
    let waits = all_waits table core (most_slots_to table core (length table)) (omega (arith, some))
    (longest table core (length table) owner) in
    gap_from_waits table core (most_slots_to table core (length table)) (omega (arith, some)) waits
    (subst (λ m. (j : ℕ) × IsNext (is_owned table core) j (j + most_slots_to table core m)) (sym some)
    (reached table core n owner))

-- at a place, the gap is that of its slot starts
pub place_gap : (p : Place) → IsGap (is_slot_start p.table p.slot p.core) (gap p.table p.slot p.core)
place_gap p =
    let owner = owner_has_entry p.cores p.core p.table p.owned p.in_range.among in
    let some = entries p.table p.core owner in
    gap_in_cycles p.table p.slot p.core (1 + most_slots_to p.table p.core (length p.table))
    (omega (arith, p.in_range.slot_least))
    (gap_in_slots p.table p.core (length p.table - 1) (omega (arith, some)) owner)
  where
    entries : (table : List ℕ) (core : ℕ) → has_entry table core ≡ true → 0 < length table
    entries [] core h = absurd (true_false (sym h))
    entries (e ∷ table) core h = omega arith
