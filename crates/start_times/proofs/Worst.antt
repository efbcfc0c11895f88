-- The starts of one period are enough, and of these the cycles after the beginnings of own slots.
use Rattle.std.proofs.Common.{◌≡◌, ℕ, ◌+◌, ◌-◌, ◌*◌, ◌/◌, ◌%◌, ◌<◌, ◌≤◌, ◌&&◌, nat_lt, Bool, true, List, length, refl, sym, ap, ◌∙◌, arith}
use Rattle.std.specs.List.{list_all, range_with_len}
use Rattle.std.specs.Prelude.{nat_le}
use Rattle.std.proofs.lemmas.Bool.{and_parts, leb-true}
use Rattle.std.proofs.lemmas.Nat.{div-add-mod', mul-le}
use Rattle.slot_arbiter.specs.Slot.{is_slot_start, period}
use Rattle.slot_arbiter.specs.Table.{has_entry, is_size, is_table}
use Rattle.slot_arbiter.specs.declared.place.Place.{Place}
use Rattle.slot_arbiter.specs.declared.place.TheConstants.{LATEST_START}
use Rattle.core_pace.specs.Starts.{HasSlots, start_from}
use Rattle.core_pace.specs.Times.{Times}
use Rattle.start_times.specs.Later.{IsSameCore, IsLater, first_slot, times_later}
use Rattle.start_times.specs.Worst.{lasting, IsFirst, HasJustMissed, IsGreatest}
use Rattle.start_times.proofs.Missed.{missed}

-- a table has at most 64 entries
few_entries : (cores : ℕ) (table : List ℕ) → is_table cores table ≡ true → length table ≤ 64
few_entries cores table is =
    let n : ℕ = length table in
    let all : Bool = list_all (λ entry. nat_lt entry cores) table in
    let each : Bool = list_all (has_entry table) (range_with_len 0 cores) in
    let size = (and_parts (is_size cores n) all (and_parts (is_size cores n && all) each is).0).0 in
    leb-true n 64 (and_parts (nat_le 1 cores && nat_le cores 16 && nat_le 1 n) (nat_le n 64) size).1

-- each start of the first period is one that a place may have
early : (place : Place) (start : ℕ) → start < period place.table place.slot → start ≤ LATEST_START
early place start first =
    let most : period place.table place.slot ≤ 64 * 64 =
    mul-le (length place.table) place.slot 64 64 (few_entries place.cores place.table place.owned)
    place.in_range.slot_most in
    omega (arith, first, most)

abbrev started_at : (place : Place) (start : ℕ) → start < period place.table place.slot → Place
started_at place start first = record {
  cores = place.cores;
  core = place.core;
  slot = place.slot;
  start = start;
  table = place.table;
  in_range = record {
    among = place.in_range.among;
    cores_most = place.in_range.cores_most;
    slot_least = place.in_range.slot_least;
    slot_most = place.in_range.slot_most;
    start_most = early place start first;
  };
  owned = place.owned;
}

itself : (place : Place) → IsSameCore place place
itself place = record { cores = refl; core = refl; slot = refl; table = refl }

is_first : (place : Place) (start : ℕ) (first : start < period place.table place.slot)
    → IsFirst place (started_at place start first)
is_first place start first =
    record { same = record { cores = refl; core = refl; slot = refl; table = refl }; first = first }

-- times that are those of one clock, at each place of the core
pub record HasClock (place : Place) (times : Place → Times) (clock : ℕ → Times) : Type 0 where
  pub slots : HasSlots place.table place.slot place.core
  pub is : (other : Place) → IsSameCore place other → times other ≡ clock other.start
  pub later : (periods t : ℕ) → clock (t + periods * period place.table place.slot)
      ≡ times_later (periods * period place.table place.slot) (clock t)
  pub slot : (t u : ℕ) → start_from place.table place.slot place.core t ≡ start_from place.table place.slot place.core u
      → clock t ≡ clock u

module _ (place : Place) (times : Place → Times) (clock : ℕ → Times) (h : HasClock place times clock) where
  own : times place ≡ clock place.start
  own = h.is place (itself place)

  pub so_much_later : (periods : ℕ) (other : Place) → IsLater periods place other → times other
      ≡ times_later (periods * period place.table place.slot) (times place)
  so_much_later periods other is =
      h.is other is.same ∙ ap clock is.start ∙ h.later periods place.start
      ∙ sym (ap (times_later (periods * period place.table place.slot)) own)

  pub as_many_later : (periods : ℕ) (other : Place) → IsLater periods place other → lasting other (times other)
      ≡ lasting place (times place)
  as_many_later periods other is =
      let ends : (times other).end ≡ (times place).end + periods * period place.table place.slot =
      ap (λ (t : Times). t.end) (so_much_later periods other is) in
      omega (arith, ends, is.start)

  pub from_slot : (other : Place) → IsSameCore place other → first_slot other ≡ first_slot place
      → times other ≡ times place
  from_slot other same first =
      let there : first_slot other ≡ start_from place.table place.slot place.core other.start =
      λ i. start_from (same.table i) (same.slot i) (same.core i) other.start in
      h.is other same ∙ h.slot other.start place.start (sym there ∙ first) ∙ sym own

  -- ---- how many cycles

  lasts : (other : Place) → IsSameCore place other → lasting other (times other) ≡ (clock other.start).end - other.start
  lasts other same = ap (λ (t : Times). lasting other t) (h.is other same)

  end_later : (periods t : ℕ) → (clock (t + periods * period place.table place.slot)).end ≡ (clock t).end + periods
      * period place.table place.slot
  end_later periods t = ap (λ (t : Times). t.end) (h.later periods t)

  -- as many as from the start's place in the period
  pub from_first : (first : Place) → IsSameCore place first → first.start ≡ place.start % period place.table place.slot
      → lasting first (times first) ≡ lasting place (times place)
  from_first first same is =
      let n : ℕ = period place.table place.slot in
      let q : ℕ = place.start / n in
      let whole : place.start ≡ first.start + q * n = omega (arith, div-add-mod' place.start n, is) in
      let ends : (clock place.start).end ≡ (clock first.start).end + q * n =
      ap (λ t. (clock t).end) whole ∙ end_later q first.start in
      omega (arith, ends, whole, lasts first same, lasts place (itself place))

  same_end : (t u : ℕ) → start_from place.table place.slot place.core t ≡ start_from place.table place.slot place.core u
      → (clock t).end ≡ (clock u).end
  same_end t u next = ap (λ (t : Times). t.end) (h.slot t u next)

  -- no more from any start than from one that has just missed an own slot
  pub kept : (most : ℕ) → ((first : Place) → HasJustMissed place first → lasting first (times first) ≤ most)
      → (other : Place) → IsSameCore place other → lasting other (times other) ≤ most
  kept most covers other same =
      let m = missed place.table place.slot place.core h.slots (λ t. (clock t).end) end_later same_end other.start in
      let below : m.slot_start + 1 < period place.table place.slot =
      omega (arith, m.first, place.in_range.slot_least) in
      let first : Place = started_at place (m.slot_start + 1) below in
      let is : IsFirst place first = is_first place (m.slot_start + 1) below in
      let before : m.slot_start + 1 - 1 ≡ m.slot_start = omega arith in
      let just : HasJustMissed place first =
      record {
        first = is;
        later = omega arith;
        missed = ap (is_slot_start place.table place.slot place.core) before
            ∙ m.own;
      } in
      omega (arith, covers first just, m.longer, lasts other same, lasts first is.same)

  pub by_period : (most : ℕ) → IsGreatest (IsFirst place) (λ p. lasting p (times p)) most
      → IsGreatest (IsSameCore place) (λ p. lasting p (times p)) most
  by_period most g = record {
    covers = kept most (λ p just. g.covers p just.first);
    reached = (g.reached.0, (g.reached.1.0.same, g.reached.1.1));
  }

  pub by_slots : (most : ℕ) → IsGreatest (HasJustMissed place) (λ p. lasting p (times p)) most
      → IsGreatest (IsSameCore place) (λ p. lasting p (times p)) most
  by_slots most g =
      record { covers = kept most g.covers; reached = (g.reached.0, (g.reached.1.0.first.same, g.reached.1.1)) }
