-- The table in which the cores follow one another.
use Rattle.std.proofs.Common.{◌≡◌, ℕ, ◌+◌, ◌*◌, ◌/◌, ◌%◌, ◌<◌, ◌≤◌, true, ◌==◌, length, ap, sym, ◌∙◌, arith, zero-add, slice_index}
use Rattle.std.specs.List.{range_with_len}
use Rattle.std.proofs.lemmas.List.FromFn.{length-range_with_len, get_or-range_with_len}
use Rattle.std.proofs.lemmas.Nat.{mod-mul-add, mod_below, div-add-mod', mul-le, same_from_place}
use Rattle.std.proofs.lemmas.Bool.{eqb-true, eq-eqb, and_parts, and_from}
use Rattle.slot_arbiter.specs.Table.{is_owned}
use Rattle.slot_arbiter.specs.Slot.{is_slot_start}

-- the k-th slot is the core's whose number is left of k
owner_in_turn : (n k : ℕ) → 0 < n → slice_index (range_with_len 0 n) (k % length (range_with_len 0 n)) ≡ k % n
owner_in_turn n k some =
    ap (λ m. slice_index (range_with_len 0 n) (k % m)) (length-range_with_len 0 n)
    ∙ get_or-range_with_len 0 n (k % n) 0 (mod_below k n some) ∙ zero-add (k % n)

-- a cycle's remainder by the period is its slot's place and its own in the slot
in_period : (n slot u : ℕ) → 0 < n → 0 < slot → u % (n * slot) ≡ u / slot % n * slot + u % slot
in_period n slot u some wide =
    let k : ℕ = u / slot in
    let a : ℕ = k % n in
    let a_in : a < n = mod_below k n some in
    let r_in : u % slot < slot = mod_below u slot wide in
    let room : (a + 1) * slot ≤ n * slot = mul-le (a + 1) slot n slot (omega arith) (omega arith) in
    let whole : u ≡ k / n * (n * slot) + (a * slot + u % slot) =
    omega (arith, div-add-mod' u slot, ap (λ m. m * slot) (div-add-mod' k n)) in
    ap (λ m. m % (n * slot)) whole ∙ mod-mul-add (k / n) (n * slot) (a * slot + u % slot) (omega arith)

-- so the core's slots start where the plain rule of turns has them
pub start_in_turn : (n slot core u : ℕ) → core < n → 0 < slot → is_slot_start (range_with_len 0 n) slot core u ≡ true
    → u % (n * slot) ≡ core * slot
start_in_turn n slot core u among wide h =
    let parts = and_parts (u % slot == 0) (is_owned (range_with_len 0 n) core (u / slot)) h in
    let even : u % slot ≡ 0 = eqb-true (u % slot) 0 parts.0 in
    let own : u / slot % n ≡ core = sym (owner_in_turn n (u / slot) (omega arith)) ∙ eqb-true _ core parts.1 in
    in_period n slot u (omega arith) wide ∙ omega (arith, even, ap (λ m. m * slot) own)

pub turn_starts : (n slot core u : ℕ) → core < n → 0 < slot → u % (n * slot) ≡ core * slot
    → is_slot_start (range_with_len 0 n) slot core u ≡ true
turn_starts n slot core u among wide e =
    let same = same_from_place (u / slot % n) (u % slot) core 0 slot (mod_below u slot wide) wide
    (sym (in_period n slot u (omega arith) wide) ∙ omega (arith, e)) in
    and_from (u % slot == 0) (is_owned (range_with_len 0 n) core (u / slot))
    (eq-eqb (u % slot) 0 same.1)
    (eq-eqb _ core (owner_in_turn n (u / slot) (omega arith) ∙ same.0))
