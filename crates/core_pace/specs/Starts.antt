-- To be believed. Slot starts that compute: the first one at or after a cycle, and the greatest gap between two.
use Rattle.std.specs.Prelude.{◌≡◌, ℕ, zero, suc, ◌+◌, ◌-◌, ◌<◌, Bool, true, false, max, List}
use Rattle.slot_arbiter.specs.Table.{has_entry}
use Rattle.slot_arbiter.specs.Slot.{is_slot_start, period}

-- the core has slots: a slot lasts some cycles, and one in the table is the core's
pub record HasSlots (table : List ℕ) (slot core : ℕ) : Type 0 where
  pub lasts : 0 < slot
  pub entry : has_entry table core ≡ true

-- the first number from t on that passes the test, sought among so many
abbrev pub first_passing : (ℕ → Bool) → ℕ → ℕ → ℕ
first_passing test zero t = t
first_passing test (suc count) t = elim (test t) [ true ↦ t | false ↦ first_passing test count (t + 1) ]

-- the first cycle from t on at which a slot of the core starts: it comes within a period
abbrev pub start_from : List ℕ → ℕ → ℕ → ℕ → ℕ
start_from table slot core t = first_passing (is_slot_start table slot core) (period table slot) t

-- the greatest distance from a number below `below` that passes the test to the next one that does, which is
-- sought among so many
abbrev pub greatest_gap : (ℕ → Bool) → ℕ → ℕ → ℕ
greatest_gap test count zero = 0
greatest_gap test count (suc below) = elim (test below) [
  | true ↦ max (first_passing test count (below + 1) - below) (greatest_gap test count below)
  | false ↦ greatest_gap test count below
]

-- the greatest distance from a slot start of the core to its next one: all distances come within a period
abbrev pub gap_in : List ℕ → ℕ → ℕ → ℕ
gap_in table slot core = greatest_gap (is_slot_start table slot core) (period table slot) (period table slot)
