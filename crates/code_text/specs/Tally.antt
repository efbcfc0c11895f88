-- To be believed. What a run of compiled code consists of: its bundles, and the transactions that it makes at most.
-- They add up to the bound: a cycle for each bundle, and for each transaction the most that one takes.
use Rattle.std.specs.Prelude.{ℕ, zero, suc, ◌+◌, ◌-◌, ◌*◌, ◌^◌, ◌==◌, nat_le, if◌then◌else◌, List, [], ◌∷◌, length, slice_index_or, Option, Some, None}
use Rattle.slot_arbiter.specs.declared.place.Place.{Place}
use Rattle.patmos_instr.specs.Bundles.{PlainBundle}
use Rattle.sp_shape.specs.Parts.{PlainPart, straight, repeats, calls_to, leaves, PlainParts, no_part, part, PlainShape}
use Rattle.cycle_bound.specs.Bound.{op_moves, fill_moves}
use Rattle.cycle_bound.specs.Gap.{gap}
use Rattle.code_text.specs.declared.tallies.Tally.{Tally}

-- the most cycles that a transaction takes, on a core under a slot table with slots of so many cycles; and at a place
abbrev pub each_on : List ℕ → ℕ → ℕ → ℕ
each_on table slot core = gap table slot core + slot - 1

abbrev pub each_at : Place → ℕ
each_at place = each_on place.table place.slot place.core

-- ---- bundles

-- of parts, over those of the functions that they call
abbrev mutual
  pub part_bundles : (ℕ → ℕ) → PlainPart → ℕ
  part_bundles g (straight bs) = length bs
  part_bundles g (repeats count body tail) = count * (parts_bundles g body + length tail)
  part_bundles g (calls_to k tail) = length tail + g k
  part_bundles g (leaves tail) = length tail

  pub parts_bundles : (ℕ → ℕ) → PlainParts → ℕ
  parts_bundles g no_part = 0
  parts_bundles g (part p rest) = part_bundles g p + parts_bundles g rest

-- of the first so many functions, each over the earlier ones
abbrev pub run_bundles : List PlainParts → ℕ → ℕ → ℕ
run_bundles fs zero k = 0
run_bundles fs (suc n) k =
    if k == n then parts_bundles (run_bundles fs n) (slice_index_or fs n no_part) else run_bundles fs n k

-- ---- transactions

abbrev pub bundles_moves : List PlainBundle → ℕ
bundles_moves [] = 0
bundles_moves (b ∷ bs) = op_moves b.first.op + bundles_moves bs

-- of parts of the function of a number: at a call the function that is called may have to be fetched, and after it the
-- one that is returned to
abbrev mutual
  pub part_moves : (ℕ → ℕ) → (ℕ → ℕ) → ℕ → PlainPart → ℕ
  part_moves fill g own (straight bs) = bundles_moves bs
  part_moves fill g own (repeats count body tail) = count * (parts_moves fill g own body + bundles_moves tail)
  part_moves fill g own (calls_to k tail) = bundles_moves tail + (fill k + fill own + g k)
  part_moves fill g own (leaves tail) = bundles_moves tail

  pub parts_moves : (ℕ → ℕ) → (ℕ → ℕ) → ℕ → PlainParts → ℕ
  parts_moves fill g own no_part = 0
  parts_moves fill g own (part p rest) = part_moves fill g own p + parts_moves fill g own rest

abbrev pub run_moves : List PlainParts → ℕ → ℕ → ℕ
run_moves fs zero k = 0
run_moves fs (suc n) k =
    if k == n then parts_moves (fill_moves fs) (run_moves fs n) n (slice_index_or fs n no_part)
    else run_moves fs n k

-- ---- of functions, and of a task

-- bundles and transactions that take no more cycles than a bound may have, where a transaction takes so many
abbrev pub counted : ℕ → ℕ → ℕ → Option Tally
counted each bundles moves = if nat_le (bundles + each * moves) (2 ^ 62)
    then Some (record { bundles = bundles; transactions = moves })
    else None

-- a run of the function of a number
abbrev pub function_tally : ℕ → PlainShape → ℕ → Option Tally
function_tally each s k =
    counted each (run_bundles s.functions (length s.functions) k) (run_moves s.functions (length s.functions) k)

-- the task: its entry is fetched, and run
abbrev pub task_bundles : PlainShape → ℕ
task_bundles s = run_bundles s.functions (length s.functions) s.entry

abbrev pub task_moves : PlainShape → ℕ
task_moves s = fill_moves s.functions s.entry + run_moves s.functions (length s.functions) s.entry

abbrev pub task_tally : ℕ → PlainShape → Option Tally
task_tally each s = counted each (task_bundles s) (task_moves s)
