-- To be believed. The persistent bound of a shape: where all functions that are reached fit into the method cache
-- together, none of them is ever evicted, so that each is fetched at most once, and no call or return has to fetch
-- besides (after the persistence analyses of the method cache; the cache's sizes are our own profile TP1's).
use Rattle.std.specs.Prelude.{ℕ, ◌+◌, ◌-◌, ◌*◌, if◌then◌else◌, List, length, sum_by}
use Rattle.sp_shape.specs.Parts.{PlainParts, PlainShape}
use Rattle.cycle_bound.specs.Bound.{bounds, fill_moves, shape_bound}
use Rattle.cycle_bound.specs.Gap.{gap}
use Rattle.bound_persist.specs.Reached.{reached, stays}

-- functions of which no fetch is counted: their bundles, and the transactions of these
abbrev pub runs : List PlainParts → ℕ → ℕ → ℕ → ℕ
runs fs each n k = bounds fs each (λ _. 0) n k

-- each function that is reached is fetched, and the entry is run
abbrev pub fetched_once : ℕ → PlainShape → ℕ
fetched_once each s =
    each * sum_by (fill_moves s.functions) (reached s) + runs s.functions each (length s.functions) s.entry

-- where a transaction takes so many cycles at most
abbrev pub persist : ℕ → PlainShape → ℕ
persist each s = if stays s then fetched_once each s else shape_bound each s

-- under a slot table, for slots of so many cycles, on a core
abbrev pub place_persist : List ℕ → ℕ → ℕ → PlainShape → ℕ
place_persist table slot core s = persist (gap table slot core + slot - 1) s
