-- For proofs. Sums over functions.
use Rattle.std.specs.Prelude.{◌≡◌, ℕ, ◌*◌, List, length, sum_by}
use Rattle.sp_shape.specs.Parts.{PlainParts}
use Rattle.cycle_bound.specs.Bound.{fill_moves}
use Rattle.cycle_bound.specs.Held.{held}
use Rattle.bound_persist.specs.Reached.{functions_words}
use Rattle.bound_persist.specs.declared.sums.Sums.{Sums as Told}

-- what is reported of functions: how many they are, their words, and the cycles of a fetch of each
pub record AreSums (fs : List PlainParts) (each : ℕ) (numbers : List ℕ) (sums : Told) : Type 0 where
  pub count : sums.count ≡ length numbers
  pub words : sums.words ≡ held (functions_words fs numbers)
  pub fills : sums.fills ≡ held (each * sum_by (fill_moves fs) numbers)
