-- For proofs. The runs of functions as they are worked out.
use Rattle.std.specs.Prelude.{◌≡◌, ℕ, ◌≤◌, true, length}
use Rattle.sp_shape.specs.Formed.{is_formed}
use Rattle.sp_shape.specs.Parts.{PlainShape}
use Rattle.sp_shape.specs.Shown.{plain_shape}
use Rattle.cycle_bound.specs.Bound.{bounds, fill_bound}
use Rattle.cycle_bound.specs.Known.{AreHeld}
use Rattle.cycle_bound.specs.declared.bundles.TheConstants.{LEAST_EACH, MOST_EACH}
use Rattle.tc_link.specs.Fits.{FitsImage}
use Rattle.code_text.specs.declared.tallies.Runs.{Runs}
use Rattle.code_text.specs.Tally.{run_bundles}

-- the shape of runs
abbrev pub shape_of : Runs → PlainShape
shape_of runs = plain_shape runs.shape.now

-- how many functions it has
abbrev pub count_of : Runs → ℕ
count_of runs = length (shape_of runs).functions

-- the shape is well formed and fits an image; the numbers of its functions are known: their bundles, the fetch of each,
-- and the cycles of each
pub record AreRuns (runs : Runs) : Type 0 where
  pub formed : is_formed (shape_of runs) ≡ true
  pub fits : FitsImage (shape_of runs)
  pub least : LEAST_EACH ≤ runs.each
  pub most : runs.each ≤ MOST_EACH
  pub bundles : AreHeld (run_bundles (shape_of runs).functions (count_of runs)) (count_of runs) runs.bundles.bounds
  pub fills : AreHeld (fill_bound runs.each (shape_of runs).functions) (count_of runs) runs.cycles.fills
  pub cycles : AreHeld
      (bounds (shape_of runs).functions runs.each (fill_bound runs.each (shape_of runs).functions) (count_of runs))
      (count_of runs) runs.cycles.bounds
