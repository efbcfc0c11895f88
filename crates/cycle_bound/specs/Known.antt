-- To be believed. What is known of functions while the bound is worked out.
use Rattle.std.specs.Prelude.{◌≡◌, ℕ, ◌<◌, List, slice_index}
use Rattle.sp_shape.specs.Parts.{PlainParts}
use Rattle.cycle_bound.specs.Bound.{bounds}
use Rattle.cycle_bound.specs.Held.{held}
use Rattle.cycle_bound.specs.declared.known.Known.{Known}

-- the numbers of cycles of the first so many functions
abbrev pub AreHeld : (ℕ → ℕ) → ℕ → List ℕ → Type 0
AreHeld cycles count numbers = (k : ℕ) → k < count → slice_index numbers k ≡ held (cycles k)

-- what is counted for the first so many functions' fetches, and the cycles of the first so many functions themselves
pub record Knows (fs : List PlainParts) (each : ℕ) (fill : ℕ → ℕ) (fetched run : ℕ) (known : Known) : Type 0 where
  pub fills : AreHeld fill fetched known.fills
  pub bounds : AreHeld (bounds fs each fill run) run known.bounds
