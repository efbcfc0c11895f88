-- For proofs. Places that fit the fields of jumps.
use Rattle.std.specs.Prelude.{◌≡◌, ℕ, ◌≤◌, List, Some}
use Rattle.patmos_code.specs.declared.images.TheConstants.{MOST_IN_FUNCTION, MOST_IN_IMAGE}
use Rattle.patmos_asm.specs.Assembly.{Lookup}

-- this offset and the labels lie in a function, and the functions in an image
pub record InBounds (functions labels : Lookup) (at : ℕ) : Type 0 where
  pub offset : at ≤ MOST_IN_FUNCTION
  pub in_function : (name : List ℕ) (place : ℕ) → labels name ≡ Some place → place ≤ MOST_IN_FUNCTION
  pub in_image : (name : List ℕ) (place : ℕ) → functions name ≡ Some place → place ≤ MOST_IN_IMAGE
