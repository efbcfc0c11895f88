-- The places of functions in an image without a fault.
use Rattle.std.proofs.Common.{◌≡◌, ℕ, ◌≤◌, List, None}
use Rattle.patmos_syntax.specs.Items.{Item}
use Rattle.patmos_asm.specs.Assembly.{Lookup, Before, first_fault}

-- statements without a fault, of which the first stands at this place of the image
pub record Within (functions : Lookup) (at : ℕ) (is : List Item) : Type 0 where
  pub labels : Lookup
  pub before : Before
  pub at_is : before.image ≡ at
  pub none : first_fault functions labels before is ≡ None
  pub small : at ≤ 32768
