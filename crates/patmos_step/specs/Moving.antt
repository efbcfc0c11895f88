-- To be believed. Words that are to be moved.
use Rattle.std.specs.Prelude.{◌≡◌, ℕ, ◌<◌, true}
use Rattle.patmos_model.specs.declared.state.Status.TheVariants.{Running}
use Rattle.patmos_model.specs.State.{Plain}
use Rattle.patmos_model.specs.Transaction.{is_due}

-- words are to be moved, in this cycle or a later one
pub record HasToMove (x : Plain) : Type 0 where
  pub status : x.status ≡ Running
  pub words : 0 < x.transfer.words

-- words move in the cycle
pub record MovesIn (cycle : ℕ) (x : Plain) : Type 0 where
  pub status : x.status ≡ Running
  pub due : is_due cycle x ≡ true
