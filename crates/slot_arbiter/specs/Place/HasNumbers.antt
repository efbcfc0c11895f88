-- To be believed. What a place keeps of the numbers that it was made of.
use Rattle.std.specs.Prelude.{◌≡◌, ℕ}
use Rattle.slot_arbiter.specs.declared.place.Place.{Place}

-- the place has these numbers
pub record HasNumbers (place : Place) (cores core slot start : ℕ) : Type 0 where
  pub cores_are : place.cores ≡ cores
  pub core_is : place.core ≡ core
  pub slot_is : place.slot ≡ slot
  pub start_is : place.start ≡ start
