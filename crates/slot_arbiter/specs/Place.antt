-- To be believed. A core's place on the platform.
use Rattle.std.specs.Prelude.{ℕ, ◌<◌, ◌≤◌}
use Rattle.slot_arbiter.specs.declared.place.TheConstants.{LATEST_START}
pub mod HasNumbers

-- the ranges of our profile TP1: 1 to 16 cores, one of which this is, slots of 6 to 64 cycles,
-- and a start at the greatest cycle limit at the latest
pub record IsPlace (cores core slot start : ℕ) : Type 0 where
  pub among : core < cores
  pub cores_most : cores ≤ 16
  pub slot_least : 6 ≤ slot
  pub slot_most : slot ≤ 64
  pub start_most : start ≤ LATEST_START
