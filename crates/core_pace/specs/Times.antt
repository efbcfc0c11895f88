-- To be believed. The times of a task: its transactions and its end, told of the run in
-- which nothing is put in and nothing is read.
use Rattle.std.specs.Prelude.{ℕ, List, []}
use Rattle.slot_arbiter.specs.declared.event.Access.{Access}
use Rattle.slot_arbiter.specs.declared.place.Place.{Place}
use Rattle.patmos_code.specs.Images.{Parts}
use Rattle.patmos_model.specs.State.{Core}
use Rattle.patmos_model.specs.Apart.{apart_at}

-- the transactions, each with its cycle, and the cycle from which on the core is free: the end, once the task has ended
pub record Times : Type 0 where
  pub accesses : List Access
  pub end : ℕ

abbrev pub times_in : Core → Times
times_in c = record { accesses = c.seen.accesses; end = c.plain.free }

-- the times of the task at a place with this image, after so many cycles, with an empty input and no values read
abbrev pub times : Place → Parts → ℕ → Times
times place image cycles = times_in (apart_at place image [] [] cycles).core
