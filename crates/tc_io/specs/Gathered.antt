-- To be believed. What a sink in memory holds.
use Rattle.std.specs.Prelude.{◌==◌, ℕ, ◌+◌, ◌-◌, ◌^◌, List, [], ◌++◌, length, take, min, Option, Some, None, if◌then◌else◌}
use Rattle.tc_io.specs.FaultPlan.{Plan}

-- the first `room` bytes that came, and how many came after them
pub record Gathered : Type 0 where
  pub kept : List ℕ
  pub room : ℕ
  pub rest : ℕ

-- a sink that no byte has reached
abbrev pub empty : ℕ → Gathered
empty room = record { kept = []; room = room; rest = 0 }

-- the sink after it takes `piece`; the count of the rest stops at 2^64 - 1
abbrev pub with_piece : Gathered → List ℕ → Gathered
with_piece g piece = record g {
  kept = take g.room (g.kept ++ piece);
  rest = min (g.rest + (length (g.kept ++ piece) - g.room)) (2 ^ 64 - 1);
}

-- the bytes taken, which are told while all of them are kept
abbrev pub known : Gathered → Option (List ℕ)
known g = if g.rest == 0 then Some g.kept else None

-- a sink that takes at most `most` bytes a call, under a plan of faults
pub record Metered : Type 0 where
  pub gathered : Gathered
  pub most : ℕ
  pub plan : Plan
