-- To be believed. The cores of a machine at its limit.
use Rattle.std.specs.Prelude.{◌≡◌, ℕ, ◌<◌, List, length, IfSome, slice_get}
use Rattle.patmos_core.specs.declared.cpu.Core.{Core as Cpu}
use Rattle.patmos_core.specs.Position.{StandsFor, limit_of, place_of, room_of, IsThrough}
use Rattle.global_step.specs.Loaded.{Machine, AreOnePlatform}
use Rattle.global_step.specs.Machine.{core_among, operations_of}
use Rattle.global_step.specs.PlainRun.{Every}

-- The core is number k of a machine, whose cores are those of one platform. It stands for the core that
-- began there, with the operations that this one makes in the machine, and the cycles below the limit are
-- done. It is at its place, and with a task it keeps as many transactions as are told.
pub record IsFinalCore (m : Machine) (k : ℕ) (c : Cpu) : Type 0 where
  pub among : k < length m.cores
  pub platform : AreOnePlatform m.cores
  pub stands : StandsFor c (core_among m.cores k) (operations_of m k)
  pub through : IsThrough c
  pub limit : limit_of c ≡ m.limit
  pub place : IfSome (slice_get m.cores k) (λ l. place_of c ≡ l.place)
  pub room : IfSome (slice_get m.cores k) (λ l. IfSome l.image (λ image. room_of c ≡ m.trace))

-- each of the cores is final, and they are all of the machine's
pub record AreFinal (m : Machine) (cores : List Cpu) : Type 0 where
  pub count : length cores ≡ length m.cores
  pub each : Every (IsFinalCore m) cores
