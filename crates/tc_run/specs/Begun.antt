-- For proofs. The cores of a machine before the first cycle.
use Rattle.std.specs.Prelude.{◌≡◌, ℕ, List, [], length, None, IfSome, slice_get}
use Rattle.patmos_core.specs.declared.cpu.Core.{Core as Cpu}
use Rattle.patmos_core.specs.Position.{StandsFor, waiting_of, limit_of, place_of, room_of}
use Rattle.global_step.specs.declared.loaded.LoadedCore.{LoadedCore}
use Rattle.global_step.specs.Loaded.{Machine}
use Rattle.global_step.specs.Machine.{first_core}
use Rattle.global_step.specs.PlainRun.{Every}

-- The core stands for the one that was loaded, has made nothing, and was asked for nothing. With a task
-- it keeps so many transactions.
pub record IsBegun (trace : ℕ) (l : LoadedCore) (c : Cpu) : Type 0 where
  pub stands : StandsFor c (first_core l) []
  pub waiting : waiting_of c ≡ None
  pub limit : limit_of c ≡ 0
  pub place : place_of c ≡ l.place
  pub room : IfSome l.image (λ image. room_of c ≡ trace)

-- each of the cores is begun, in the order of their numbers, and they are all of the machine's
pub record AreBegun (m : Machine) (cores : List Cpu) : Type 0 where
  pub count : length cores ≡ length m.cores
  pub each : Every (λ k c. IfSome (slice_get m.cores k) (λ l. IsBegun m.trace l c)) cores
