-- For proofs. The workers of a machine's cores.
use Rattle.std.specs.Prelude.{◌≡◌, ℕ, ◌*◌, ◌<◌, ◌≤◌, List, length, Some, IfSome, slice_get}
use Rattle.std.specs.List.{Any}
use Rattle.argo_ni.specs.Packet.{comm_word}
use Rattle.clock_board.specs.declared.known.Record.{Record}
use Rattle.clock_board.specs.Record.{clock_of}
use Rattle.clock_board.specs.View.{own}
use Rattle.clock_board.specs.Board.{BoardFace}
use Rattle.patmos_core.specs.declared.cpu.Core.{Core as Cpu}
use Rattle.patmos_core.specs.Position.{place_of, room_of}
use Rattle.core_worker.specs.Runs.{RunsAs}
use Rattle.core_worker.specs.Worker.{WorkerFace, IsOn, IsDone}
use Rattle.global_step.specs.Loaded.{Machine, AreOnePlatform}
use Rattle.global_step.specs.Machine.{core_among, all_operations}
use Rattle.global_step.specs.declared.loaded.LoadedCore.{LoadedCore}
use Rattle.tc_run.specs.Begun.{IsBegun}

-- the number of a core, and of a worker's core
abbrev pub number : Cpu → ℕ
number c = (place_of c).core

abbrev pub number_of : WorkerFace → ℕ
number_of w = number w.core

-- it is a core of the machine before the first cycle
pub record IsFirst (m : Machine) (c : Cpu) : Type 0 where
  pub loaded : LoadedCore
  pub there : slice_get m.cores (number c) ≡ Some loaded
  pub begun : IsBegun m.trace loaded c

-- The worker's core is one of the machine's, and stands for it: it began as the core that was loaded at its
-- place, and makes what the machine's core makes.
pub record IsWorkerOf (m : Machine) (w : WorkerFace) : Type 0 where
  pub among : number_of w < length m.cores
  pub platform : AreOnePlatform m.cores
  pub run : RunsAs (core_among m.cores (number_of w)) m.limit w.core w.pass.view
  pub cores : w.pass.view.cores ≡ length m.cores
  pub course : w.pass.view.course ≡ all_operations m
  pub core : (own w.pass.view).core ≡ number_of w
  pub place : IfSome (slice_get m.cores (number_of w)) (λ l. place_of w.core ≡ l.place)
  pub room : IfSome (slice_get m.cores (number_of w)) (λ l. IfSome l.image (λ image. room_of w.core ≡ m.trace))
  pub limit : w.limit ≡ m.limit

-- one of the workers has the core of a number
abbrev pub HasWorker : List WorkerFace → ℕ → Type 0
HasWorker workers k = Any (λ w. number_of w ≡ k) workers

-- each core of the machine has one
abbrev pub HaveAll : Machine → List WorkerFace → Type 0
HaveAll m workers = (k : ℕ) → k < length m.cores → HasWorker workers k

-- the worker is of one of the machine's cores, on its board
pub record IsAtWork (m : Machine) (board : BoardFace) (w : WorkerFace) : Type 0 where
  pub of : IsWorkerOf m w
  pub on : IsOn board w

-- and has no event left
pub record IsThroughWith (m : Machine) (board : BoardFace) (w : WorkerFace) : Type 0 where
  pub of : IsWorkerOf m w
  pub on : IsOn board w
  pub done : IsDone w

-- the board has the machine's cores, its words and its course
pub record IsBoardOf (m : Machine) (board : BoardFace) : Type 0 where
  pub cores : board.cores ≡ length m.cores
  pub words : board.words ≡ comm_word (length m.cores) 0
  pub course : board.course ≡ all_operations m

-- the record is of the core with the number, which has published a stamp past all that the machine makes
abbrev pub IsPast : Machine → ℕ → Record → Type 0
IsPast m k r = (r.core ≡ k) × (2 * m.limit * length m.cores ≤ clock_of r.published)
