-- For proofs. Workers that are handed on: from one list to another, and to threads and back.
use Rattle.std.specs.Prelude.{◌≡◌, ℕ, ◌+◌, ◌≤◌, List, ◌++◌, length, Vec, vec_len, vec_capacity}
use Rattle.std.specs.Global.{Global}
use Rattle.std.specs.List.{All, flat_map}
use Rattle.clock_board.specs.Board.{BoardFace}
use Rattle.core_worker.specs.Worker.{WorkerFace, IsOn}
use Rattle.core_worker.specs.declared.worker.Worker.{Worker}
use Rattle.global_step.specs.Loaded.{Machine}
use Rattle.global_step.specs.declared.loaded.Loaded.{Loaded}
use Rattle.tc_run.specs.declared.crew.Crew.{Crew}
use Rattle.tc_run.specs.Worked.{HasWorker, IsAtWork}

-- The second list has the workers of the first, later: as many, on the board or at work on it where these
-- were, and one of each core of which there was one.
pub record Carries (board : BoardFace) (ws ws' : List WorkerFace) : Type 0 where
  pub count : length ws' ≡ length ws
  pub on : All (IsOn board) ws → All (IsOn board) ws'
  pub work : (m : Machine) → All (IsAtWork m board) ws → All (IsAtWork m board) ws'
  pub have : (k : ℕ) → HasWorker ws k → HasWorker ws' k

-- the workers of groups, one group after the other
abbrev pub workers_in : List (Vec (Worker Loaded) Global) → List WorkerFace
workers_in groups = flat_map (λ ws. ws.items) groups

-- the workers of a crew: those that the caller has, and those that moved into threads
abbrev pub workers_of : Crew → List WorkerFace
workers_of crew = crew.here.items ++ flat_map (λ h. h.promise.was.value.items) crew.away.items

-- its threads run against the board
abbrev pub IsCrewOn : BoardFace → Crew → Type 0
IsCrewOn board crew = All (λ h. h.promise.board.value ≡ board) crew.away.items

-- The crew can take workers in so many groups on: they and its own are on the board, and it has room for all
-- of them, and for a thread of each group.
pub record IsReady (board : BoardFace) (crew : Crew) (workers : List WorkerFace) (groups : ℕ) : Type 0 where
  pub on : All (IsOn board) (workers_of crew ++ workers)
  pub away : IsCrewOn board crew
  pub room : length (workers_of crew) + length workers ≤ vec_capacity crew.here
  pub threads : vec_len crew.away + groups ≤ vec_capacity crew.away
