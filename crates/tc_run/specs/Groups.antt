-- For proofs. How the cores of a machine are divided among its workers.
use Rattle.std.specs.Prelude.{◌≡◌, ℕ, zero, suc, ◌+◌, ◌%◌, ◌<◌, List, [], ◌∷◌, None, Some, Vec, slice_get, slice_index_or}
use Rattle.std.specs.Global.{Global}
use Rattle.core_worker.specs.declared.worker.Worker.{Worker}
use Rattle.global_step.specs.Loaded.{Machine}
use Rattle.global_step.specs.declared.loaded.LoadedCore.{LoadedCore}
use Rattle.global_step.specs.declared.loaded.Loaded.{Loaded}
use Rattle.tc_run.specs.Worked.{HasWorker}

-- how many tasks a core has
abbrev pub tasks_of : LoadedCore → ℕ
tasks_of l = elim l.image [ None ↦ 0 | Some image ↦ 1 ]

-- how many of the first k cores have a task
abbrev pub tasks_before : List LoadedCore → ℕ → ℕ
tasks_before ls zero = 0
tasks_before [] (suc k) = 0
tasks_before (l ∷ ls) (suc k) = tasks_of l + tasks_before ls k

-- The number of the group of a core before which there are so many with a task: the k-th core with a task is
-- in group k mod w, and the cores without one are in the group after these.
abbrev pub group_of : LoadedCore → ℕ → ℕ → ℕ
group_of l tasks w = elim l.image [ None ↦ w | Some image ↦ tasks % w ]

-- each of the first n cores has its worker in its group
abbrev pub AreGrouped : Machine → ℕ → List (Vec (Worker Loaded) Global) → Type 0
AreGrouped m n groups = (k : ℕ) (l : LoadedCore) (d : Vec (Worker Loaded) Global) → k < n → slice_get m.cores k ≡ Some l
    → HasWorker (slice_index_or groups (group_of l (tasks_before m.cores k) m.workers) d).items k
