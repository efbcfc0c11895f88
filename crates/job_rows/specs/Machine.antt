-- To be believed. The machine that a job asks for: the job's platform, and on each core its task, if it has one.
use Rattle.std.specs.Prelude.{ℕ, ◌+◌, List, [], ◌∷◌, Option, None, Some, slice_get}
use Rattle.shared_order.specs.Machine.{State, cycled}
use Rattle.patmos_model.specs.State.{Core}
use Rattle.patmos_model.specs.Begin.{begun, idle, no_code}
use Rattle.patmos_model.specs.Cycle.{turn}
use Rattle.global_step.specs.Machine.{core_among}
use Rattle.tc_job.specs.declared.job.Job.{Job}
use Rattle.job_tasks.specs.Sites.{site_on}
use Rattle.job_tasks.specs.Tasks.{Coded}

-- a core before the first cycle: without a task, and with one
abbrev pub idle_on : Job → ℕ → Core
idle_on job core = idle (site_on job core 0 no_code)

abbrev pub begun_on : Job → ℕ → Coded → Core
begun_on job core c = begun (site_on job core c.task.start c.made.image) c.task.input

-- the core with its task, if it has one
abbrev pub core_with : Job → ℕ → Option Coded → Core
core_with job core None = idle_on job core
core_with job core (Some c) = begun_on job core c

-- cores with their tasks, the first of which is this one
abbrev pub cores_from : Job → ℕ → List (Option Coded) → List Core
cores_from job core [] = []
cores_from job core (c ∷ cs) = core_with job core c ∷ cores_from job (core + 1) cs

-- the core with a number; past the last it is one that does nothing
abbrev pub core_in : List Core → ℕ → Core
core_in cores k = elim (slice_get cores k) [ None ↦ core_among [] k | Some x ↦ x ]

-- the machine of these cores when the cycles below the job's limit are done
unfoldable pub machine_of : Job → List Core → State Core
machine_of job cores = cycled turn job.cores (core_in cores) job.cycles
