-- To be believed. The job that a generated text writes.
use Rattle.std.specs.Prelude.{ℕ, zero, suc, ◌+◌, List, [], ◌∷◌}
use Rattle.job_gen.specs.Generator.{after_functions, after_task, draw, next, source}
use Rattle.job_gen.specs.declared.task.TheConstants.{WORDS}
use Rattle.job_gen.specs.declared.whole.TheConstants.{CORES}
use Rattle.tc_job.specs.declared.job.Job.{Job}
use Rattle.tc_job.specs.declared.task.Task.{Task}
use Rattle.tc_job.specs.declared.task.Lang.TheVariants.{C}

-- so many draws from a state on
abbrev pub words_from : ℕ → ℕ → List ℕ
words_from zero x = []
words_from (suc left) x = draw x ∷ words_from left (next x)

-- the task of a core whose draws begin at a state: its C text, and after the functions' draws those of its input
abbrev pub task_with : ℕ → ℕ → Task
task_with core x =
    record { core = core; lang = C; source = source x; input = words_from WORDS (after_functions x); start = 0 }

-- the tasks of so many cores from a core on; each goes on with the state that the one before it left
abbrev pub tasks_with : ℕ → ℕ → ℕ → List Task
tasks_with zero core x = []
tasks_with (suc left) core x = task_with core x ∷ tasks_with left (core + 1) (after_task x)

-- The job with a number: a task on each core of a platform that is the same for all numbers. It
-- is of version 1, where the cores take their slots in turn; what its text leaves out is as in
-- every job: no trace, and a worker for each core.
abbrev pub job_with : ℕ → Job
job_with n = record {
  version = 1;
  cores = CORES;
  slot = 8;
  table = 0 ∷ 1 ∷ 2 ∷ 3 ∷ [];
  cycles = 20000000;
  trace = 0;
  workers = 4;
  tasks = tasks_with CORES 0 n;
}
