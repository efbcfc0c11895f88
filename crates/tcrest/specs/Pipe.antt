-- To be believed. What `pipe` writes: what the five stages of a job's only core hold at
-- each step, and what became of its task.
use Rattle.std.specs.Prelude.{ℕ, zero, suc, ◌+◌, ◌==◌, min, Bool, true, false, ◌&&◌, List, [], ◌∷◌, ◌++◌, length, codes, None, Some, option_map}
use Rattle.slot_arbiter.specs.Slot.{period}
use Rattle.patmos_model.specs.State.{Core}
use Rattle.pipe_five.specs.Stages.{stages_of}
use Rattle.pipe_five.specs.Steps.{done_below, first_of, number}
use Rattle.tc_job.specs.declared.job.Job.{Job}
use Rattle.tc_job.specs.declared.task.Task.{Task}
use Rattle.tc_report.specs.declared.rows.Row.{Row}
use Rattle.tc_report.specs.Line.{step_line}
use Rattle.tc_report.specs.Report.{platform_line, state_line}
use Rattle.job_tasks.specs.declared.answers.Answer.{Answer}
use Rattle.tcrest.specs.declared.pipe.PipeFault.{PipeFault}
use Rattle.tcrest.specs.declared.pipe.PipeFault.TheVariants.{OneCore}
use Rattle.job_rows.specs.Rows.{status_of}

-- the number of a fault that `pipe` alone finds, after those of any job, and its name
abbrev pub fault_number : PipeFault → ℕ
fault_number OneCore = 9

abbrev pub fault_name : PipeFault → List ℕ
fault_name OneCore = codes "OneCore"

-- the job has one core, and a task
abbrev pub has_task : List Task → Bool
has_task [] = false
has_task (t ∷ tasks) = true

abbrev pub is_lone : Job → Bool
is_lone job = job.cores == 1 && has_task job.tasks

-- Step k of a core's run below a limit: bundle k is done in its cycle, and the stages hold this
abbrev pub step_text : Core → ℕ → ℕ → List ℕ
step_text x limit k = elim (option_map (λ d. d.cycle) (number k (done_below x limit))) [
  | None ↦ []
  | Some cycle ↦ step_line cycle (stages_of x (first_of (k + 1) (done_below x limit)))
]

-- the first so many steps
abbrev pub steps_text : Core → ℕ → ℕ → List ℕ
steps_text x limit zero = []
steps_text x limit (suc n) = steps_text x limit n ++ step_text x limit n

-- what became of the core at the limit: the line of its state in the report of the same job
abbrev pub first_line : List Row → List ℕ
first_line [] = []
first_line (row ∷ rows) = state_line 0 row

-- the platform, the first steps as far as the job asks for them and there are, and the core at the limit, of which the
-- report has these rows
abbrev pub pipe_text : Job → List Row → Core → List ℕ
pipe_text job rows x =
    platform_line job.cores job.slot (period job.table job.slot)
    ++ (steps_text x job.cycles (min job.trace (length (done_below x job.cycles))) ++ first_line rows)

abbrev pub pipe_of : Job → List Row → Core → Answer
pipe_of job rows x = record { status = status_of rows; text = pipe_text job rows x }
