-- The report of a job is that of its machine's rows.
use Rattle.std.proofs.Common.{◌≡◌, List, map, ap, ◌∙◌, Option}
use Rattle.std.specs.Prelude.{Result, Ok, Err, IfOk}
use Rattle.global_step.specs.Loaded.{Machine}
use Rattle.global_step.specs.Machine.{at_limit}
use Rattle.tc_job.specs.declared.job.Job.{Job}
use Rattle.tc_report.specs.declared.rows.Row.{Row}
use Rattle.job_tasks.specs.declared.answers.Answer.{Answer}
use Rattle.c_mentions.specs.declared.tasks.CoreTask.{CoreTask}
use Rattle.job_tasks.specs.declared.program.Program.{Program}
use Rattle.job_tasks.specs.Coding.{runs}
use Rattle.job_tasks.specs.Tasks.{Coded, runs_on}
use Rattle.tcrest.specs.Answer.{reported, report_of}
use Rattle.job_rows.specs.Machine.{cores_from, machine_of}
use Rattle.job_rows.specs.Rows.{rows_of}
use Rattle.job_rows.specs.Loading.{IsLoadedFor}
use Rattle.job_rows.proofs.RowsFound.{same_rows}

-- where they are reported, the report is that of the job's machine
pub report_is : {E : Type 0} (job : Job) (coded : List (Option Coded)) (tasks : List (CoreTask Program)) (m : Machine)
    (rows : List Row) (answer : Result Answer E)
    → IsLoadedFor job (cores_from job 0 coded) m → map runs tasks ≡ map runs_on coded → rows
    ≡ rows_of m.limit m.trace (map runs tasks) (at_limit m)
    → IfOk answer (λ a. a ≡ reported job rows) → IfOk answer (λ a. a ≡ report_of job coded)
report_is job coded tasks m rows (Ok a) loaded run are is =
    is ∙ ap (reported job) (are ∙ same_rows job (cores_from job 0 coded) (map runs tasks) m loaded
    ∙ ap (λ rs. rows_of job.cycles job.trace rs (machine_of job (cores_from job 0 coded))) run)
report_is job coded tasks m rows (Err e) loaded run are is = tt
