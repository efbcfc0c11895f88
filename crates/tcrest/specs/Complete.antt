-- To be believed. When a job is reported, whole.
use Rattle.std.specs.Prelude.{◌≡◌, ◌≤◌, List, Option, Ok}
use Rattle.c_compile.specs.Texts.{program_on}
use Rattle.c_lex.specs.Texts.{lexed}
use Rattle.c_task.specs.Translation.{bound_on}
use Rattle.c_tree.specs.Plain.{PlainItem}
use Rattle.cycle_bound.specs.declared.held.TheConstants.{MOST_BOUND}
use Rattle.patmos_asm.specs.Assembly.{CodeParts, code_of}
use Rattle.tc_job.specs.declared.job.Job.{Job}
use Rattle.tc_job.specs.declared.task.Task.{Task}
use Rattle.tc_job.specs.declared.task.Lang.TheVariants.{Asm, C}
use Rattle.job_tasks.specs.declared.answers.Answer.{Answer}
use Rattle.tcrest.specs.Answer.{report_of}
use Rattle.job_tasks.specs.Tasks.{Coded, coded_from}
use Rattle.tcrest.specs.Telling.{HasReport}

-- a task with code: its text is assembly, or a program that is valid on its core and whose bound is not too long
pub data HasCode (job : Job) (t : Task) : Type 0 where
  assembles : (code : CodeParts) → t.lang ≡ Asm → code_of t.source ≡ Ok code → HasCode job t
  compiles : (items : List PlainItem) → t.lang ≡ C → program_on job.cores t.core (lexed t.source) ≡ Ok items
      → bound_on job.table job.slot t.core items ≤ MOST_BOUND → HasCode job t

-- the answer is the report of the machine of a job, all of whose tasks are made, under the status of a report
pub record IsWhole (job : Job) (a : Answer) : Type 0 where
  pub coded : List (Option Coded)
  pub made : coded_from job 0 job.cores ≡ Ok coded
  pub report : a ≡ report_of job coded
  pub status : HasReport a.status
