-- To be believed. What is written for the words of a command line and the bytes of the input: a status and a text.
use Rattle.std.specs.Prelude.{ℕ, nat_lt, Bool, true, if◌then◌else◌, List, [], ◌∷◌, Option, None, Some, ◌++◌, length, map, codes, Result, Ok, Err}
use Rattle.argo_grid.specs.declared.report.GridReport.{GridReport}
use Rattle.argo_grid.specs.Report as grid
use Rattle.job_gen.specs.Generator.{generated}
use Rattle.tc_toml.specs.Fault.{Fault}
use Rattle.tc_job.specs.Job.{job_of}
use Rattle.tc_job.specs.declared.job.Job.{Job}
use Rattle.tc_report.specs.declared.rows.Row.{Row}
use Rattle.tc_report.specs.Report.{report_text}
use Rattle.job_tasks.specs.declared.calls.TheConstants.{MOST_BYTES}
use Rattle.job_tasks.specs.declared.answers.Answer.{Answer}
use Rattle.tcrest.specs.declared.command.Command.{Command}
use Rattle.tcrest.specs.declared.command.Command.TheVariants.{OfJob, Grid, Gen, Bench, Usage}
use Rattle.tcrest.specs.declared.command.JobCommand.{JobCommand}
use Rattle.tcrest.specs.declared.command.JobCommand.TheVariants.{Run, Bound, Asm, Mean, Pipe, Persist}
use Rattle.tcrest.specs.declared.pipe.PipeFault.{PipeFault}
use Rattle.tcrest.specs.declared.pipe.PipeFault.TheVariants.{OneCore}
use Rattle.job_tasks.specs.declared.refusal.CoreRefusal.{CoreRefusal}
use Rattle.tcrest.specs.Bounds.{bounds_text}
use Rattle.tcrest.specs.declared.bounds.Bounds.TheVariants.{Plain, Persistent}
use Rattle.tcrest.specs.Command.{command_of}
use Rattle.tcrest.specs.Listing.{listings}
use Rattle.job_rows.specs.Machine.{begun_on, cores_from, machine_of}
use Rattle.tcrest.specs.Meanings.{meanings}
use Rattle.tcrest.specs.Pipe.{fault_name, is_lone, pipe_of}
use Rattle.job_rows.specs.Rows.{rows_of, status_of, report_rows}
use Rattle.job_tasks.specs.Answer.{lone_line, too_long, no_job, no_task, whole}
use Rattle.job_tasks.specs.Tasks.{Coded, coded_from, runs_on}

abbrev pub usage : Answer
usage = lone_line 1 (codes "usage: tcrest run|bound|asm|mean|gen N|bench N|pipe|grid|persist")

-- the report of rows, under their status
abbrev pub reported : Job → List Row → Answer
reported job rows = record { status = status_of rows; text = report_text (report_rows job rows) }

-- the rows of these tasks, from their machine at its limit alone
abbrev pub rows_at_end : Job → List (Option Coded) → List Row
rows_at_end job coded = rows_of job.cycles job.trace (map runs_on coded) (machine_of job (cores_from job 0 coded))

-- the report of the machine of these tasks
abbrev pub report_of : Job → List (Option Coded) → Answer
report_of job coded = reported job (rows_at_end job coded)

-- a job that `pipe` alone refuses
abbrev pub no_pipe : PipeFault → Answer
no_pipe fault = lone_line 2 (codes "job: " ++ fault_name fault)

-- the job has another number of cores than one, or no task
abbrev pub one_core : Answer
one_core = no_pipe OneCore

-- the stages of the only core, and the line of its state in the report
abbrev pub pipe_with : Job → List (Option Coded) → Answer
pipe_with job [] = one_core
pipe_with job (None ∷ cs) = one_core
pipe_with job (Some c ∷ []) = pipe_of job (rows_at_end job (Some c ∷ [])) (begun_on job 0 c)
pipe_with job (Some c ∷ d ∷ cs) = one_core

-- what is written for a job whose tasks are made to these
abbrev pub answer_with : JobCommand → Job → List (Option Coded) → Answer
answer_with Run job coded = report_of job coded
answer_with Bound job coded = whole (bounds_text Plain job coded)
answer_with Asm job coded = whole (listings coded)
answer_with Mean job coded = whole (meanings job.cycles coded)
answer_with Pipe job coded = pipe_with job coded
answer_with Persist job coded = whole (bounds_text Persistent job coded)

-- what a command answers of the tasks of a job, or of the task that is refused
abbrev pub answer_or : JobCommand → Job → Result (List (Option Coded)) CoreRefusal → Answer
answer_or command job (Ok coded) = answer_with command job coded
answer_or command job (Err refusal) = no_task refusal

-- `pipe` takes a job of one core with a task alone
abbrev pub is_taken : JobCommand → Job → Bool
is_taken Pipe job = is_lone job
is_taken _ job = true

-- what is written for a job
abbrev pub answer_by : JobCommand → Job → Answer
answer_by command job = if is_taken command job then answer_or command job (coded_from job 0 job.cores) else one_core

abbrev pub job_answer : JobCommand → Result Job Fault → Answer
job_answer command (Err fault) = no_job fault
job_answer command (Ok job) = answer_by command job

-- the report on a schedule of the network
abbrev pub of_grid : GridReport → Answer
of_grid report = record { status = report.status; text = report.text }

-- what is written where nothing is read: the text of a generated job, what `run` writes for it, or the usage line
abbrev pub unread_answer : Command → Answer
unread_answer (Gen number) = whole (generated number)
unread_answer (Bench number) = job_answer Run (job_of (generated number))
unread_answer Usage = usage
unread_answer (OfJob command) = usage
unread_answer Grid = usage

-- what is written for a text that is not too long
abbrev pub text_answer : Command → List ℕ → Answer
text_answer (OfJob command) bytes = job_answer command (job_of bytes)
text_answer Grid bytes = of_grid (grid.report_of bytes)
text_answer (Gen number) bytes = unread_answer (Gen number)
text_answer (Bench number) bytes = unread_answer (Bench number)
text_answer Usage bytes = unread_answer Usage

unfoldable pub bytes_answer : Command → List ℕ → Answer
bytes_answer command bytes = if nat_lt MOST_BYTES (length bytes) then too_long else text_answer command bytes

abbrev pub command_answer : Command → List ℕ → Answer
command_answer (OfJob command) bytes = bytes_answer (OfJob command) bytes
command_answer Grid bytes = bytes_answer Grid bytes
command_answer (Gen number) bytes = unread_answer (Gen number)
command_answer (Bench number) bytes = unread_answer (Bench number)
command_answer Usage bytes = unread_answer Usage

-- the one order of refusals: words, reading, length, job or schedule, tasks by core number
abbrev pub answer : List (List ℕ) → List ℕ → Answer
answer words bytes = command_answer (command_of words) bytes
