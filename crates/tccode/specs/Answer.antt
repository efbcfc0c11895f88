-- To be believed. What is written for the words of a command line and the bytes of the input: a status and a text. The
-- refusals are those of `tcrest bound`, in its order.
use Rattle.std.specs.Prelude.{ℕ, nat_lt, if◌then◌else◌, List, [], ◌∷◌, length, codes, Option, Result, Ok, Err}
use Rattle.job_tasks.specs.Answer.{lone_line, too_long, no_job, no_task, whole}
use Rattle.job_tasks.specs.Tasks.{Coded, coded_from}
use Rattle.job_tasks.specs.declared.answers.Answer.{Answer}
use Rattle.job_tasks.specs.declared.calls.TheConstants.{MOST_BYTES}
use Rattle.job_tasks.specs.declared.refusal.CoreRefusal.{CoreRefusal}
use Rattle.tc_job.specs.Job.{job_of}
use Rattle.tc_job.specs.declared.job.Job.{Job}
use Rattle.tc_toml.specs.Fault.{Fault}
use Rattle.tccode.specs.Codes.{job_text}

-- no word calls for anything
abbrev pub usage : Answer
usage = lone_line 1 (codes "usage: tccode")

-- the code of the tasks, or a refused task
abbrev pub coded_answer : Job → Result (List (Option Coded)) CoreRefusal → Answer
coded_answer job (Ok coded) = whole (job_text job coded)
coded_answer job (Err refusal) = no_task refusal

abbrev pub job_answer : Result Job Fault → Answer
job_answer (Err fault) = no_job fault
job_answer (Ok job) = coded_answer job (coded_from job 0 job.cores)

-- what is written for a text
unfoldable pub bytes_answer : List ℕ → Answer
bytes_answer bytes = if nat_lt MOST_BYTES (length bytes) then too_long else job_answer (job_of bytes)

-- the one order of refusals: words, reading, length, job, tasks by core number
abbrev pub answer : List (List ℕ) → List ℕ → Answer
answer [] bytes = bytes_answer bytes
answer (word ∷ words) bytes = usage
