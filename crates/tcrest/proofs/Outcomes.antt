-- How a call that ended meets the sentences on what was written.
use Rattle.std.proofs.Common.{◌≡◌, inl, inr, ℕ, ◌<◌, ◌≤◌, List, [], length, refl, sym, ◌∙◌, ◌≢◌, ◌↔◌, ap, slice_index, map, arith, Option, Some, None, IfSome}
use Rattle.std.proofs.lemmas.Bool.{cases_lt}
use Rattle.std.proofs.lemmas.Bool.Decides.{nat_tests}
use Rattle.job_gen.specs.Generator.{generated}
use Rattle.tc_toml.specs.Fault.{Fault}
use Rattle.tc_job.specs.Job.{job_of}
use Rattle.tc_toml.specs.declared.fault.JobFault.{JobFault}
use Rattle.tc_toml.specs.declared.fault.JobFault.TheVariants as faults
use Rattle.tc_job.specs.declared.job.Job.{Job}
use Rattle.std.specs.List.{list_any}
use Rattle.tc_report.specs.declared.rows.Row.{Row}
use Rattle.std.specs.Prelude.{Result, Ok, Err, Bool, true, false, if◌then◌else◌, ◌∷◌}
use Rattle.patmos_model.specs.State.{Core}
use Rattle.job_tasks.specs.declared.calls.TheConstants.{MOST_BYTES}
use Rattle.job_tasks.specs.declared.answers.Answer.{Answer}
use Rattle.tcrest.specs.declared.command.Command.{Command}
use Rattle.tcrest.specs.declared.command.Command.TheVariants.{OfJob, Grid, Gen, Bench, Usage}
use Rattle.argo_grid.specs.declared.fault.GridFault.{GridFault}
use Rattle.argo_grid.specs.declared.fault.GridFault.TheVariants as grid_faults
use Rattle.argo_grid.specs.Check.{checked}
use Rattle.argo_grid.specs.Read.{schedule_of}
use Rattle.argo_grid.specs.Report as grid
use Rattle.argo_grid.specs.Report.{by_check, report_on}
use Rattle.argo_grid.specs.Schedule.{Schedule}
use Rattle.tcrest.specs.declared.command.JobCommand.{JobCommand}
use Rattle.tcrest.specs.declared.command.JobCommand.TheVariants.{Run, Bound, Asm, Mean, Pipe, Persist}
use Rattle.job_tasks.specs.declared.refusal.CoreRefusal.{CoreRefusal}
use Rattle.tcrest.specs.Bounds.{bounds_text}
use Rattle.tcrest.specs.declared.bounds.Bounds.TheVariants.{Plain, Persistent}
use Rattle.tcrest.specs.Command.{command_of, ReadsNothing}
use Rattle.tcrest.specs.Listing.{listings}
use Rattle.job_rows.specs.Machine.{begun_on, cores_from, machine_of}
use Rattle.tcrest.specs.Meanings.{meanings}
use Rattle.tcrest.specs.Pipe.{pipe_of}
use Rattle.job_rows.specs.Rows.{rows_of, is_early, status_of}
use Rattle.job_tasks.specs.Tasks.{Coded, coded_from, runs_on}
use Rattle.job_tasks.specs.Answer.{too_long, no_job, no_task, whole}
use Rattle.tcrest.specs.Answer.{report_of, answer_with, answer_or, is_taken, one_core, pipe_with, rows_at_end, answer_by, job_answer, of_grid, text_answer, bytes_answer, command_answer, answer}
use Rattle.job_tasks.specs.Outcome.{IsSent, Ends}

-- the answer to a job has the status of a whole text or of a refused task
abbrev IsOfTasks : ℕ → Type 0
IsOfTasks status = (status < 5) × (status ≢ 1) × (status ≢ 2)

status_of-is : (rows : List Row) → IsOfTasks (status_of rows)
status_of-is rows = by (list_any (λ r. is_early r.state) rows)
  where
    by : (early : Bool) → IsOfTasks (elim early [ true ↦ 3 | false ↦ 0 ])
    by true = (omega arith, omega arith, omega arith)
    by false = (omega arith, omega arith, omega arith)

-- no fault of a job is reported as the length of its text is: at the latest their eighth bytes differ
differs_from_long : (kind : JobFault) (task : Option ℕ) (key : List ℕ)
    → slice_index (no_job (record { kind = kind; task = task; key = key })).text 7 ≢ slice_index too_long.text 7
differs_from_long faults.Toml task key = omega arith
differs_from_long _ task key = omega arith

-- the answer to a text that is not too long
record IsOfInput (a : Answer) : Type 0 where
  below : a.status < 5
  not_usage : a.status ≢ 1
  not_long : a ≢ too_long

of_tasks : (a : Answer) → IsOfTasks a.status → IsOfInput a
of_tasks a status = record {
  below = status.0;
  not_usage = status.1;
  not_long = λ same. status.2 (ap (λ (b : Answer). b.status) same);
}

-- a job that has another number of cores than one, or no task, is not told to be too long
one_core-is : IsOfInput one_core
one_core-is = record {
  below = omega arith;
  not_usage = omega arith;
  not_long = λ same. absurd (let letter : 79 ≡ 84 = ap (λ (b : Answer). slice_index b.text 5) same in
      omega (arith, letter));
}

pipe_of-is : (job : Job) (rows : List Row) (x : Core) → IsOfInput (pipe_of job rows x)
pipe_of-is job rows x = of_tasks (pipe_of job rows x) (status_of-is rows)

pipe_with-is : (job : Job) (coded : List (Option Coded)) → IsOfInput (pipe_with job coded)
pipe_with-is job [] = one_core-is
pipe_with-is job (None ∷ cs) = one_core-is
pipe_with-is job (Some c ∷ []) = pipe_of-is job (rows_at_end job (Some c ∷ [])) (begun_on job 0 c)
pipe_with-is job (Some c ∷ d ∷ cs) = one_core-is

-- a whole text
whole-is : (text : List ℕ) → IsOfInput (whole text)
whole-is text = of_tasks (whole text) (omega arith, omega arith, omega arith)

answer_with-is : (command : JobCommand) (job : Job) (coded : List (Option Coded))
    → IsOfInput (answer_with command job coded)
answer_with-is Run job coded =
    of_tasks (report_of job coded) (status_of-is (rows_of job.cycles job.trace (map runs_on coded)
    (machine_of job (cores_from job 0 coded))))
answer_with-is Bound job coded = whole-is (bounds_text Plain job coded)
answer_with-is Asm job coded = whole-is (listings coded)
answer_with-is Mean job coded = whole-is (meanings job.cycles coded)
answer_with-is Pipe job coded = pipe_with-is job coded
answer_with-is Persist job coded = whole-is (bounds_text Persistent job coded)

answer_or-is : (command : JobCommand) (job : Job) (coded : Result (List (Option Coded)) CoreRefusal)
    → IsOfInput (answer_or command job coded)
answer_or-is command job (Ok coded) = answer_with-is command job coded
answer_or-is command job (Err refusal) = of_tasks (no_task refusal) (omega arith, omega arith, omega arith)

answer_by-is : (command : JobCommand) (job : Job) → IsOfInput (answer_by command job)
answer_by-is command job = by (is_taken command job)
  where
    by : (taken : Bool) → IsOfInput (if taken then answer_or command job (coded_from job 0 job.cores) else one_core)
    by true = answer_or-is command job (coded_from job 0 job.cores)
    by false = one_core-is

pub answer_by_below : (command : JobCommand) (job : Job) → (answer_by command job).status < 5
answer_by_below command job = (answer_by-is command job).below

job_answer-is : (command : JobCommand) (read : Result Job Fault) → IsOfInput (job_answer command read)
job_answer-is command (Err fault) = record {
  below = omega arith;
  not_usage = omega arith;
  not_long = λ same. differs_from_long fault.kind fault.task fault.key (ap (λ (a : Answer). slice_index a.text 7) same);
}
job_answer-is command (Ok job) = answer_by-is command job

-- a schedule of the network that is right, or that has a fault
schedule_answer-is : (s : Schedule) (answer : Result (Unit {0}) GridFault) → IsOfInput (of_grid (by_check s answer))
schedule_answer-is s (Ok right) = record {
  below = omega arith;
  not_usage = omega arith;
  not_long = λ same. absurd
      (let status : 0 ≡ 2 = ap (λ (a : Answer). a.status) same in omega (arith, status));
}
schedule_answer-is s (Err fault) = record {
  below = omega arith;
  not_usage = omega arith;
  not_long = λ same.
      begins_otherwise fault (ap (λ (a : Answer). slice_index a.text 0) same);
}
  where
    begins_otherwise : (fault : GridFault) → slice_index (of_grid (by_check s (Err fault))).text 0
        ≢ slice_index too_long.text 0
    begins_otherwise (grid_faults.Range entry) = omega arith
    begins_otherwise (grid_faults.Late entry needs) = omega arith
    begins_otherwise (grid_faults.Shared entry other) = omega arith

grid_answer-is : (read : Result Schedule Fault) → IsOfInput (of_grid (report_on read))
grid_answer-is (Ok s) = schedule_answer-is s (checked s)
grid_answer-is (Err fault) = record {
  below = omega arith;
  not_usage = omega arith;
  not_long = λ same. differs_from_long fault.kind fault.task fault.key (ap (λ (a : Answer). slice_index a.text 7) same);
}

text_answer-is : (command : Command) (bytes : List ℕ) → (ReadsNothing command → ⊥)
    → IsOfInput (text_answer command bytes)
text_answer-is (OfJob command) bytes reads = job_answer-is command (job_of bytes)
text_answer-is Grid bytes reads = grid_answer-is (schedule_of bytes)
text_answer-is _ bytes reads = absurd (reads tt)

text_answer-not_long : (command : Command) (bytes : List ℕ) → text_answer command bytes ≢ too_long
text_answer-not_long (OfJob command) bytes = (job_answer-is command (job_of bytes)).not_long
text_answer-not_long Grid bytes = (grid_answer-is (schedule_of bytes)).not_long
text_answer-not_long (Gen number) bytes =
    λ same. absurd (let status : 0 ≡ 2 = ap (λ (a : Answer). a.status) same in omega (arith, status))
text_answer-not_long (Bench number) bytes = (job_answer-is Run (job_of (generated number))).not_long
text_answer-not_long Usage bytes =
    λ same. absurd (let status : 1 ≡ 2 = ap (λ (a : Answer). a.status) same in omega (arith, status))

pub grid_below : (bytes : List ℕ) → (of_grid (grid.report_of bytes)).status < 5
grid_below bytes = (grid_answer-is (schedule_of bytes)).below

-- what a command about the input owes where too many bytes came, and where all came
bytes_answer-too_long : (command : Command) (bytes : List ℕ) → MOST_BYTES < length bytes → bytes_answer command bytes
    ≡ too_long
unfolding bytes_answer
bytes_answer-too_long command bytes long = grind (arith, nat_tests)

pub bytes_answer-within : (command : Command) (bytes : List ℕ) → length bytes ≤ MOST_BYTES → bytes_answer command bytes
    ≡ text_answer command bytes
unfolding bytes_answer
bytes_answer-within command bytes within = grind (arith, nat_tests)

pub bytes_answer-is_too_long : (command : Command) (bytes : List ℕ) → (bytes_answer command bytes ≡ too_long)
    ↔ (MOST_BYTES < length bytes)
bytes_answer-is_too_long command bytes = (
  λ same. elim (cases_lt MOST_BYTES (length bytes)) [
    | inl long ↦ long
    | inr within ↦ absurd (text_answer-not_long command bytes (sym (bytes_answer-within command bytes within) ∙ same))
  ],
  bytes_answer-too_long command bytes,
)

bytes_answer-status : (command : Command) (bytes : List ℕ) → (ReadsNothing command → ⊥)
    → ((bytes_answer command bytes).status < 5) × ((bytes_answer command bytes).status ≢ 1)
bytes_answer-status command bytes reads = elim (cases_lt MOST_BYTES (length bytes)) [
  | inl long ↦ rw (bytes_answer-too_long command bytes long) (omega arith, omega arith)
  | inr within ↦ rw (bytes_answer-within command bytes within) (
    (text_answer-is command bytes reads).below,
    (text_answer-is command bytes reads).not_usage,
  )
]

command_answer-status : (command : Command) (bytes : List ℕ) → (command_answer command bytes).status < 5
command_answer-status (OfJob command) bytes = (bytes_answer-status (OfJob command) bytes (λ none. none)).0
command_answer-status Grid bytes = (bytes_answer-status Grid bytes (λ none. none)).0
command_answer-status (Gen number) bytes = omega arith
command_answer-status (Bench number) bytes = (job_answer-is Run (job_of (generated number))).below
command_answer-status Usage bytes = omega arith

pub answer-status : (words : List (List ℕ)) (bytes : List ℕ) → (answer words bytes).status < 5
answer-status words bytes = command_answer-status (command_of words) bytes

pub command_answer-is_usage : (command : Command) (bytes : List ℕ) → ((command_answer command bytes).status ≡ 1)
    ↔ (command ≡ Usage)
command_answer-is_usage (OfJob command) bytes =
    (λ one. absurd ((bytes_answer-status (OfJob command) bytes (λ none. none)).1 one), λ is. absurd (cc))
command_answer-is_usage Grid bytes =
    (λ one. absurd ((bytes_answer-status Grid bytes (λ none. none)).1 one), λ is. absurd (cc))
command_answer-is_usage (Gen number) bytes = (λ one. absurd (omega (arith, one)), λ is. absurd (cc))
command_answer-is_usage (Bench number) bytes =
    (λ one. absurd ((job_answer-is Run (job_of (generated number))).not_usage one), λ is. absurd (cc))
command_answer-is_usage Usage bytes = (λ _. refl, λ _. refl)

module _ (failed : Type 0) (status faults faults' : ℕ) (taken taken' : Option (List ℕ)) where
  pub sent_too_long : (command : Command) (left : Option (List ℕ)) → IfSome left (λ bytes. MOST_BYTES < length bytes)
      → IsSent too_long status faults faults' taken taken'
      → IfSome left (λ bytes. Ends (bytes_answer command bytes) failed status faults faults' taken taken')
  sent_too_long command None long sent = tt
  sent_too_long command (Some bytes) long sent = rw (bytes_answer-too_long command bytes long) (inr (inl sent))

  pub sent_within : (command : Command) (left : Option (List ℕ)) (came : List ℕ) → IfSome left (λ bytes. came ≡ bytes)
      → length came ≤ MOST_BYTES → IsSent (text_answer command came) status faults faults' taken taken'
      → IfSome left (λ bytes. Ends (bytes_answer command bytes) failed status faults faults' taken taken')
  sent_within command None came all within sent = tt
  sent_within command (Some bytes) came all within sent =
      rw (← all, bytes_answer-within command came within) (inr (inl sent))
