-- A job whose tasks have code is reported.
use Rattle.std.proofs.Common.{◌≡◌, inl, inr, ℕ, zero, suc, ◌+◌, ◌≤◌, List, [], ◌∷◌, Option, Some, None, IfSome, length, map, refl, sym, subst, ◌∙◌, ap, arith}
use Rattle.std.specs.Prelude.{Ok, Err, Bool, true, false, if◌then◌else◌, nat_le}
use Rattle.std.specs.List.{AllByRecursion as Each, list_any}
use Rattle.std.proofs.lemmas.Bool.Decides.{nat_tests}
use Rattle.cycle_bound.specs.declared.held.TheConstants.{MOST_BOUND}
use Rattle.c_compile.specs.Texts.{within, too_long}
use Rattle.c_task.specs.Translation.{bound_on}
use Rattle.tc_job.specs.Job.{job_of}
use Rattle.tc_job.specs.declared.job.Job.{Job}
use Rattle.tc_job.specs.declared.task.Task.{Task}
use Rattle.tc_report.specs.declared.rows.Row.{Row}
use Rattle.tcrest.specs.declared.command.Command.TheVariants.{OfJob}
use Rattle.tcrest.specs.declared.command.JobCommand.TheVariants.{Run}
use Rattle.job_tasks.specs.declared.calls.TheConstants.{MOST_BYTES}
use Rattle.tcrest.specs.Answer.{answer_or, command_answer, job_answer, report_of}
use Rattle.tcrest.specs.Complete.{HasCode, assembles, compiles, IsWhole}
use Rattle.job_rows.specs.Machine.{cores_from, machine_of}
use Rattle.job_rows.specs.Rows.{rows_of, is_early, status_of}
use Rattle.job_tasks.specs.Tasks.{Coded, Made, coded_from, coded_on, coded, made_by, made_in, of_code, of_program, on_core, runs_on, taken, task_on, ◌>>=◌}
use Rattle.tcrest.specs.Telling.{HasReport}
use Rattle.tcrest.proofs.Outcomes.{bytes_answer-within}
use Rattle.job_tasks.proofs.TasksFound.{found_among}

pub record IsMade (job : Job) (t : Task) : Type 0 where
  pub made : Made
  pub is : made_by job t ≡ Ok made

pub bound_fits : (bound : ℕ) → bound ≤ MOST_BOUND → nat_le bound MOST_BOUND ≡ true
bound_fits bound few = grind (arith, nat_tests, few)

-- a task that has code is made
unfoldable pub made_of : (job : Job) (t : Task) → HasCode job t → IsMade job t
made_of job t (assembles code asm is) = record {
  made = of_code code;
  is = ap (λ l. made_in job t.core l t.source) asm ∙ ap (λ r. coded r >>= λ c. Ok (of_code c)) is;
}
made_of job t (compiles items c is few) = let fits : nat_le (bound_on job.table job.slot t.core items) MOST_BOUND
    ≡ true = bound_fits (bound_on job.table job.slot t.core items) few in record {
      made = of_program job t.core items;
      is = ap (λ l. made_in job t.core l t.source) c
          ∙ ap (λ r. taken (within job.table job.slot t.core r) >>= λ ps. Ok (of_program job t.core ps)) is
          ∙ ap (λ b. taken (if b then Ok items else Err too_long) >>= λ ps. Ok (of_program job t.core ps)) fits;
    }

pub record AreMade (job : Job) (core count : ℕ) : Type 0 where
  pub coded : List (Option Coded)
  pub is : coded_from job core count ≡ Ok coded

-- so are the tasks of cores, where each task of the job has code
one_made : (job : Job) (core count : ℕ) (found : Option Task) → IfSome found (HasCode job)
    → AreMade job (core + 1) count
    → (cs : List (Option Coded)) × ((coded_on job core found >>= λ c. coded_from job (core + 1) count >>= λ cs. Ok
    (c ∷ cs)) ≡ Ok cs)
one_made job core count None has more = (None ∷ more.coded, ap (λ r. r >>= λ cs. Ok (None ∷ cs)) more.is)
one_made job core count (Some t) has more = (
  Some (record { task = t; made = m.made }) ∷ more.coded,
  ap (λ r. (on_core core r >>= λ made. Ok (Some (record { task = t; made = made }))) >>= λ c. coded_from job
      (core + 1) count >>= λ cs. Ok (c ∷ cs)) m.is
      ∙ ap (λ r. r >>= λ cs. Ok (Some (record { task = t; made = m.made }) ∷ cs)) more.is,
)
  where
    m : IsMade job t
    m = made_of job t has

pub all_made : (job : Job) → Each (HasCode job) job.tasks → (core count : ℕ) → AreMade job core count
all_made job has core zero = record { coded = []; is = refl }
all_made job has core (suc count) =
    let one = one_made job core count (task_on job.tasks core) (found_among (HasCode job) job.tasks core has)
    (all_made job has (core + 1) count) in
    record { coded = one.0; is = one.1 }

pub status_is : (rows : List Row) → HasReport (status_of rows)
status_is rows = by (list_any (λ r. is_early r.state) rows)
  where
    by : (early : Bool) → HasReport (elim early [ true ↦ 3 | false ↦ 0 ])
    by true = inr refl
    by false = inl refl

pub reported_whole : (bytes : List ℕ) (job : Job) → length bytes ≤ MOST_BYTES → job_of bytes ≡ Ok job
    → Each (HasCode job) job.tasks
    → IsWhole job (command_answer (OfJob Run) bytes)
reported_whole bytes job few is has = record {
  coded = made.coded;
  made = made.is;
  report = reported;
  status = subst (λ a. HasReport a.status) (sym reported)
      (status_is (rows_of job.cycles job.trace (map runs_on made.coded)
      (machine_of job (cores_from job 0 made.coded))));
}
  where
    made : AreMade job 0 job.cores
    made = all_made job has 0 job.cores

    reported : command_answer (OfJob Run) bytes ≡ report_of job made.coded
    reported = bytes_answer-within (OfJob Run) bytes few ∙ ap (job_answer Run) is ∙ ap (answer_or Run job) made.is
