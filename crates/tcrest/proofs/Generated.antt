-- What `gen` writes is a job. `bench` reports all of it, and each of its tasks is done, so the status is 0.
use Rattle.std.proofs.Common.{◌≡◌, ℕ, zero, suc, ◌+◌, ◌<◌, ◌≤◌, ◌⊎◌, inl, inr, true, false, ◌||◌, List, [], ◌∷◌, map, Option, Some, slice_get, refl, sym, ap, ◌∙◌, subst, arith}
use Rattle.std.specs.Prelude.{Result, Ok, Err}
use Rattle.std.specs.List.{AllByRecursion as Each, list_any}
use Rattle.cycle_bound.specs.declared.held.TheConstants.{MOST_BOUND}
use Rattle.slot_arbiter.specs.declared.place.Place.{Place}
use Rattle.c_task.specs.Translation.{times, bound_on, persist_on, bound as bound_of}
use Rattle.job_gen.specs.Generator.{after_task}
use Rattle.tc_job.specs.Job.{job_of}
use Rattle.tc_job.specs.declared.job.Job.{Job}
use Rattle.tc_job.specs.declared.task.Task.{Task}
use Rattle.tc_report.specs.declared.rows.Row.{Row}
use Rattle.gen_jobs.specs.Jobs.{job_with, task_with}
use Rattle.gen_jobs.proofs.Jobs.{job_is}
use Rattle.gen_bounds.specs.Ends.{EndsInTime}
use Rattle.gen_bounds.proofs.Ending.{tasks_end}
use Rattle.job_tasks.specs.Outcome.{Ends}
use Rattle.job_tasks.specs.Tasks.{Coded, Made, Bounded, coded_from, coded_on, made_by, of_program, on_core, runs_on, task_on, ◌>>=◌}
use Rattle.job_tasks.specs.declared.refusal.CoreRefusal.{CoreRefusal}
use Rattle.tcrest.specs.Answer.{answer_or, command_answer, job_answer, report_of, unread_answer}
use Rattle.tcrest.specs.Command.{ReadsNothing}
use Rattle.tcrest.specs.Complete.{HasCode, compiles, IsWhole}
use Rattle.job_rows.specs.Rows.{rows_of, is_early}
use Rattle.tcrest.specs.Telling.{HasReport, TellsTasks, TellsTasksOf, end_of}
use Rattle.tcrest.specs.declared.command.Command.{Command}
use Rattle.tcrest.specs.declared.command.Command.TheVariants.{Bench, Gen}
use Rattle.tcrest.specs.declared.command.JobCommand.TheVariants.{Run}
use Rattle.tcrest.proofs.Complete.{AreMade, made_of, all_made, status_is}
use Rattle.tcrest.proofs.Telling.{ok_is}

-- ---- it is reported whole

has_code : (job : Job) (t : Task) → job.cycles ≤ MOST_BOUND → EndsInTime job t → HasCode job t
has_code job t few e = compiles e.items e.in_c e.program (let short = e.within in omega (arith, short, few))

each_has : (job : Job) → job.cycles ≤ MOST_BOUND → (ts : List Task) → Each (EndsInTime job) ts → Each (HasCode job) ts
each_has job few [] each = tt
each_has job few (t ∷ ts) each = (has_code job t few each.0, each_has job few ts each.1)

tasks_made : (n : ℕ) → AreMade (job_with n) 0 4
tasks_made n = all_made (job_with n) (each_has (job_with n) (omega arith) (job_with n).tasks (tasks_end n)) 0 4

answer_is : (n : ℕ) → unread_answer (Bench n) ≡ report_of (job_with n) (tasks_made n).coded
answer_is n = ap (job_answer Run) (job_is n) ∙ ap (answer_or Run (job_with n)) (tasks_made n).is

generated_whole : (n : ℕ) → IsWhole (job_with n) (unread_answer (Bench n))
generated_whole n =
    let job = job_with n in
    let coded = (tasks_made n).coded in
    record {
      coded = coded;
      made = (tasks_made n).is;
      report = answer_is n;
      status = subst (λ a. HasReport a.status) (sym (answer_is n))
          (status_is (rows_of job.cycles job.trace (map runs_on coded) (end_of job coded)));
    }

-- ---- its tasks are done

-- the task of a core, and those after it
first_coded : (job : Job) (core count : ℕ) (t : Task) (made : Made) (cs : List (Option Coded)) → task_on job.tasks core
    ≡ Some t → made_by job t ≡ Ok made → coded_from job core (suc count) ≡ Ok cs
    → (more : List (Option Coded)) × ((Some (record { task = t; made = made }) ∷ more ≡ cs)
    × (coded_from job (core + 1) count ≡ Ok more))
first_coded job core count t made cs there is whole =
    by (coded_from job (core + 1) count) refl
    (sym (ap (λ o. coded_on job core o >>= λ c. coded_from job (core + 1) count >>= λ cs. Ok (c ∷ cs)) there
    ∙ ap (λ r. (on_core core r >>= λ made. Ok (Some (record { task = t; made = made }))) >>= λ c. coded_from job
    (core + 1) count >>= λ cs. Ok (c ∷ cs)) is) ∙ whole)
  where
    by : (r : Result (List (Option Coded)) CoreRefusal) → coded_from job (core + 1) count ≡ r
        → (r >>= λ cs. Ok (Some (record { task = t; made = made }) ∷ cs)) ≡ Ok cs
        → (more : List (Option Coded)) × ((Some (record { task = t; made = made }) ∷ more ≡ cs)
        × (coded_from job (core + 1) count ≡ Ok more))
    by (Ok more) rest all = (more, (cc, rest))
    by (Err refusal) rest all = absurd (cc)

-- the status of rows of which none is early
none_early : (rows : List Row) → ((k : ℕ) (row : Row) → slice_get rows k ≡ Some row → is_early row.state ≡ false)
    → list_any (λ r. is_early r.state) rows ≡ false
none_early [] each = refl
none_early (row ∷ rows) each = ap (λ b. b || list_any (λ r. is_early r.state) rows) (each 0 row refl)
    ∙ none_early rows (λ k r told. each (suc k) r told)

-- what the task of a core is made to
abbrev coded_of : (n core x : ℕ) → EndsInTime (job_with n) (task_with core x) → Coded
coded_of n core x e = record { task = task_with core x; made = of_program (job_with n) core e.items }

-- the tasks of all four cores so
abbrev listed : ℕ → List (Option Coded)
listed n =
    let e = tasks_end n in
    Some (coded_of n 0 n e.0) ∷ Some (coded_of n 1 (after_task n) e.1.0)
    ∷ Some (coded_of n 2 (after_task (after_task n)) e.1.1.0)
    ∷ Some (coded_of n 3 (after_task (after_task (after_task n))) e.1.1.1.0) ∷ []

made_is : (n core x : ℕ) (e : EndsInTime (job_with n) (task_with core x)) → made_by (job_with n) (task_with core x)
    ≡ Ok (of_program (job_with n) core e.items)
unfolding has_code made_of
made_is n core x e =
    (made_of (job_with n) (task_with core x) (has_code (job_with n) (task_with core x) (omega arith) e)).is

listed_is : (n : ℕ) (coded : List (Option Coded)) → coded_from (job_with n) 0 4 ≡ Ok coded → listed n ≡ coded
listed_is n coded is =
    let job = job_with n in
    let e = tasks_end n in
    let second = after_task n in
    let third = after_task second in
    let fourth = after_task third in
    let a = first_coded job 0 3 (task_with 0 n) (of_program job 0 e.0.items) coded refl (made_is n 0 n e.0) is in
    let b = first_coded job 1 2 (task_with 1 second) (of_program job 1 e.1.0.items) a.0 refl
    (made_is n 1 second e.1.0) a.1.1 in
    let c = first_coded job 2 1 (task_with 2 third) (of_program job 2 e.1.1.0.items) b.0 refl
    (made_is n 2 third e.1.1.0) b.1.1 in
    let d = first_coded job 3 0 (task_with 3 fourth) (of_program job 3 e.1.1.1.0.items) c.0 refl
    (made_is n 3 fourth e.1.1.1.0) c.1.1 in
    let end : [] ≡ d.0 = ok_is [] d.0 d.1.1 in
    let first = Some (coded_of n 0 n e.0) in
    let next = Some (coded_of n 1 second e.1.0) in
    let later = Some (coded_of n 2 third e.1.1.0) in
    ap (λ xs. first ∷ next ∷ later ∷ Some (coded_of n 3 fourth e.1.1.1.0) ∷ xs) end
    ∙ ap (λ xs. first ∷ next ∷ later ∷ xs) d.1.0 ∙ ap (λ xs. first ∷ next ∷ xs) c.1.0 ∙ ap (λ xs. first ∷ xs) b.1.0
    ∙ a.1.0

abbrev place_on : (core : ℕ) → core < 4 → Place
place_on core below = record {
  cores = 4;
  core = core;
  slot = 8;
  start = 0;
  table = 0 ∷ 1 ∷ 2 ∷ 3 ∷ [];
  in_range = record {
    among = below;
    cores_most = omega arith;
    slot_least = omega arith;
    slot_most = omega arith;
    start_most = omega arith;
  };
  owned = refl;
}

row_done : (n core x : ℕ) (e : EndsInTime (job_with n) (task_with core x)) (coded : List (Option Coded))
    → TellsTasks (job_with n) coded → core < 4
    → slice_get coded core ≡ Some (Some (coded_of n core x e)) → (row : Row)
    → slice_get (rows_of (job_with n).cycles (job_with n).trace (map runs_on coded) (end_of (job_with n) coded)) core
    ≡ Some row → is_early row.state ≡ false
row_done n core x e coded tells below is row told =
    let place = place_on core below in
    let job = job_with n in
    let p : Bounded = record {
      items = e.items;
      bound = bound_on job.table job.slot core e.items;
      persist = persist_on job.table job.slot core e.items;
    } in
    let t = tells place (coded_of n core x e) p row (record { cores = refl; slot = refl; table = refl; starts = refl })
    is refl told in
    let d = t.done (sooner (times place e.items).end (bound_of place e.items) t.within e.within) in
    ap is_early d.1
  where
    sooner : (end bound : ℕ) → end ≤ 0 + bound → 0 + bound < 20000000 → end ≤ 20000000
    sooner end bound late short = omega (arith, late, short)

listed_done : (n : ℕ) → TellsTasks (job_with n) (listed n) → (report_of (job_with n) (listed n)).status ≡ 0
listed_done n tells = ap (λ b. elim b as (λ _. ℕ) [ true ↦ 3 | false ↦ 0 ])
    (none_early (rows_of (job_with n).cycles (job_with n).trace (map runs_on (listed n))
    (end_of (job_with n) (listed n))) each)
  where
    each : (k : ℕ) (row : Row) → slice_get (rows_of (job_with n).cycles (job_with n).trace (map runs_on (listed n))
        (end_of (job_with n) (listed n))) k ≡ Some row → is_early row.state ≡ false
    each zero row told = row_done n 0 n (tasks_end n).0 (listed n) tells (omega arith) refl row told
    each (suc zero) row told =
        row_done n 1 (after_task n) (tasks_end n).1.0 (listed n) tells (omega arith) refl row told
    each (suc (suc zero)) row told =
        row_done n 2 (after_task (after_task n)) (tasks_end n).1.1.0 (listed n) tells (omega arith) refl row told
    each (suc (suc (suc zero))) row told = row_done n 3 (after_task (after_task (after_task n))) (tasks_end n).1.1.1.0
        (listed n) tells (omega arith) refl row told
    each (suc (suc (suc (suc k)))) row told = absurd (cc)

generated_done : (n : ℕ) → TellsTasksOf (Bench n) [] → (unread_answer (Bench n)).status ≡ 0
generated_done n tells =
    let job = job_with n in
    let made = tasks_made n in
    let list = listed_is n made.coded made.is in
    let told : TellsTasks job made.coded = tells job made.coded (job_is n) made.is in
    ap (λ a. a.status) (answer_is n) ∙ subst (λ cs. (report_of job cs).status ≡ 0) list (listed_done n
    (subst (TellsTasks job) (sym list) told))

-- ---- how `gen` and `bench` end

pub written_is_job : (command : Command) (n : ℕ) → command ≡ Gen n → job_of (command_answer command []).text
    ≡ Ok (job_with n)
written_is_job command n is = subst (λ k. job_of (command_answer k []).text ≡ Ok (job_with n)) (sym is) (job_is n)

pub bench_whole : (command : Command) (n : ℕ) → command ≡ Bench n → IsWhole (job_with n) (command_answer command [])
bench_whole command n is = subst (λ k. IsWhole (job_with n) (command_answer k [])) (sym is) (generated_whole n)

-- of a call that ended, and of whose report all is told
status_done : (n status faults faults' : ℕ) (taken taken' : Option (List ℕ))
    → Ends (unread_answer (Bench n)) ⊥ status faults faults' taken taken'
    → (HasReport status → TellsTasksOf (Bench n) []) → (status ≡ 0) ⊎ ((status ≡ 6) ⊎ (status ≡ 7))
status_done n status faults faults' taken taken' ends tells =
    elim ends [
      | inl refused ↦ inr (inr refused.0)
      | inr (inl (inl whole)) ↦ inl
          (whole.0 ∙ generated_done n (tells (subst HasReport (sym whole.0) (generated_whole n).status)))
      | inr (inl (inr cut)) ↦ inr (inl cut.0)
      | inr (inr unread) ↦ absurd unread.1
    ]

pub bench_done : (command : Command) (n status faults faults' : ℕ) (taken taken' : Option (List ℕ)) → command ≡ Bench n
    → (ReadsNothing command → Ends (command_answer command []) ⊥ status faults faults' taken taken')
    → (ReadsNothing command → HasReport status → TellsTasksOf command [])
    → (status ≡ 0) ⊎ ((status ≡ 6) ⊎ (status ≡ 7))
bench_done command n status faults faults' taken taken' is ends tells =
    status_done n status faults faults' taken taken'
    (subst (λ k. ReadsNothing k → Ends (command_answer k []) ⊥ status faults faults' taken taken') is ends tt)
    (subst (λ k. ReadsNothing k → HasReport status → TellsTasksOf k []) is tells tt)
