-- What `pipe` tells of its core is what the report of the same job tells of it in the line of its state.
use Rattle.std.proofs.Common.{◌≡◌, ℕ, List, [], ◌∷◌, ◌++◌, length, min, Option, None, Some, refl, sym, ap, ◌∙◌}
use Rattle.slot_arbiter.specs.Slot.{period}
use Rattle.patmos_model.specs.Outcome.{state_at}
use Rattle.patmos_model.specs.State.{Core}
use Rattle.global_step.specs.declared.loaded.LoadedCore.{LoadedCore}
use Rattle.global_step.specs.Loaded.{Machine}
use Rattle.global_step.specs.Machine.{first_core}
use Rattle.pipe_five.specs.Steps.{core_before, done_below}
use Rattle.pipe_five.proofs.Only.{only_core}
use Rattle.tc_job.specs.declared.job.Job.{Job}
use Rattle.tc_report.specs.declared.rows.Row.{Row}
use Rattle.tc_report.specs.Report.{platform_line, state_line}
use Rattle.tcrest.specs.Answer.{rows_at_end}
use Rattle.tcrest.specs.PipeTold.{told_row, pipe_told}
use Rattle.job_rows.specs.Loading.{IsLoadedFor}
use Rattle.job_rows.specs.Machine.{begun_on, cores_from, machine_of}
use Rattle.tcrest.specs.Pipe.{pipe_of, steps_text}
use Rattle.job_rows.specs.Rows.{row_of, running, status_of}
use Rattle.job_tasks.specs.Tasks.{Coded, Runs, nothing, assembly, program, runs_by, runs_made}
use Rattle.job_tasks.specs.Coding.{bounded, runs}
use Rattle.job_tasks.specs.declared.program.Program.{Program}
use Rattle.c_mentions.specs.Tasks.{core_task}
use Rattle.std.specs.Option.{option_map}
use Rattle.job_rows.proofs.RowsFound.{same_machine}

-- a core runs the task that was made for it
pub task_runs : (p : Option Program) → runs (core_task p) ≡ runs_by (option_map bounded p)
task_runs None = refl
task_runs (Some p) = refl

-- rows that tell the same of state, bound and data have the same line
same_line : (core : ℕ) (a b : Row) → a.state ≡ b.state → a.bound ≡ b.bound → a.alone ≡ b.alone → a.overrun ≡ b.overrun
    → state_line core a ≡ state_line core b
unfolding state_line
same_line core a b state bound alone overrun = rw (state, bound, alone, overrun) refl

line_is : (limit trace : ℕ) (r : Runs) (y : Core) → state_line 0 (told_row r (state_at limit y.plain))
    ≡ state_line 0 (row_of limit trace (running r ∷ []) 0 r y)
line_is limit trace nothing y = same_line 0 _ _ refl refl refl refl
line_is limit trace assembly y = same_line 0 _ _ refl refl refl refl
line_is limit trace (program p) y = same_line 0 _ _ refl refl refl refl

status_is : (limit trace : ℕ) (r : Runs) (y : Core) → status_of (told_row r (state_at limit y.plain) ∷ [])
    ≡ status_of (row_of limit trace (running r ∷ []) 0 r y ∷ [])
status_is limit trace nothing y = refl
status_is limit trace assembly y = refl
status_is limit trace (program p) y = refl

-- the only core of the machine of a job is the core in stages
core_at_end : (job : Job) (c : Coded) (l : LoadedCore) → job.cores ≡ 1 → first_core l ≡ begun_on job 0 c
    → (machine_of job (cores_from job 0 (Some c ∷ []))).cores 0 ≡ core_before (begun_on job 0 c) job.cycles
core_at_end job c l one is =
    let m : Machine = record { cores = l ∷ []; limit = job.cycles; trace = job.trace; workers = job.workers } in
    let loaded : IsLoadedFor job (cores_from job 0 (Some c ∷ [])) m = record {
      cores = ap (λ x. x ∷ []) is;
      count = sym one;
      limit = refl;
      trace = refl;
      workers = refl;
    } in
    ap (λ s. s.cores 0) (sym (same_machine job (cores_from job 0 (Some c ∷ [])) m loaded))
    ∙ only_core m l job.cycles refl ∙ ap (λ x. core_before x job.cycles) is

-- all that `pipe` writes, with a last line
abbrev with_line : Job → Core → List ℕ → List ℕ
with_line job x last =
    platform_line job.cores job.slot (period job.table job.slot)
    ++ (steps_text x job.cycles (min job.trace (length (done_below x job.cycles))) ++ last)

pub told_as_reported : (job : Job) (c : Coded) (l : LoadedCore) → job.cores ≡ 1 → first_core l ≡ begun_on job 0 c
    → pipe_told job (runs_made c.made) (begun_on job 0 c) ≡ pipe_of job (rows_at_end job (Some c ∷ []))
    (begun_on job 0 c)
told_as_reported job c l one is =
    let r : Runs = runs_made c.made in
    let x : Core = begun_on job 0 c in
    let y : Core = (machine_of job (cores_from job 0 (Some c ∷ []))).cores 0 in
    let end : core_before x job.cycles ≡ y = sym (core_at_end job c l one is) in
    let line = ap (λ (d : Core). state_line 0 (told_row r (state_at job.cycles d.plain))) end
    ∙ line_is job.cycles job.trace r y in
    let status = ap (λ (d : Core). status_of (told_row r (state_at job.cycles d.plain) ∷ [])) end
    ∙ status_is job.cycles job.trace r y in
    λ i. record { status = status i; text = with_line job x (line i) }
