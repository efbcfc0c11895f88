-- To be believed. What the report of a job tells of its C tasks, in terms of what their
-- texts mean and of the times of their code.
use Rattle.std.specs.Prelude.{◌≡◌, ℕ, ◌+◌, ◌-◌, ◌<◌, ◌≤◌, ◌⊎◌, true, List, take, map, Option, Some, Ok, slice_get}
use Rattle.slot_arbiter.specs.declared.place.Place.{Place}
use Rattle.shared_order.specs.Machine.{State}
use Rattle.shared_order.specs.Words.{zeros}
use Rattle.c_tree.specs.Plain.{PlainItem}
use Rattle.c_meaning.specs.Meaning.{Outcome}
use Rattle.core_pace.specs.Growth.{below}
use Rattle.job_gen.specs.Generator.{generated}
use Rattle.patmos_model.specs.State.{Core}
use Rattle.c_task.specs.Programs.{said}
use Rattle.c_task.specs.Telling.{FitsWorld, OwnsOperations}
use Rattle.c_task.specs.Translation.{IsWorld, bound as bound_of, times}
use Rattle.tc_job.specs.Job.{job_of}
use Rattle.tc_job.specs.declared.job.Job.{Job}
use Rattle.tc_report.specs.declared.rows.Row.{Row}
use Rattle.tc_report.specs.declared.rows.RowState.TheVariants.{Limit, Done}
use Rattle.tcrest.specs.declared.command.Command.{Command}
use Rattle.tcrest.specs.declared.command.Command.TheVariants.{OfJob, Grid, Gen, Bench, Usage}
use Rattle.tcrest.specs.declared.command.JobCommand.{JobCommand}
use Rattle.tcrest.specs.declared.command.JobCommand.TheVariants.{Run, Bound, Asm, Mean, Pipe, Persist}
use Rattle.job_rows.specs.Machine.{cores_from, machine_of}
use Rattle.job_rows.specs.Rows.{output_slot}
use Rattle.tcrest.specs.Pipe.{is_lone}
use Rattle.job_rows.specs.Rows.{rows_of, words_out}
use Rattle.job_tasks.specs.Tasks.{Bounded, Coded, coded_from, runs_on}

-- a place on the platform of a job, at which a task starts in a cycle
pub record IsPlaceOf (job : Job) (start : ℕ) (place : Place) : Type 0 where
  pub cores : place.cores ≡ job.cores
  pub slot : place.slot ≡ job.slot
  pub table : place.table ≡ job.table
  pub starts : place.start ≡ start

-- a row tells what a text means: the value, whether a loop ran past its bound, and the words of `out`
pub record TellsMeaning (place : Place) (items : List PlainItem) (g : Outcome) (row : Row) : Type 0 where
  pub state : row.state ≡ Done g.value ((times place items).end - place.start)
  pub overrun : row.overrun ≡ g.world.overrun
  pub outs : row.outs ≡ words_out g.world (output_slot items)

-- What the row of a core tells of a C task, in the machine of its job at the limit. The program's times depend on its
-- text and its place alone, and neither on its input nor on what the other cores do.
pub record TellsTask (job : Job) (m : State Core) (place : Place) (items : List PlainItem) (input : List ℕ) (row : Row) : Type 0 where
  -- the transactions are the first of the program's times below the limit
  pub accesses : row.accesses ≡ take job.trace (below job.cycles (times place items).accesses)
  -- it is done exactly where its end is at most the limit, and else runs there; so it never traps
  pub done : (times place items).end ≤ job.cycles
      → (value : ℕ) × (row.state ≡ Done value ((times place items).end - place.start))
  pub limit : job.cycles < (times place items).end → row.state ≡ Limit
  -- the program's bound is reported, and its end is at most its start and that
  pub bound : row.bound ≡ Some (bound_of place items)
  pub within : (times place items).end ≤ place.start + bound_of place items
  -- the operations of the task, whose loads a world has to fit, are all that its core made in the machine without its
  -- interface's, in their order
  pub own : OwnsOperations items place input m job.cycles
  -- a done task is reported to be what its text means in each world that fits, and alone the world of zeros does
  pub meaning : (world : ℕ → ℕ) → IsWorld world → FitsWorld items place input m job.cycles world
      → (times place items).end ≤ job.cycles
      → TellsMeaning place items (said items place input world) row
  pub alone : row.alone ≡ true → FitsWorld items place input m job.cycles zeros

-- the machine of a job, at its limit
abbrev pub end_of : Job → List (Option Coded) → State Core
end_of job coded = machine_of job (cores_from job 0 coded)

-- so does each row of a core with a C task, of which `pipe` writes the line of the state
abbrev pub TellsTasks : Job → List (Option Coded) → Type 0
TellsTasks job coded =
    (place : Place) (c : Coded) (p : Bounded) (row : Row) → IsPlaceOf job c.task.start place
    → slice_get coded place.core ≡ Some (Some c) → c.made.program ≡ Some p
    → slice_get (rows_of job.cycles job.trace (map runs_on coded) (end_of job coded)) place.core ≡ Some row
    → TellsTask job (end_of job coded) place p.items c.task.input row

-- What the bounds of a program tell, whatever its input is and the other cores do: its end is at most its start and
-- each of them, and the persistent one is no more than the other.
pub record TellsBounds (place : Place) (p : Bounded) : Type 0 where
  pub bound : (times place p.items).end ≤ place.start + p.bound
  pub persist : (times place p.items).end ≤ place.start + p.persist
  pub tighter : p.persist ≤ p.bound

-- so do those of each C task
abbrev pub TellsAllBounds : Job → List (Option Coded) → Type 0
TellsAllBounds job coded =
    (place : Place) (c : Coded) (p : Bounded) → IsPlaceOf job c.task.start place
    → slice_get coded place.core ≡ Some (Some c) → c.made.program ≡ Some p
    → TellsBounds place p

-- what the answer to a job tells of its tasks, which are made to these
abbrev pub TellsOf : JobCommand → Job → List (Option Coded) → Type 0
TellsOf Run job coded = TellsTasks job coded
TellsOf Bound job coded = TellsAllBounds job coded
TellsOf Asm job coded = Unit {0}
TellsOf Mean job coded = Unit {0}
TellsOf Pipe job coded = is_lone job ≡ true → TellsTasks job coded
TellsOf Persist job coded = TellsAllBounds job coded

-- where the text is a job whose tasks are all made
abbrev pub TellsJob : JobCommand → List ℕ → Type 0
TellsJob command text =
    (job : Job) (coded : List (Option Coded)) → job_of text ≡ Ok job → coded_from job 0 job.cores ≡ Ok coded
    → TellsOf command job coded

-- what a command tells of C tasks: of those of the input, or of a generated job
abbrev pub TellsTasksOf : Command → List ℕ → Type 0
TellsTasksOf (OfJob command) bytes = TellsJob command bytes
TellsTasksOf Grid bytes = Unit {0}
TellsTasksOf (Gen number) bytes = Unit {0}
TellsTasksOf (Bench number) bytes = TellsJob Run (generated number)
TellsTasksOf Usage bytes = Unit {0}

-- the statuses with which a report is written
abbrev pub HasReport : ℕ → Type 0
HasReport status = (status ≡ 0) ⊎ (status ≡ 3)
