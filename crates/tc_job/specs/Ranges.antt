-- To be believed. What holds of every job that is read, so that each of its tasks has a place on the platform.
use Rattle.std.specs.Prelude.{◌≢◌, ℕ, ◌<◌, ◌≤◌, List, length, IsTrue, All, AllPairs}
use Rattle.slot_arbiter.specs.declared.event.TheConstants.{MOST_TRACE}
use Rattle.slot_arbiter.specs.declared.place.TheConstants.{LATEST_START, MOST_CYCLES}
use Rattle.slot_arbiter.specs.Table.{is_table}
use Rattle.local_store.specs.declared.store.TheConstants.{INPUT_WORDS}
use Rattle.tc_job.specs.declared.job.Job.{Job}
use Rattle.tc_job.specs.declared.task.Task.{Task}

-- a task on one of so many cores
pub record IsTaskAmong (cores : ℕ) (task : Task) : Type 0 where
  pub core : task.core < cores
  pub words : length task.input ≤ INPUT_WORDS
  pub start : task.start ≤ LATEST_START

-- a platform that the arbiter takes
pub record IsPlatform (version cores slot : ℕ) (table : List ℕ) : Type 0 where
  pub version_least : 1 ≤ version
  pub version_most : version ≤ 2
  pub cores_least : 1 ≤ cores
  pub cores_most : cores ≤ 16
  pub slot_least : 6 ≤ slot
  pub slot_most : slot ≤ 64
  pub owned : IsTrue (is_table cores table)

-- the numbers are in their ranges, and each task has a core of its own
pub record KeepsRanges (job : Job) : Type 0 where
  pub platform : IsPlatform job.version job.cores job.slot job.table
  pub cycles_least : 1 ≤ job.cycles
  pub cycles_most : job.cycles ≤ MOST_CYCLES
  pub trace_most : job.trace ≤ MOST_TRACE
  pub workers_least : 1 ≤ job.workers
  pub workers_most : job.workers ≤ job.cores
  pub tasks : All (IsTaskAmong job.cores) job.tasks
  pub apart : AllPairs (λ s t. s.core ≢ t.core) job.tasks
