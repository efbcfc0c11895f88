-- To be believed. The job that bytes stand for, or the first of their faults. The tree of the bytes is the meaning that
-- `toml` gives them. The form is our own; docs/JOBS_AND_REPORTS.md explains it to users.
use Rattle.std.specs.Prelude.{ℕ, ◌==◌, if◌then◌else◌, List, [], codes, Option, None, Result, Ok}
use Rattle.slot_arbiter.specs.declared.event.TheConstants.{MOST_TRACE}
use Rattle.slot_arbiter.specs.declared.place.TheConstants.{MOST_CYCLES}
use Rattle.slot_arbiter.specs.Table.{in_turn}
use Rattle.toml.specs.Data.{Data, Members, get_member}
use Rattle.tc_toml.specs.Tree.{tree_of}
use Rattle.tc_toml.specs.declared.fault.JobFault.{JobFault}
use Rattle.tc_toml.specs.declared.fault.JobFault.TheVariants as faults
use Rattle.tc_job.specs.declared.job.Job.{Job}
use Rattle.tc_job.specs.declared.platform.Platform.{Platform}
use Rattle.tc_toml.specs.Fault.{Fault, ◌>>=◌, at_key}
use Rattle.tc_job.specs.Keys.{known_keys, level_of}
use Rattle.tc_job.specs.SlotTable.{slot_table}
use Rattle.tc_job.specs.Task.{tasks_from}
use Rattle.tc_toml.specs.Values.{given, number_of, number_or, tables_of}

-- the most cores of a job of that version
abbrev pub most_cores : ℕ → ℕ
most_cores version = if version == 2 then 16 else 8

-- a job of version 2 states its slot table, and in one of version 1 the cores take their slots in turn
abbrev pub table_in : ℕ → ℕ → Option Data → Result (List ℕ) JobFault
table_in version cores stated = if version == 2 then slot_table cores stated else Ok (in_turn cores)

-- the platform, or the fault of the first of its keys, in this order, that is at fault
unfoldable pub platform_in : Members → Result Platform Fault
platform_in ms = do
  version ← at_key None (codes "version") (number_of 1 2 (get_member (codes "version") ms))
  cores ← at_key None (codes "cores") (number_of 1 (most_cores version) (get_member (codes "cores") ms))
  slot ← at_key None (codes "slot") (number_of 6 64 (get_member (codes "slot") ms))
  table ← at_key None (codes "table") (table_in version cores (get_member (codes "table") ms))
  Ok (record { version = version; cores = cores; slot = slot; table = table })

-- the job: unknown keys are at fault before any other, then the keys of the platform, and then these
unfoldable pub job_in : Members → Result Job Fault
job_in ms = do
  known ← known_keys (level_of (get_member (codes "version") ms)) None ms
  platform ← platform_in ms
  cycles ← at_key None (codes "cycles") (number_of 1 MOST_CYCLES (get_member (codes "cycles") ms))
  trace ← at_key None (codes "trace") (number_or 0 0 MOST_TRACE (get_member (codes "trace") ms))
  workers ← at_key None (codes "workers") (number_or platform.cores 1 platform.cores (get_member (codes "workers") ms))
  tables ← at_key None (codes "task") (tables_of (get_member (codes "task") ms))
  tasks ← tasks_from platform.cores [] tables
  Ok (record {
    version = platform.version;
    cores = platform.cores;
    slot = platform.slot;
    table = platform.table;
    cycles = cycles;
    trace = trace;
    workers = workers;
    tasks = tasks;
  })

-- the job of bytes
unfoldable pub job_of : List ℕ → Result Job Fault
job_of bytes = at_key None [] (given faults.Toml (tree_of bytes)) >>= job_in
