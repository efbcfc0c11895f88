-- To be believed. The tasks of a job.
use Rattle.std.specs.Prelude.{ℕ, ◌-◌, nat_eq, if◌then◌else◌, List, [], ◌∷◌, ◌++◌, length, map, codes, bytes_eq, Option, Some, Result, Ok, Err}
use Rattle.std.specs.List.{list_any}
use Rattle.slot_arbiter.specs.declared.place.TheConstants.{LATEST_START}
use Rattle.toml.specs.Data.{Data, Members, get_member}
use Rattle.tc_toml.specs.declared.fault.JobFault.{JobFault}
use Rattle.tc_toml.specs.declared.fault.JobFault.TheVariants as faults
use Rattle.tc_job.specs.declared.keys.Level.TheVariants.{OfTask}
use Rattle.tc_job.specs.declared.task.Lang.{Lang}
use Rattle.tc_job.specs.declared.task.Lang.TheVariants.{Asm, C}
use Rattle.tc_job.specs.declared.task.Task.{Task}
use Rattle.tc_toml.specs.Fault.{Fault, ◌>>=◌, at_key}
use Rattle.tc_job.specs.Input.{input_of}
use Rattle.tc_job.specs.Keys.{known_keys}
use Rattle.tc_toml.specs.Values.{number_of, number_or, text_of}

-- the language of that name
abbrev pub lang_named : List ℕ → Result Lang JobFault
lang_named name =
    if bytes_eq name (codes "asm") then Ok Asm else if bytes_eq name (codes "c") then Ok C else Err faults.Range

-- the language at a key that must be there
abbrev pub lang_of : Option Data → Result Lang JobFault
lang_of value = text_of value >>= lang_named

-- the cores of tasks
abbrev pub cores_of : List Task → List ℕ
cores_of tasks = map (λ t. t.core) tasks

-- a core on which no earlier task runs
abbrev pub new_core : List ℕ → ℕ → Result ℕ JobFault
new_core taken core = if list_any (nat_eq core) taken then Err faults.CoreTwice else Ok core

-- the core of a task on a platform of that many cores, of which some are taken
unfoldable pub core_in : ℕ → List ℕ → Option ℕ → Members → Result ℕ Fault
core_in cores taken place ms = do
  known ← known_keys OfTask place ms
  core ← at_key place (codes "core") (number_of 0 (cores - 1) (get_member (codes "core") ms))
  at_key place (codes "core") (new_core taken core)

-- the task, or the fault of its first key, in this order, that is at fault
unfoldable pub task_in : ℕ → List ℕ → Option ℕ → Members → Result Task Fault
task_in cores taken place ms = do
  core ← core_in cores taken place ms
  lang ← at_key place (codes "lang") (lang_of (get_member (codes "lang") ms))
  source ← at_key place (codes "source") (text_of (get_member (codes "source") ms))
  input ← at_key place (codes "input") (input_of (get_member (codes "input") ms))
  start ← at_key place (codes "start") (number_or 0 0 LATEST_START (get_member (codes "start") ms))
  Ok (record { core = core; lang = lang; source = source; input = input; start = start })

-- the tasks of these tables, after the earlier ones, which number them and have taken their cores
unfoldable pub tasks_from : ℕ → List Task → List Members → Result (List Task) Fault
tasks_from cores earlier [] = Ok earlier
tasks_from cores earlier (ms ∷ others) =
    task_in cores (cores_of earlier) (Some (length earlier)) ms >>= λ task. tasks_from cores (earlier
    ++ task ∷ []) others
