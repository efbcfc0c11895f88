-- To be believed. The keys of a job.
use Rattle.std.specs.Prelude.{ℕ, pos, ℤ, Bool, false, ◌||◌, ◌==◌, if◌then◌else◌, List, codes, bytes_eq, Option, Some, Result}
use Rattle.toml.specs.Data.{Data, Members, as_integer}
use Rattle.std.specs.Option.{option_and_then}
use Rattle.tc_job.specs.declared.keys.Level.{Level}
use Rattle.tc_job.specs.declared.keys.Level.TheVariants.{OfJob, OfTabledJob, OfTask}
use Rattle.tc_toml.specs.Fault.{Fault}
use Rattle.tc_toml.specs.Keys as keys

-- the keys of a job without a slot table
abbrev pub is_job_key : List ℕ → Bool
is_job_key key = bytes_eq key (codes "version") || bytes_eq key (codes "cores") || bytes_eq key (codes "slot")
    || bytes_eq key (codes "cycles") || bytes_eq key (codes "trace") || bytes_eq key (codes "workers")
    || bytes_eq key (codes "task")

-- the keys of a task
abbrev pub is_task_key : List ℕ → Bool
is_task_key key = bytes_eq key (codes "core") || bytes_eq key (codes "lang") || bytes_eq key (codes "source")
    || bytes_eq key (codes "input") || bytes_eq key (codes "start")

-- the keys of a table of that level
abbrev pub is_key : Level → List ℕ → Bool
is_key OfJob key = is_job_key key
is_key OfTabledJob key = is_job_key key || bytes_eq key (codes "table")
is_key OfTask key = is_task_key key

-- the integer is 2
abbrev pub is_two : Option ℤ → Bool
is_two (Some (pos n)) = n == 2
is_two _ = false

-- a job has a slot table where its version is the integer 2, whatever else may be wrong with it
abbrev pub level_of : Option Data → Level
level_of version = if is_two (option_and_then as_integer version) then OfTabledJob else OfJob

-- every key is one of the level's, or else the least by bytes that is not is at fault
abbrev pub known_keys : Level → Option ℕ → Members → Result (Unit {0}) Fault
known_keys level task ms = keys.known_keys (is_key level) task ms
