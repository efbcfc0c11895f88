-- To be believed. The slot table that a job states.
use Rattle.std.specs.Prelude.{ℕ, ℤ, pos, negsuc, nat_lt, if◌then◌else◌, List, Option, Some, None, Result, Ok, Err}
use Rattle.slot_arbiter.specs.Table.{is_table}
use Rattle.toml.specs.Data.{Data}
use Rattle.tc_toml.specs.declared.fault.JobFault.{JobFault}
use Rattle.tc_toml.specs.declared.fault.JobFault.TheVariants as faults
use Rattle.tc_toml.specs.Fault.{◌>>=◌}
use Rattle.tc_toml.specs.Values.{each_of, given, integers_in}

-- the core that an integer names
abbrev pub core_of : ℕ → ℤ → Option ℕ
core_of cores (pos n) = if nat_lt n cores then Some n else None
core_of cores (negsuc n) = None

-- entries, where they are a slot table for that many cores
abbrev pub checked_table : ℕ → List ℕ → Result (List ℕ) JobFault
checked_table cores entries = if is_table cores entries then Ok entries else Err faults.Range

-- the slot table of integers that name cores
abbrev pub table_of : ℕ → List ℤ → Result (List ℕ) JobFault
table_of cores integers = given faults.Range (each_of (core_of cores) integers) >>= checked_table cores

-- the slot table at a key that must be there
abbrev pub slot_table : ℕ → Option Data → Result (List ℕ) JobFault
slot_table cores None = Err faults.Missing
slot_table cores (Some d) = integers_in d >>= table_of cores
