-- To be believed. The schedule that bytes stand for, or the first of their faults. The form is our own: a text in TOML
-- with the keys `columns`, `rows`, `length` and `entries`, whose faults are reported as those of a job.
use Rattle.std.specs.Prelude.{ℕ, ℤ, pos, negsuc, ◌*◌, Bool, ◌&&◌, ◌||◌, nat_le, if◌then◌else◌, List, [], ◌∷◌, length, codes, bytes_eq, Option, Some, None, Result, Ok, Err}
use Rattle.std.specs.Option.{option_and_then}
use Rattle.toml.specs.Data.{Data, Members, get_member, as_integer, as_array}
use Rattle.tc_toml.specs.declared.fault.JobFault.{JobFault}
use Rattle.tc_toml.specs.declared.fault.JobFault.TheVariants as faults
use Rattle.tc_toml.specs.Fault.{Fault, ◌>>=◌, at_key}
use Rattle.tc_toml.specs.Keys as keys
use Rattle.tc_toml.specs.Tree.{tree_of}
use Rattle.tc_toml.specs.Values.{given, number_of, each_of, each_item, array_of}
use Rattle.argo_grid.specs.declared.job.TheConstants.{MOST_ENTRIES, MOST_PERIOD}
use Rattle.argo_grid.specs.declared.grid.Entry.{Entry}
use Rattle.argo_grid.specs.Schedule.{Schedule}

abbrev pub is_key : List ℕ → Bool
is_key key =
    bytes_eq key (codes "columns") || bytes_eq key (codes "rows") || bytes_eq key (codes "length")
    || bytes_eq key (codes "entries")

-- every key is one of these, or else the least by bytes that is not is at fault
abbrev pub known_keys : Members → Result (Unit {0}) Fault
known_keys ms = keys.known_keys is_key None ms

-- rows that make a grid of 2 to 16 routers
abbrev pub fitting_rows : ℕ → ℕ → Result ℕ JobFault
fitting_rows columns rows =
    if nat_le 2 (columns * rows) && nat_le (columns * rows) 16 then Ok rows else Err faults.Range

unfoldable pub rows_in : ℕ → Members → Result ℕ Fault
rows_in columns ms = do
  rows ← at_key None (codes "rows") (number_of 1 16 (get_member (codes "rows") ms))
  at_key None (codes "rows") (fitting_rows columns rows)

-- an array of integers
abbrev pub integers_at : Data → Option (List ℤ)
integers_at d = option_and_then (each_item as_integer) (as_array d)

-- a number of an entry
abbrev pub part_of : ℤ → Option ℕ
part_of (pos n) = if nat_le n 1000000 then Some n else None
part_of (negsuc n) = None

-- the entry of four parts, where each is there
abbrev pub entry_with : Option ℕ → Option ℕ → Option ℕ → Option ℕ → Option Entry
entry_with (Some slot) (Some from) (Some to) (Some arrive) =
    Some (record { slot = slot; from = from; to = to; arrive = arrive })
entry_with _ _ _ _ = None

-- an entry is four numbers: its slot, the cores that send and receive, and when its packets have arrived
abbrev pub entry_of : List ℤ → Option Entry
entry_of (slot ∷ from ∷ to ∷ arrive ∷ []) = entry_with (part_of slot) (part_of from) (part_of to) (part_of arrive)
entry_of _ = None

-- the entries, where they are not too many
abbrev pub entries_from : List (List ℤ) → Result (List Entry) JobFault
entries_from lists = if nat_le (length lists) MOST_ENTRIES then given faults.Range (each_of entry_of lists)
    else Err faults.Range

-- the entries at a key that must be there, an array of arrays of integers
abbrev pub entries_of : Option Data → Result (List Entry) JobFault
entries_of None = Err faults.Missing
entries_of (Some d) = array_of integers_at (as_array d) >>= entries_from

-- the schedule: unknown keys are at fault before any other, and then each key in this order
unfoldable pub schedule_in : Members → Result Schedule Fault
schedule_in ms = do
  known ← known_keys ms
  columns ← at_key None (codes "columns") (number_of 1 16 (get_member (codes "columns") ms))
  rows ← rows_in columns ms
  period ← at_key None (codes "length") (number_of 1 MOST_PERIOD (get_member (codes "length") ms))
  entries ← at_key None (codes "entries") (entries_of (get_member (codes "entries") ms))
  Ok (record { grid = record { columns = columns; rows = rows }; length = period; entries = entries })

-- the schedule of bytes
unfoldable pub schedule_of : List ℕ → Result Schedule Fault
schedule_of bytes = at_key None [] (given faults.Toml (tree_of bytes)) >>= schedule_in
