-- To be believed. What is written for the bytes of a schedule. The form is our own; docs/GRID.md explains it to users.
use Rattle.std.specs.Prelude.{ℕ, List, [], ◌∷◌, ◌++◌, codes, Result, Ok, Err}
use Rattle.std.specs.Fmt.{decimal}
use Rattle.local_store.specs.declared.map.TheConstants.{COMM_WORDS}
use Rattle.tc_toml.specs.Fault.{Fault, fault_text}
use Rattle.argo_grid.specs.declared.grid.Grid.{Grid}
use Rattle.argo_grid.specs.declared.fault.GridFault.{GridFault}
use Rattle.argo_grid.specs.declared.fault.GridFault.TheVariants.{Range, Late, Shared}
use Rattle.argo_grid.specs.declared.report.GridReport.{GridReport}
use Rattle.argo_grid.specs.Grid.{routers}
use Rattle.argo_grid.specs.Schedule.{Schedule}
use Rattle.argo_grid.specs.Check.{checked}
use Rattle.argo_grid.specs.Read.{schedule_of}
use Rattle.argo_grid.specs.Transfer.{latency_of}

-- every line ends with one newline
abbrev pub line : List ℕ → List ℕ
line text = text ++ 10 ∷ []

-- a number after words, and another after others
abbrev pub two_numbers : List ℕ → ℕ → List ℕ → ℕ → List ℕ
two_numbers words first others second = words ++ decimal first ++ others ++ decimal second

-- the line in which a fault of a schedule is written, without its end
abbrev pub grid_fault_text : GridFault → List ℕ
grid_fault_text (Range entry) = codes "grid: Range " ++ decimal entry
grid_fault_text (Late entry needs) = two_numbers (codes "grid: Late ") entry (codes " needs ") needs
grid_fault_text (Shared entry other) = two_numbers (codes "grid: Shared ") entry (codes " ") other

-- the size of the grid
abbrev pub size_text : Grid → List ℕ
size_text g = two_numbers (codes "grid columns ") g.columns (codes " rows ") g.rows

-- the grid and the length of the period
unfoldable pub grid_line : Grid → ℕ → List ℕ
grid_line g period = line (size_text g ++ codes " length " ++ decimal period)

-- the bound for a transfer of so many words, of n cores
unfoldable pub latency_line : ℕ → ℕ → List ℕ
latency_line n count = line (two_numbers (codes "latency ") count (codes " words ") (latency_of n count))

-- a schedule that is right: the grid, and the bounds for the least and the greatest transfer
unfoldable pub right_text : Schedule → List ℕ
right_text s = grid_line s.grid s.length ++ line (codes "ok")
    ++ latency_line (routers s.grid) 1 ++ latency_line (routers s.grid) COMM_WORDS

-- a fault is written in one line, with status 2
abbrev pub faulty : List ℕ → GridReport
faulty text = record { status = 2; text = line text }

-- by the answer of the check
abbrev pub by_check : Schedule → Result (Unit {0}) GridFault → GridReport
by_check s (Ok u) = record { status = 0; text = right_text s }
by_check s (Err fault) = faulty (grid_fault_text fault)

abbrev pub report_on : Result Schedule Fault → GridReport
report_on (Ok s) = by_check s (checked s)
report_on (Err fault) = faulty (fault_text fault.kind fault.task fault.key)

-- what is written for the bytes of a schedule
abbrev pub report_of : List ℕ → GridReport
report_of bytes = report_on (schedule_of bytes)
