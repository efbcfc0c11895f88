-- To be believed. The text of a report, whole. The form is our own; docs/JOBS_AND_REPORTS.md explains it to users.
use Rattle.std.specs.Prelude.{ℕ, ◌+◌, ◌&&◌, if◌then◌else◌, List, [], ◌∷◌, ◌++◌, codes}
use Rattle.std.specs.Fmt.{decimal}
use Rattle.std.specs.List.{flat_map}
use Rattle.tc_report.specs.declared.rows.Row.{Row}
use Rattle.tc_report.specs.declared.rows.Rows.{Rows}
use Rattle.tc_report.specs.Line.{about, access_line, bound_text, dropped_lines, is_done, line, outs_from, state_text}

-- the platform
unfoldable pub platform_line : ℕ → ℕ → ℕ → List ℕ
platform_line cores slot period =
    line (codes "platform cores " ++ decimal cores ++ codes " slot " ++ decimal slot ++ codes " period "
    ++ decimal period)

-- what became of a core's task; an overrun is reported of a done task alone
unfoldable pub state_line : ℕ → Row → List ℕ
state_line core row =
    line (about core ++ state_text row.state ++ bound_text row.bound row.alone (is_done row.state && row.overrun))

-- the words of `out`, which only a done task has given
unfoldable pub out_lines : ℕ → Row → List ℕ
out_lines core row = if is_done row.state then outs_from core row.outs_unsigned 0 row.outs else []

-- all that is reported of a core
unfoldable pub core_lines : ℕ → Row → List ℕ
core_lines core row =
    state_line core row ++ out_lines core row ++ dropped_lines core row.dropped
    ++ flat_map (access_line core) row.accesses

-- the cores in order, from a core on
abbrev pub cores_from : ℕ → List Row → List ℕ
cores_from core [] = []
cores_from core (row ∷ rows) = core_lines core row ++ cores_from (core + 1) rows

-- the report of a machine's end
unfoldable pub report_text : Rows → List ℕ
report_text rows = platform_line rows.cores rows.slot rows.period ++ cores_from 0 rows.rows
