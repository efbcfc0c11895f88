-- To be believed. What `run` tells of each core of the machine at its limit, and under which status.
use Rattle.std.specs.Prelude.{ℕ, ◌+◌, ◌==◌, Bool, true, false, not, List, [], ◌∷◌, take, map, Option, Some, None, slice_get}
use Rattle.std.specs.List.{list_any}
use Rattle.c_mentions.specs.Alone as alone
use Rattle.c_mentions.specs.Alone.{Running, is_alone}
use Rattle.c_run.specs.Reported.{slot_words, output_number}
use Rattle.c_tree.specs.Layout.{layout_of}
use Rattle.c_tree.specs.Plain.{PlainItem}
use Rattle.c_tree.specs.declared.layout.Slot.{Slot}
use Rattle.c_world.specs.World.{World}
use Rattle.slot_arbiter.specs.Slot.{period}
use Rattle.shared_order.specs.Machine.{State}
use Rattle.patmos_model.specs.declared.state.CoreState.{CoreState}
use Rattle.patmos_model.specs.declared.state.CoreState.TheVariants as state
use Rattle.patmos_model.specs.State.{Core, Plain}
use Rattle.patmos_model.specs.Outcome.{state_at}
use Rattle.patmos_model.specs.Trap.{trap_number}
use Rattle.tc_job.specs.declared.job.Job.{Job}
use Rattle.tc_report.specs.declared.rows.Row.{Row}
use Rattle.tc_report.specs.declared.rows.Rows.{Rows}
use Rattle.tc_report.specs.declared.rows.RowState.{RowState}
use Rattle.tc_report.specs.declared.rows.RowState.TheVariants.{Idle, Limit, Done, Trap}
use Rattle.job_tasks.specs.Tasks.{Bounded, Runs, nothing, assembly, program}

-- what became of a task
abbrev pub row_state : CoreState → RowState
row_state state.Idle = Idle
row_state state.Running = Limit
row_state (state.Done value flag cycles) = Done value cycles
row_state (state.Trapped trap at) = Trap (trap_number trap) at

-- ---- what is reported of a C task besides

-- what a core runs, as far as its data is concerned
abbrev pub running : Runs → Running
running nothing = alone.idle
running assembly = alone.assembly
running (program p) = alone.program p.items

-- its flag that a loop ran past its count: what the second register of results holds at its end is not 0
abbrev pub is_flagged : CoreState → Bool
is_flagged (state.Done value flag cycles) = not (flag == 0)
is_flagged _ = false

-- what stands in a core's own memories
abbrev pub own_world : Plain → World
own_world x =
    record { scratch = x.scratch; comm = λ _. 0; private = x.private; shared = λ _. 0; overrun = false; sends = [] }

-- where the array `out` of a program stands, if it has one
abbrev pub output_slot : List PlainItem → Option Slot
output_slot items = elim (output_number items) [ None ↦ None | Some number ↦ slice_get (layout_of items) number ]

-- the words of the array, where there is one, and whether they are unsigned
abbrev pub words_out : World → Option Slot → List ℕ
words_out w None = []
words_out w (Some s) = slot_words w s

abbrev pub is_unsigned_out : Option Slot → Bool
is_unsigned_out None = false
is_unsigned_out (Some s) = s.unsigned

-- ---- rows

-- how a core without a program ended, and nothing else
abbrev pub bare_row : CoreState → Row
bare_row s = record {
  state = row_state s;
  bound = None;
  alone = false;
  overrun = false;
  outs = [];
  outs_unsigned = false;
  dropped = 0;
  accesses = [];
}

-- a core without a program: what became of it at the limit, and so many of its transactions
abbrev pub plain_row : ℕ → ℕ → Core → Row
plain_row limit trace x = record (bare_row (state_at limit x.plain)) {
  dropped = x.plain.interface.dropped;
  accesses = take trace x.seen.accesses;
}

-- a core with a program, among what all cores run
abbrev pub program_row : ℕ → ℕ → List Running → ℕ → Bounded → Core → Row
program_row limit trace all core p x = record (plain_row limit trace x) {
  bound = Some p.bound;
  alone = is_alone core all;
  overrun = is_flagged (state_at limit x.plain);
  outs = words_out (own_world x.plain) (output_slot p.items);
  outs_unsigned = is_unsigned_out (output_slot p.items);
}

abbrev pub row_of : ℕ → ℕ → List Running → ℕ → Runs → Core → Row
row_of limit trace all core nothing x = plain_row limit trace x
row_of limit trace all core assembly x = plain_row limit trace x
row_of limit trace all core (program p) x = program_row limit trace all core p x

-- the rows of cores, the first of which is this one, in a machine
abbrev pub rows_from : ℕ → ℕ → List Running → ℕ → List Runs → State Core → List Row
rows_from limit trace all core [] m = []
rows_from limit trace all core (r ∷ rs) m =
    row_of limit trace all core r (m.cores core) ∷ rows_from limit trace all (core + 1) rs m

abbrev pub rows_of : ℕ → ℕ → List Runs → State Core → List Row
rows_of limit trace rs m = rows_from limit trace (map running rs) 0 rs m

-- the task was stopped, or has not ended by the limit
abbrev pub is_early : RowState → Bool
is_early Idle = false
is_early Limit = true
is_early (Done value cycles) = false
is_early (Trap trap at) = true

-- the status says whether there is such a task
abbrev pub status_of : List Row → ℕ
status_of rows = elim (list_any (λ r. is_early r.state) rows) [ true ↦ 3 | false ↦ 0 ]

-- the report of all cores
abbrev pub report_rows : Job → List Row → Rows
report_rows job rows =
    record { cores = job.cores; slot = job.slot; period = period job.table job.slot; rows = rows }
