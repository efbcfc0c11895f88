-- To be believed. What `mean` writes: of each C task what its program means on its input.
use Rattle.std.specs.Prelude.{ℕ, nat_lt, if◌then◌else◌, List, [], ◌++◌, codes, Option, Some, None}
use Rattle.c_tree.specs.declared.layout.Slot.{Slot}
use Rattle.c_tree.specs.Plain.{PlainItem}
use Rattle.c_meaning.specs.Begun.{meaning}
use Rattle.c_meaning.specs.Meaning.{Outcome}
use Rattle.c_run.specs.Reported.{slot_words}
use Rattle.c_world.specs.World.{World}
use Rattle.tc_report.specs.Line.{line, about, mean_line, outs_from}
use Rattle.job_rows.specs.Rows.{output_slot}
use Rattle.job_tasks.specs.Tasks.{Bounded, Made, Coded, told_from}

-- the words of the array `out` at the end, where there is one
abbrev pub outs_of : ℕ → World → Option Slot → List ℕ
outs_of core w None = []
outs_of core w (Some s) = outs_from core s.unsigned 0 (slot_words w s)

-- what a program gave
abbrev pub given_lines : ℕ → List PlainItem → Outcome → List ℕ
given_lines core items given =
    mean_line core given.value given.world.overrun ++ outs_of core given.world (output_slot items)

-- what a program means on its input, where `shared` and `comm` begin with 0
abbrev pub program_lines : ℕ → List ℕ → List PlainItem → List ℕ
program_lines core input items = given_lines core items (meaning items input (λ _. 0) (λ _. 0))

-- a task that may take longer than the job's limit is not carried out
abbrev pub long_line : ℕ → List ℕ
long_line core = line (about core ++ codes "long")

abbrev pub timely_lines : ℕ → ℕ → List ℕ → Bounded → List ℕ
timely_lines limit core input p = if nat_lt limit p.bound then long_line core else program_lines core input p.items

-- what is reported of a core's task, if it has one; of an assembly task nothing is
abbrev pub lines_for : ℕ → ℕ → List ℕ → Made → List ℕ
lines_for limit core input m = elim m.program as (λ _. List ℕ) [ None ↦ [] | Some p ↦ timely_lines limit core input p ]

abbrev pub lines_on : ℕ → ℕ → Option Coded → List ℕ
lines_on limit core None = []
lines_on limit core (Some c) = lines_for limit core c.task.input c.made

-- what is reported of all cores
abbrev pub meanings : ℕ → List (Option Coded) → List ℕ
meanings limit coded = told_from (lines_on limit) 0 coded
