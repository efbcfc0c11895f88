-- To be believed. What `bound` and `persist` write: the platform, and how many cycles each C task takes at most.
use Rattle.std.specs.Prelude.{ℕ, List, [], ◌++◌, codes, Option}
use Rattle.std.specs.Fmt.{decimal}
use Rattle.slot_arbiter.specs.Slot.{period}
use Rattle.tc_job.specs.declared.job.Job.{Job}
use Rattle.tc_report.specs.Line.{line, about}
use Rattle.tc_report.specs.Report.{platform_line}
use Rattle.tcrest.specs.declared.bounds.Bounds.{Bounds}
use Rattle.tcrest.specs.declared.bounds.Bounds.TheVariants.{Plain, Persistent}
use Rattle.job_tasks.specs.Tasks.{Bounded, Coded, Runs, nothing, assembly, program, runs_on, told_from}

-- the persistent bound, where it is reported
abbrev pub persist_text : Bounds → ℕ → List ℕ
persist_text Plain persist = []
persist_text Persistent persist = codes " persist " ++ decimal persist

abbrev pub bound_line : Bounds → ℕ → Bounded → List ℕ
bound_line bounds core p = line (about core ++ codes "bound " ++ decimal p.bound ++ persist_text bounds p.persist)

-- the bounds of a core's task; an assembly task has none
abbrev pub bound_line_of : Bounds → ℕ → Runs → List ℕ
bound_line_of bounds core nothing = []
bound_line_of bounds core assembly = []
bound_line_of bounds core (program p) = bound_line bounds core p

abbrev pub bound_line_on : Bounds → ℕ → Option Coded → List ℕ
bound_line_on bounds core c = bound_line_of bounds core (runs_on c)

abbrev pub bounds_text : Bounds → Job → List (Option Coded) → List ℕ
bounds_text bounds job coded =
    platform_line job.cores job.slot (period job.table job.slot) ++ told_from (bound_line_on bounds) 0 coded
