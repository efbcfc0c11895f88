-- To be believed. The texts of the code of a job's C tasks, and what they tell.
use Rattle.std.specs.Prelude.{◌≡◌, ℕ, ◌+◌, ◌*◌, List, [], length, map, Option, None, Some, IfSome, Ok, slice_get}
use Rattle.c_meaning.specs.Resolve.{names_in}
use Rattle.c_task.specs.Translation.{translation}
use Rattle.code_text.specs.Lines.{lines_text}
use Rattle.code_text.specs.Listing.{name_of, task_lines}
use Rattle.code_text.specs.Names.{names_for}
use Rattle.code_text.specs.Tally.{each_on, task_bundles, task_moves}
use Rattle.job_tasks.specs.Tasks.{Bounded, Made, Coded, coded_from, told_from}
use Rattle.patmos_asm.specs.Assembly.{code_of}
use Rattle.tc_job.specs.Job.{job_of}
use Rattle.tc_job.specs.declared.job.Job.{Job}
use Rattle.tc_link.specs.Placed.{order}

-- the names of a program's functions in its text
abbrev pub names_of : Bounded → List (List ℕ)
names_of p = names_for (names_in p.items) (length (translation p.items).scheduled.functions)

-- the most cycles that a transaction takes on a core of a job
abbrev pub each_of : Job → ℕ → ℕ
each_of job core = each_on job.table job.slot core

-- the code of a program on a core
abbrev pub program_text : Job → ℕ → Bounded → List ℕ
program_text job core p = lines_text (task_lines (names_of p)
    (record { core = core; bound = p.bound; persist = p.persist }) (each_of job core) (translation p.items).scheduled
    (translation p.items).image.words)

-- that of a core's task; an assembly task has none
abbrev pub made_text : Job → ℕ → Made → List ℕ
made_text job core m = elim m.program as (λ _. List ℕ) [ None ↦ [] | Some p ↦ program_text job core p ]

abbrev pub core_text : Job → ℕ → Option Coded → List ℕ
core_text job core None = []
core_text job core (Some c) = made_text job core c.made

-- those of all cores
abbrev pub job_text : Job → List (Option Coded) → List ℕ
job_text job coded = told_from (core_text job) 0 coded

-- ---- what they tell

-- the text of a program assembles to its image, and what it tells adds up to the bound
pub record TellsCode (job : Job) (core : ℕ) (p : Bounded) : Type 0 where
  pub assembles : code_of (program_text job core p) ≡ Ok (record {
    names = map (name_of (names_of p)) (order (translation p.items).scheduled);
    starts = (translation p.items).image.starts;
    words = (translation p.items).image.words;
  })
  pub adds_up : p.bound
      ≡ task_bundles (translation p.items).scheduled + each_of job core * task_moves (translation p.items).scheduled

-- so it is of a core's task, if it has one in C
abbrev pub TellsMade : Job → ℕ → Made → Type 0
TellsMade job core m = IfSome m.program (TellsCode job core)

abbrev pub TellsOn : Job → ℕ → Option Coded → Type 0
TellsOn job core c = IfSome c (λ t. TellsMade job core t.made)

-- and of each core of a job whose tasks are made to these
abbrev pub TellsCodes : Job → List (Option Coded) → Type 0
TellsCodes job coded = (core : ℕ) → IfSome (slice_get coded core) (TellsOn job core)

-- where the bytes are a job whose tasks are all made
abbrev pub TellsJob : List ℕ → Type 0
TellsJob bytes = (job : Job) (coded : List (Option Coded)) → job_of bytes ≡ Ok job
    → coded_from job 0 job.cores ≡ Ok coded → TellsCodes job coded
