-- To be believed. Tasks that end within the cycles of their job.
use Rattle.std.specs.Prelude.{◌≡◌, ◌+◌, ◌<◌, List, Ok}
use Rattle.c_tree.specs.Plain.{PlainItem}
use Rattle.c_lex.specs.Texts.{lexed}
use Rattle.c_task.specs.Translation.{bound_on}
use Rattle.c_compile.specs.Texts.{program_on}
use Rattle.tc_job.specs.declared.job.Job.{Job}
use Rattle.tc_job.specs.declared.task.Task.{Task}
use Rattle.tc_job.specs.declared.task.Lang.TheVariants.{C}

-- A task of a job is in C, its text is a program that is valid on its core, and from its start its bound there is less
-- than the cycles of the job.
pub record EndsInTime (j : Job) (t : Task) : Type 0 where
  pub in_c : t.lang ≡ C
  pub items : List PlainItem
  pub program : program_on j.cores t.core (lexed t.source) ≡ Ok items
  pub within : t.start + bound_on j.table j.slot t.core items < j.cycles
