-- To be believed. What contracts see of tasks that are made.
use Rattle.std.specs.Prelude.{◌≡◌, ℕ, List, map, Option, IfSome}
use Rattle.std.specs.Option.{option_map}
use Rattle.c_tree.specs.Plain.{plain}
use Rattle.c_task.specs.Translation.{translation}
use Rattle.patmos_code.specs.Images.{Parts}
use Rattle.sp_shape.specs.Shown.{plain_shape}
use Rattle.tc_job.specs.Ranges.{IsTaskAmong}
use Rattle.job_tasks.specs.declared.tasks.CodedTask.{CodedTask}
use Rattle.c_mentions.specs.declared.tasks.CoreTask.{CoreTask}
use Rattle.c_mentions.specs.declared.tasks.CoreTask.TheVariants as tasks
use Rattle.job_tasks.specs.declared.tasks.MadeTask.{MadeTask}
use Rattle.job_tasks.specs.declared.program.Program.{Program}
use Rattle.job_tasks.specs.Tasks.{Bounded, Made, Coded, Runs, nothing, assembly, program}

abbrev pub bounded : Program → Bounded
bounded p = record { items = plain p.checked.unit; bound = p.bound; persist = p.persist }

abbrev pub made_of : MadeTask → Made
made_of m = record { image = m.image; program = option_map bounded m.program }

-- what a core runs
abbrev pub runs : CoreTask Program → Runs
runs tasks.Idle = nothing
runs tasks.Assembly = assembly
runs (tasks.C p) = program (bounded p)

abbrev pub coded_of : CodedTask → Coded
coded_of c = record { task = c.task.now; made = made_of c.made }

-- the task of a core, if it has one, and those of all cores
abbrev pub shown : Option CodedTask → Option Coded
shown c = option_map coded_of c

abbrev pub all_shown : List (Option CodedTask) → List (Option Coded)
all_shown cs = map shown cs

-- the task is one that a job of so many cores can have
abbrev pub IsAmong : ℕ → Option CodedTask → Type 0
IsAmong cores c = IfSome c (λ t. IsTaskAmong cores t.task.now)

-- the code of a C task is its program's: its shape, and the words of that in its image
pub record IsShaped (image : Parts) (p : Program) : Type 0 where
  pub shape : plain_shape p.shape ≡ (translation (plain p.checked.unit)).scheduled
  pub image_is : image ≡ (translation (plain p.checked.unit)).image

abbrev pub HasShape : MadeTask → Type 0
HasShape m = IfSome m.program (IsShaped m.image)

-- so it is, where a core has a C task
abbrev pub HasShapeOn : Option CodedTask → Type 0
HasShapeOn c = IfSome c (λ t. HasShape t.made)
