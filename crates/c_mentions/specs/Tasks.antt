-- To be believed. What the cores of a job run.
use Rattle.std.specs.Prelude.{List, Option, None, Some}
use Rattle.c_tree.specs.Plain.{PlainItem}
use Rattle.c_mentions.specs.declared.tasks.CoreTask.{CoreTask}
use Rattle.c_mentions.specs.declared.tasks.CoreTask.TheVariants as task
use Rattle.c_mentions.specs.Alone.{Running, idle, assembly, program}

abbrev pub running : {P : Type 0} → (P → List PlainItem) → CoreTask P → Running
running items task.Idle = idle
running items task.Assembly = assembly
running items (task.C p) = program (items p)

-- where it has a task, with a C program or without one
abbrev pub core_task : {P : Type 0} → Option P → CoreTask P
core_task None = task.Assembly
core_task (Some p) = task.C p
