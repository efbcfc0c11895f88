-- For worked rows. A small job, for worked values.
use Rattle.std.specs.Prelude.{ℕ, List, [], ◌∷◌, codes}
use Rattle.patmos_asm.specs.Assembly.{CodeParts}
use Rattle.tc_job.specs.declared.job.Job.{Job}
use Rattle.tc_job.specs.declared.task.Task.{Task}
use Rattle.tc_job.specs.declared.task.Lang.TheVariants.{Asm}
use Rattle.tc_report.specs.declared.rows.Row.{Row}
use Rattle.job_rows.specs.Machine.{begun_on, machine_of}
use Rattle.job_rows.specs.Rows.{rows_of}
use Rattle.job_tasks.specs.Tasks.{assembly, of_code}

-- the code of `addi r1 = r0, 7; ret; nop; nop; nop`
abbrev pub seven : CodeParts
seven = record {
  names = codes "main" ∷ [];
  starts = 1 ∷ [];
  words = 5 ∷ 0x00020007 ∷ 0x05400000 ∷ 0 ∷ 0 ∷ 0 ∷ [];
}

-- a job of one core with a task, up to a cycle limit
abbrev pub lone_task : Task
lone_task = record { core = 0; lang = Asm; source = []; input = []; start = 0 }

abbrev pub lone_job : ℕ → Job
lone_job cycles = record {
  version = 1;
  cores = 1;
  slot = 6;
  table = 0 ∷ [];
  cycles = cycles;
  trace = 4;
  workers = 1;
  tasks = lone_task ∷ [];
}

-- the rows of its machine, where the task has that code
abbrev pub lone_rows : ℕ → List Row
lone_rows cycles =
    rows_of cycles 4 (assembly ∷ [])
    (machine_of (lone_job cycles) (begun_on (lone_job cycles) 0 (record { task = lone_task; made = of_code seven })
    ∷ []))
