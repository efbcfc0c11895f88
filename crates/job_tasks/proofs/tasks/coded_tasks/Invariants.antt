use Rattle.std.proofs.Common.{◌≡◌, ◌-◌, length, All}
use Rattle.job_tasks.specs.Tasks.{coded_from}
use Rattle.job_tasks.specs.Coding.{all_shown, HasShapeOn, IsAmong}
use Rattle.job_tasks.specs.Making.{AreMade}
use Rattle.job_tasks.proofs.TasksCoded.{behind}
use Rattle.job_tasks.proofs.tasks.coded_tasks.Given as goal

abbrev pub invariant-loop-core : goal.invariant-loop-core
invariant-loop-core l = record {
  so_far : behind (all_shown l.coded.items) (coded_from l.job l.core (l.job.cores - l.core))
      ≡ coded_from l.job 0 l.job.cores;
  count : length l.coded.items ≡ l.core;
  among : All (IsAmong l.job.cores) l.coded.items;
  shapes : All HasShapeOn l.coded.items;
  made : AreMade l.job (all_shown l.coded.items);
}
