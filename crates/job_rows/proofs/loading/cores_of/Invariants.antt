use Rattle.std.proofs.Common.{◌≡◌, length, map}
use Rattle.global_step.specs.Machine.{first_core}
use Rattle.job_rows.specs.Machine.{cores_from}
use Rattle.job_tasks.specs.Coding.{runs, all_shown}
use Rattle.job_tasks.specs.Tasks.{runs_on}
use Rattle.job_rows.proofs.CoresFound.{ArePlaced}
use Rattle.job_rows.proofs.loading.cores_of.Given as goal

abbrev pub invariant-loop-one : goal.invariant-loop-one
invariant-loop-one l = record {
  so_far : map first_core l.cores.items ≡ cores_from l.job 0 (all_shown l.yielded);
  count : length l.cores.items ≡ length l.yielded;
  placed : ArePlaced l.job l.cores.items;
  runs : map runs l.tasks.items ≡ map runs_on (all_shown l.yielded);
  tasks : length l.tasks.items ≡ length l.yielded;
}
