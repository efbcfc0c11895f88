use Rattle.std.proofs.Common.{◌≡◌, [], All, drop, map, nat_eq}
use Rattle.std.specs.List.{IsDistinct}
use Rattle.toml.specs.View.{table_view}
use Rattle.tc_job.specs.Ranges.{IsTaskAmong}
use Rattle.tc_job.specs.Task.{cores_of, tasks_from}
use Rattle.tc_job.proofs.task.tasks_of.Given as goal

abbrev pub invariant-loop-table : goal.invariant-loop-table
invariant-loop-table l = record {
  read : tasks_from l.cores l.tasks.items (map (λ t. table_view t.now) (drop l.table-index l.tables))
      ≡ tasks_from l.cores [] (map (λ t. table_view t.now) l.tables);
  taken : l.taken.keys ≡ cores_of l.tasks.items;
  apart : IsDistinct nat_eq l.taken.keys;
  among : All (IsTaskAmong l.cores) l.tasks.items;
}
