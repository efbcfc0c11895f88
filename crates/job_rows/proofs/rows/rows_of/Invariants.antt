use Rattle.std.proofs.Common.{◌≡◌, map}
use Rattle.global_step.specs.Loaded.{Machine}
use Rattle.tc_run.specs.Final.{AreFinal}
use Rattle.job_tasks.specs.Coding.{runs}
use Rattle.job_rows.specs.Rows.{running}
use Rattle.job_rows.proofs.RowsFound.{rows_below}
use Rattle.job_rows.proofs.rows.rows_of.Given as goal

abbrev pub invariant-loop-number : goal.invariant-loop-number
invariant-loop-number l =
    (m : Machine) → AreFinal m l.cores → l.rows.items ≡ rows_below (map running (map runs l.tasks)) l.tasks l.number m
