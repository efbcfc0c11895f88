use Rattle.std.proofs.Common.{◌≡◌, ◌++◌, drop}
use Rattle.job_tasks.specs.Coding.{all_shown}
use Rattle.tcrest.specs.Bounds.{bound_line_on}
use Rattle.job_tasks.specs.Tasks.{told_from}
use Rattle.tcrest.proofs.bounds.put_bounds.Given as goal

abbrev pub invariant-loop-core : goal.invariant-loop-core
invariant-loop-core l = l.text.items ++ told_from (bound_line_on l.bounds) l.core (all_shown (drop l.core l.coded))
    ≡ l.initial.text.items ++ told_from (bound_line_on l.bounds) 0 (all_shown l.coded)
