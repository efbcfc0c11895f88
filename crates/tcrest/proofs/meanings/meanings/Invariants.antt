use Rattle.std.proofs.Common.{◌≡◌, ◌++◌, drop}
use Rattle.job_tasks.specs.Coding.{all_shown}
use Rattle.tcrest.specs.Meanings.{lines_on, meanings}
use Rattle.job_tasks.specs.Tasks.{told_from}
use Rattle.tcrest.proofs.meanings.meanings.Given as goal

abbrev pub invariant-loop-core : goal.invariant-loop-core
invariant-loop-core l = l.text.items ++ told_from (lines_on l.limit) l.core (all_shown (drop l.core l.coded))
    ≡ meanings l.limit (all_shown l.coded)
