use Rattle.std.proofs.Common.{◌≡◌, ◌-◌, ◌++◌}
use Rattle.job_gen.specs.declared.whole.TheConstants.{CORES}
use Rattle.job_gen.specs.Generator.{tasks}
use Rattle.job_gen.proofs.whole.put_tasks.Given as goal

abbrev pub invariant-loop-core : goal.invariant-loop-core
invariant-loop-core l = l.text.items ++ tasks (CORES - l.core) l.core l.draws.state ≡ l.initial.text.items
    ++ tasks CORES 0 l.initial.draws.state
