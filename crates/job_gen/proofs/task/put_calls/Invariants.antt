use Rattle.std.proofs.Common.{◌≡◌, ◌-◌, ◌++◌}
use Rattle.job_gen.specs.declared.task.TheConstants.{FUNCTIONS}
use Rattle.job_gen.specs.Generator.{calls}
use Rattle.job_gen.proofs.task.put_calls.Given as goal

abbrev pub invariant-loop-index : goal.invariant-loop-index
invariant-loop-index l = l.text.items ++ calls (FUNCTIONS - l.index) l.index ≡ l.initial.text.items ++ calls FUNCTIONS 0
