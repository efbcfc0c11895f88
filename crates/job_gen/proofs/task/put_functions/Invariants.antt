use Rattle.std.proofs.Common.{◌≡◌, ◌-◌, ◌*◌, ◌++◌}
use Rattle.job_gen.specs.declared.task.TheConstants.{FUNCTIONS}
use Rattle.job_gen.specs.Generator.{after, after_functions, functions}
use Rattle.job_gen.proofs.task.put_functions.Given as goal

abbrev pub invariant-loop-index : goal.invariant-loop-index
invariant-loop-index l = record {
  appended : l.text.items ++ functions (FUNCTIONS - l.index) l.index l.draws.state ≡ l.initial.text.items
      ++ functions FUNCTIONS 0 l.initial.draws.state;
  left : after (3 * (FUNCTIONS - l.index)) l.draws.state ≡ after_functions l.initial.draws.state;
}
