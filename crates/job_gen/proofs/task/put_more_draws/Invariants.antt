use Rattle.std.proofs.Common.{◌≡◌, ◌-◌, ◌++◌}
use Rattle.job_gen.specs.declared.task.TheConstants.{WORDS}
use Rattle.job_gen.specs.Generator.{after, more_draws}
use Rattle.job_gen.proofs.task.put_more_draws.Given as goal

abbrev pub invariant-loop-place : goal.invariant-loop-place
invariant-loop-place l = record {
  appended : l.text.items ++ more_draws (WORDS - l._place) l.draws.state ≡ l.initial.text.items
      ++ more_draws (WORDS - 1) l.initial.draws.state;
  left : after (WORDS - l._place) l.draws.state ≡ after (WORDS - 1) l.initial.draws.state;
}
