use Rattle.std.proofs.Common.{◌≤◌}
use Rattle.pipe_five.specs.Pipe.{limit_of}
use Rattle.tests_processor.proofs.pipelines.a_task_goes_through_the_stages.Given as goal

abbrev pub invariant-loop-cycle : goal.invariant-loop-cycle
invariant-loop-cycle g l = record {
  below : limit_of l.core ≤ 20;
}
