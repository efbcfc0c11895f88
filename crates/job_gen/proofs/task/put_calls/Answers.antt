use Rattle.std.proofs.Common.{arith}
use Rattle.job_gen.specs.declared.task.TheConstants.{FUNCTIONS}
use Rattle.job_gen.proofs.Appends.{all_calls, more_calls}
use Rattle.job_gen.proofs.task.put_calls.Goals as goal

pub loop-index-preserved : goal.loop-index-preserved
loop-index-preserved c = more_calls FUNCTIONS _ _ _ _ (omega arith) c.in_ok-put_call.ensures c.loop-index.invariant

pub returns : goal.returns
returns c = all_calls FUNCTIONS _ _ _ c.loop-index-test.false c.loop-index.invariant
