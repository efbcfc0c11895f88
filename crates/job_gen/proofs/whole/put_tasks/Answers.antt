use Rattle.std.proofs.Common.{arith}
use Rattle.job_gen.specs.declared.whole.TheConstants.{CORES}
use Rattle.job_gen.proofs.Appends.{all_tasks, more_tasks}
use Rattle.job_gen.proofs.whole.put_tasks.Goals as goal

pub loop-core-preserved : goal.loop-core-preserved
loop-core-preserved c = more_tasks CORES _ _ _ _ _ _ (omega arith) c.in_ok-put_task.ensures.appended
    c.in_ok-put_task.ensures.left c.loop-core.invariant

pub returns : goal.returns
returns c = all_tasks CORES _ _ _ _ c.loop-core-test.false c.loop-core.invariant
