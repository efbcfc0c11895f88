use Rattle.std.proofs.Common.{arith}
use Rattle.job_gen.specs.declared.task.TheConstants.{FUNCTIONS}
use Rattle.job_gen.proofs.Appends.{all_functions, all_moved_thrice, more_functions, moved_thrice}
use Rattle.job_gen.proofs.task.put_functions.Goals as goal

pub loop-index-preserved : goal.loop-index-preserved
loop-index-preserved c = record {
  appended = more_functions FUNCTIONS _ _ _ _ _ _ (omega arith) c.in_ok-put_function.ensures.appended
      c.in_ok-put_function.ensures.left c.loop-index.invariant.appended;
  left = moved_thrice FUNCTIONS _ _ _ _ (omega arith) c.in_ok-put_function.ensures.left c.loop-index.invariant.left;
}

pub returns : goal.returns
returns c = record {
  appended = all_functions FUNCTIONS _ _ _ _ c.loop-index-test.false c.loop-index.invariant.appended;
  left = all_moved_thrice FUNCTIONS _ _ _ c.loop-index-test.false c.loop-index.invariant.left;
}
