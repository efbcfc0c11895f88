use Rattle.sp_emit.proofs.FunctionIterations.{task_iterations}
use Rattle.sp_emit.proofs.laws.loops_make_all_iterations.Goals as goal

pub returns : goal.returns
returns c u from memory loads backs told formed counts = task_iterations u from memory loads backs told formed counts
