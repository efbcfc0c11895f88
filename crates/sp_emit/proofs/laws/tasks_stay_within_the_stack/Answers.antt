use Rattle.sp_emit.proofs.WithinStack.{task_stays}
use Rattle.sp_emit.proofs.laws.tasks_stay_within_the_stack.Goals as goal

pub returns : goal.returns
returns c u from memory loads backs formed enough = task_stays u from memory loads backs formed enough
