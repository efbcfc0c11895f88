use Rattle.core_pace.proofs.Outcomes.{ended_is_done}
use Rattle.core_pace.proofs.run.ended_task_is_done.Goals as goal

pub returns : goal.returns
returns c = ended_is_done
