use Rattle.gen_bounds.proofs.Ending.{tasks_end}
use Rattle.gen_bounds.proofs.laws.generated_jobs_end.Goals as goal

pub returns : goal.returns
returns c = tasks_end
