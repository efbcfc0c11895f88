use Rattle.c_task.proofs.Runs.{program_runs}
use Rattle.c_task.proofs.laws.programs_can_be_run.Goals as goal

pub returns : goal.returns
returns c = λ items valid. program_runs c.args.place.now items valid
