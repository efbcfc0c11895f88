use Rattle.job_gen.specs.declared.whole.TheConstants.{CORES}
use Rattle.gen_jobs.proofs.Programs.{tasks_are_programs}
use Rattle.gen_jobs.proofs.laws.generated_jobs_are_jobs.Goals as goal

pub returns-clause-tasks : goal.returns-clause-tasks
returns-clause-tasks c = tasks_are_programs CORES 0
