use Rattle.job_rows.proofs.RowsFound.{same_machine}
use Rattle.job_rows.proofs.laws.loaded_machine_is_the_jobs.Goals as goal

pub returns : goal.returns
returns c = same_machine
