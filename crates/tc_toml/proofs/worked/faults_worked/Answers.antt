use Rattle.std.proofs.Common.{refl}
use Rattle.std.specs.Fmt.{digits}
use Rattle.tc_toml.proofs.worked.faults_worked.Goals as goal

pub returns-clause-in_a_task : goal.returns-clause-in_a_task
unfolding digits
returns-clause-in_a_task c = refl
