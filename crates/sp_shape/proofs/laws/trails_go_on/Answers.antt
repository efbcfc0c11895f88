use Rattle.sp_shape.proofs.Whole.{run_whole}
use Rattle.sp_shape.proofs.laws.trails_go_on.Goals as goal

pub returns-clause-whole : goal.returns-clause-whole
returns-clause-whole c from steps m whole = run_whole from steps m whole
