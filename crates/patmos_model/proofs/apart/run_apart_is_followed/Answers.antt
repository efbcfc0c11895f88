use Rattle.patmos_model.proofs.Parts.{followed-run}
use Rattle.patmos_model.proofs.apart.run_apart_is_followed.Goals as goal

pub returns : goal.returns
returns c = followed-run
