use Rattle.argo_ni.proofs.Course.{stays, takes_turn}
use Rattle.argo_ni.proofs.run.interface_goes_on.Goals as goal

pub returns-clause-stays : goal.returns-clause-stays
returns-clause-stays c = stays

pub returns-clause-acts : goal.returns-clause-acts
returns-clause-acts c = takes_turn
