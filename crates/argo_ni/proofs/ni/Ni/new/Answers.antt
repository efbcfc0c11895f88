use Rattle.argo_ni.proofs.Acts.{new_is_quiet}
use Rattle.argo_ni.proofs.ni.Ni.new.Goals as goal

pub returns-clause-quiet : goal.returns-clause-quiet
returns-clause-quiet c = λ half.
    new_is_quiet c.args.place.now.cores c.args.place.now.core half c.new.result c.new.ensures
