use Rattle.std.proofs.Common.{refl}
use Rattle.patmos_model.specs.Begin.{begun}
use Rattle.patmos_model.specs.Apart.{site_of}
use Rattle.core_pace.proofs.OwnStores.{own_stores}
use Rattle.core_pace.proofs.stores.task_stores_its_own.Goals as goal

pub returns : goal.returns
returns c = λ place image input values cycles. own_stores place.cores place.core (begun (site_of place image) input)
    values cycles refl
