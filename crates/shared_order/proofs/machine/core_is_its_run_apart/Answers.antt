use Rattle.shared_order.proofs.ByCycles.{core_is_apart}
use Rattle.shared_order.proofs.machine.core_is_its_run_apart.Goals as goal

pub returns : goal.returns
returns g c = record { apart = λ turn n. core_is_apart turn n }
