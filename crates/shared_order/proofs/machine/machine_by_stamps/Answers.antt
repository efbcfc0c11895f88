use Rattle.shared_order.proofs.ByStamps.{by_stamps, apart_by_stamps}
use Rattle.shared_order.proofs.machine.machine_by_stamps.Goals as goal

pub returns-clause-machine : goal.returns-clause-machine
returns-clause-machine g c = λ turn n. by_stamps turn n

pub returns-clause-apart : goal.returns-clause-apart
returns-clause-apart g c = λ turn n. apart_by_stamps turn n
