use Rattle.shared_order.proofs.ByCycles.{stands_by_cycles, machine_stands, apart_stands}
use Rattle.shared_order.proofs.position.core_stands.Goals as goal

pub returns-clause-by_cycles : goal.returns-clause-by_cycles
returns-clause-by_cycles g c = λ turn n. stands_by_cycles turn n

pub returns-clause-in_machine : goal.returns-clause-in_machine
returns-clause-in_machine g c = λ turn n. machine_stands turn n

pub returns-clause-apart : goal.returns-clause-apart
returns-clause-apart g c = λ turn n. apart_stands turn n
