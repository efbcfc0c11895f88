use Rattle.shared_order.proofs.Events.{next_operation, part_left}
use Rattle.shared_order.proofs.position.operation_is_next.Goals as goal

pub returns-clause-next_step : goal.returns-clause-next_step
returns-clause-next_step g c = λ turn n. next_operation turn n

pub returns-clause-left : goal.returns-clause-left
returns-clause-left g c = λ turn n. part_left turn n
