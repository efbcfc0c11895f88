use Rattle.shared_order.proofs.ByCycles.{asks_the_same}
use Rattle.shared_order.proofs.Determined.{next_same}
use Rattle.shared_order.proofs.course.next_is_determined.Goals as goal

pub returns-clause-while_read : goal.returns-clause-while_read
returns-clause-while_read g c = λ turn n. asks_the_same turn n

pub returns-clause-next : goal.returns-clause-next
returns-clause-next g c = next_same
