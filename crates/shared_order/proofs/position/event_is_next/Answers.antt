use Rattle.shared_order.proofs.Events.{event_next, event_left, none_after}
use Rattle.shared_order.proofs.position.event_is_next.Goals as goal

pub returns-clause-event : goal.returns-clause-event
returns-clause-event g c = λ turn n. event_next turn n

pub returns-clause-left : goal.returns-clause-left
returns-clause-left g c = λ turn n. event_left turn n

pub returns-clause-none_left : goal.returns-clause-none_left
returns-clause-none_left g c = λ turn n. none_after turn n
