use Rattle.std.proofs.Common.{take}
use Rattle.shared_order.proofs.Events.{asks_filled, filled_again}
use Rattle.shared_order.proofs.event.event_asks.Goals as goal

pub returns-clause-asks : goal.returns-clause-asks
returns-clause-asks c = λ e values. asks_filled e.stamp (take e.count e.ops) values

pub returns-clause-filled : goal.returns-clause-filled
returns-clause-filled c = λ e os more. filled_again e.stamp (take e.count e.ops) os more
