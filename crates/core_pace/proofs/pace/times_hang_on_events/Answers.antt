use Rattle.core_pace.proofs.Hanging.{same_cycle, same_accesses}
use Rattle.core_pace.proofs.pace.times_hang_on_events.Goals as goal

pub returns-clause-cycle : goal.returns-clause-cycle
returns-clause-cycle c = same_cycle

pub returns-clause-accesses : goal.returns-clause-accesses
returns-clause-accesses c = same_accesses
