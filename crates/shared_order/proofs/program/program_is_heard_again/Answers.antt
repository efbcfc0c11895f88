use Rattle.shared_order.proofs.Runs.{fed_played, fed_fed}
use Rattle.shared_order.proofs.program.program_is_heard_again.Goals as goal

pub returns-clause-played : goal.returns-clause-played
returns-clause-played g c = λ s p words more. fed_played s p words more

pub returns-clause-fed : goal.returns-clause-fed
returns-clause-fed g c = λ s p values more. fed_fed s p values more
