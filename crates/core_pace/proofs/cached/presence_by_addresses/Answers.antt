use Rattle.core_pace.proofs.Answered.{word_by_loads}
use Rattle.core_pace.proofs.cached.presence_by_addresses.Goals as goal

pub returns : goal.returns
returns c = word_by_loads
