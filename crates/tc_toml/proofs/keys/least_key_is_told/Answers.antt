use Rattle.tc_toml.proofs.Rising.{least_is_first, rise_of_sorted}
use Rattle.tc_toml.proofs.keys.least_key_is_told.Goals as goal

pub returns-clause-first : goal.returns-clause-first
returns-clause-first c = λ is_key ms sorted. least_is_first is_key ms (rise_of_sorted ms sorted)
