use Rattle.argo_ni.proofs.Ranges.{fit_turn, new_in_range, source_in_range, target_in_range, started_in_range}
use Rattle.argo_ni.proofs.range.interface_keeps_ranges.Goals as goal

pub returns-clause-turn : goal.returns-clause-turn
returns-clause-turn c = fit_turn

pub returns-clause-new : goal.returns-clause-new
returns-clause-new c = new_in_range

pub returns-clause-source : goal.returns-clause-source
returns-clause-source c = source_in_range

pub returns-clause-target : goal.returns-clause-target
returns-clause-target c = target_in_range

pub returns-clause-started : goal.returns-clause-started
returns-clause-started c = started_in_range
