use Rattle.patmos_model.proofs.CoreRanges.{core_keeps, begun_in_range, idle_in_range}
use Rattle.patmos_model.proofs.range.core_keeps_ranges.Goals as goal

pub returns-clause-turn : goal.returns-clause-turn
returns-clause-turn c = core_keeps

pub returns-clause-begun : goal.returns-clause-begun
returns-clause-begun c = begun_in_range

pub returns-clause-idle : goal.returns-clause-idle
returns-clause-idle c = idle_in_range
