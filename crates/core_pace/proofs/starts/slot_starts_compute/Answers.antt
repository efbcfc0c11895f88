use Rattle.core_pace.proofs.SlotStarts.{start_is_next, gap_is_greatest, gap_outlasts}
use Rattle.core_pace.proofs.starts.slot_starts_compute.Goals as goal

pub returns-clause-start : goal.returns-clause-start
returns-clause-start c = start_is_next

pub returns-clause-gap : goal.returns-clause-gap
returns-clause-gap c = gap_is_greatest

pub returns-clause-wait : goal.returns-clause-wait
returns-clause-wait c = gap_outlasts
