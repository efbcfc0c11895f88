use Rattle.core_pace.proofs.Quick.{quick_next}
use Rattle.core_pace.proofs.between.quick_bundle_takes_a_cycle.Goals as goal

pub returns : goal.returns
returns c = quick_next
