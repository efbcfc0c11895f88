use Rattle.shared_order.proofs.Standing.{skips, skips_cycles, reaches, passes}
use Rattle.shared_order.proofs.ByStamps.{act_here}
use Rattle.shared_order.proofs.position.core_skips.Goals as goal

pub returns-clause-stamps : goal.returns-clause-stamps
returns-clause-stamps g c = λ act n. skips act n

pub returns-clause-cycles : goal.returns-clause-cycles
returns-clause-cycles g c = λ turn n. skips_cycles turn n

pub returns-clause-reaches : goal.returns-clause-reaches
returns-clause-reaches g c = λ turn n. reaches turn n

pub returns-clause-passes : goal.returns-clause-passes
returns-clause-passes g c = λ turn n. passes turn n

pub returns-clause-act : goal.returns-clause-act
returns-clause-act g c = λ turn n. act_here turn n
