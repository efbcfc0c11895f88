use Rattle.std.proofs.Common.{refl}
use Rattle.shared_order.proofs.Standing.{enters, goes_on, leaves, resumed}
use Rattle.shared_order.proofs.position.core_goes_on.Goals as goal

pub returns-clause-begins : goal.returns-clause-begins
returns-clause-begins g c = λ act n core x more. refl

pub returns-clause-enters : goal.returns-clause-enters
returns-clause-enters g c = λ act n. enters act n

pub returns-clause-goes_on : goal.returns-clause-goes_on
returns-clause-goes_on g c = λ act n. goes_on act n

pub returns-clause-leaves : goal.returns-clause-leaves
returns-clause-leaves g c = λ act n. leaves act n

pub returns-clause-resumed : goal.returns-clause-resumed
returns-clause-resumed g c = λ act n. resumed act n
