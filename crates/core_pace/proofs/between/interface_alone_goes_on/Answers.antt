use Rattle.core_pace.proofs.Waits.{waited_same}
use Rattle.core_pace.proofs.Listed.{waited_own, waited_bundles}
use Rattle.core_pace.proofs.between.interface_alone_goes_on.Goals as goal

pub returns-clause-core : goal.returns-clause-core
returns-clause-core c = waited_same

pub returns-clause-operations : goal.returns-clause-operations
returns-clause-operations c = waited_own

pub returns-clause-bundles : goal.returns-clause-bundles
returns-clause-bundles c = waited_bundles
