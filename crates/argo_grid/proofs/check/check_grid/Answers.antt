use Rattle.argo_grid.proofs.Faults.{right_exactly}
use Rattle.argo_grid.proofs.Unique.{fault_exactly}
use Rattle.argo_grid.proofs.check.check_grid.Goals as goal

pub returns-clause-correct : goal.returns-clause-correct
returns-clause-correct c =
    right_exactly c.args.job.now c.first_fault.result c.first_fault.ensures.bounded.least c.first_fault.ensures.first

pub returns-clause-fault : goal.returns-clause-fault
returns-clause-fault c = λ fault.
    fault_exactly c.args.job.now c.first_fault.result fault c.first_fault.ensures.bounded.least
    c.first_fault.ensures.first
