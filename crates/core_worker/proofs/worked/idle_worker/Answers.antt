use Rattle.std.proofs.Common.{ap}
use Rattle.shared_order.specs.Operation.{operations_of}
use Rattle.clock_board.specs.View.{own}
use Rattle.patmos_model.specs.Begin.{idle, no_code}
use Rattle.patmos_model.specs.Apart.{site_of}
use Rattle.core_worker.specs.Runs.{listed}
use Rattle.core_worker.proofs.IdleCores.{idle_makes}
use Rattle.core_worker.proofs.worked.idle_worker.Goals as goal

pub new-requires-2-clause-course : goal.new-requires-2-clause-course
new-requires-2-clause-course c = (
  idle (site_of c.in-Some.place no_code),
  c.idle.ensures.stands,
  idle_makes c.in-Some.place (listed c.args.pass.view) c.args.limit
      (ap (λ course. operations_of c.args.pass.view.cores (own c.args.pass.view).core course) c.requires.course),
)
