use Rattle.tc_run.proofs.AtEnd.{reported_at_end}
use Rattle.tc_run.proofs.reporting.dropped_of.Goals as goal

pub returns : goal.returns
returns c = λ m k h. reported_at_end m k c.args.core.now h (λ t x. x.plain.interface.dropped) c.dropped.result
    c.dropped.ensures
