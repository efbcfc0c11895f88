use Rattle.tc_run.proofs.AtEnd.{reported_at_end}
use Rattle.patmos_model.specs.Outcome.{state_at}
use Rattle.tc_run.proofs.reporting.outcome_of.Goals as goal

pub returns : goal.returns
returns c = λ m k h. reported_at_end m k c.args.core.now h (λ t x. state_at t x.plain) c.state.result c.state.ensures
