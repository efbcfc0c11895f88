use Rattle.std.proofs.Common.{take, ◌∙◌}
use Rattle.tc_run.proofs.AtEnd.{reported_at_end, kept_at_end}
use Rattle.patmos_core.specs.Position.{room_of}
use Rattle.tc_run.proofs.reporting.accesses_of.Goals as goal

pub returns : goal.returns
returns c = λ m k h.
    reported_at_end m k c.args.core.now h (λ t x. take (room_of c.args.core.now) x.seen.accesses) c.trace.result.now
    c.trace.ensures
    ∙ kept_at_end m k c.args.core.now h
