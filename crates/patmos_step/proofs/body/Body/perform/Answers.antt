use Rattle.std.proofs.Common.{sym, ◌∙◌}
use Rattle.patmos_step.specs.Shown.{plain_of}
use Rattle.patmos_step.proofs.Granted.{is_granted}
use Rattle.patmos_step.proofs.body.Body.perform.Goals as goal

pub answer-requires-clause-fits : goal.answer-requires-clause-fits
answer-requires-clause-fits c =
    is_granted c.asked_by-effect.result (plain_of c.args.self.now) (plain_of c.advance.new.self) _ _ _
    (sym c.fault.ensures ∙ c.in_default.is) c.advance.ensures.plain
