use Rattle.std.proofs.Common.{sym, ◌∙◌}
use Rattle.patmos_step.proofs.Silent.{either_silent}
use Rattle.patmos_step.proofs.body.Body.ask_in_slot.Goals as goal

pub returns-in-Nothing : goal.returns-in-Nothing
returns-in-Nothing c = either_silent _ _ (sym c.ask_of_then.ensures ∙ c.in-Nothing.is)
