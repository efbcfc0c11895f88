use Rattle.std.proofs.Common.{sym, subst}
use Rattle.std.specs.Prelude.{IfOk}
use Rattle.tcrest.specs.Telling.{TellsTasksOf}
use Rattle.tcrest.proofs.answers.text_answer.Goals as goal

pub returns-in-OfJob-clause-reported : goal.returns-in-OfJob-clause-reported
returns-in-OfJob-clause-reported g c = subst (λ command. IfOk c.job_answer.result
    (λ _. TellsTasksOf command c.args.bytes.now)) (sym c.in-OfJob.is) c.job_answer.ensures.reported
