use Rattle.std.proofs.Common.{subst, ap, ◌∙◌, IfOk}
use Rattle.job_gen.specs.Generator.{generated}
use Rattle.tcrest.specs.declared.command.JobCommand.TheVariants.{Run}
use Rattle.tcrest.specs.Telling.{TellsJob}
use Rattle.tcrest.proofs.answers.bench_answer.Goals as goal

pub returns-clause-reported : goal.returns-clause-reported
returns-clause-reported g c =
    subst (λ text. IfOk c.job_answer.result (λ _. TellsJob Run text)) (c.as_slice.ensures.value ∙ c.in_ok-text.ensures
    ∙ ap generated c.from.ensures) c.job_answer.ensures.reported
