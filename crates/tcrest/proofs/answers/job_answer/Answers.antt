use Rattle.std.proofs.Common.{ap, sym, ◌∙◌}
use Rattle.std.specs.Prelude.{Ok}
use Rattle.tcrest.proofs.Telling.{told_job}
use Rattle.tcrest.proofs.answers.job_answer.Goals as goal

pub returns-in-Ok-clause-reported : goal.returns-in-Ok-clause-reported
returns-in-Ok-clause-reported g c =
    told_job c.args.command c.args.bytes.now c.of.result c.answer_by-in-Ok.result (c.in-Ok.ensures.job
    ∙ ap Ok (sym c.of.ensures)) c.answer_by-in-Ok.ensures.reported
