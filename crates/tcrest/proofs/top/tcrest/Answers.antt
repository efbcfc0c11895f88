use Rattle.std.proofs.Common.{◌∙◌}
use Rattle.tcrest.specs.Answer.{answer}
use Rattle.job_tasks.proofs.Outcomes.{written_if}
use Rattle.tcrest.proofs.Generated.{written_is_job, bench_whole, bench_done}
use Rattle.tcrest.proofs.Outcomes.{answer-status}
use Rattle.tcrest.proofs.top.tcrest.Goals as goal

pub returns-clause-written : goal.returns-clause-written
returns-clause-written g c =
    written_if (answer c.args.words.now) _ _ _ _ _ _ (g.S.Source.left c.args.source.now)
    (answer-status c.args.words.now)
    (rw c.command_of.ensures at c.perform.ensures.ends)

pub returns-clause-programs : goal.returns-clause-programs
returns-clause-programs g c = rw (← c.command_of.ensures) c.perform.ensures.reported

pub returns-clause-generated : goal.returns-clause-generated
returns-clause-generated g c = λ n gen. written_is_job _ n gen

pub returns-clause-whole : goal.returns-clause-whole
returns-clause-whole g c = λ n bench. bench_whole _ n bench

pub returns-clause-done : goal.returns-clause-done
returns-clause-done g c = λ n bench. bench_done _ n _ _ _ _ _ (c.command_of.ensures ∙ bench)
    c.perform.ensures.ends_unread c.perform.ensures.reported_unread
