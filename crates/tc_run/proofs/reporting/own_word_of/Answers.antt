use Rattle.tc_run.proofs.AtEnd.{reported_at_end}
use Rattle.patmos_model.specs.Outcome.{word_in}
use Rattle.tc_run.proofs.reporting.own_word_of.Goals as goal

pub returns : goal.returns
returns c = λ m k h. reported_at_end m k c.args.core.now h (λ t x. word_in c.args.cell x.plain)
    c.word.result c.word.ensures
