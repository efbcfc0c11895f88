use Rattle.tccode.proofs.Outcomes.{written_of_job}
use Rattle.tccode.proofs.top.tccode.Goals as goal

pub returns-then-is_empty-clause-written : goal.returns-then-is_empty-clause-written
returns-then-is_empty-clause-written g c =
    written_of_job _ _ _ _ _ _ c.args.words.now (g.S.Source.left c.args.source.now) c.if-is_empty.ensures
    c.answer_input.ensures.ends
