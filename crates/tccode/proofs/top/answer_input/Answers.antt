use Rattle.std.proofs.Common.{rules}
use Rattle.tccode.proofs.Outcomes.{sent_too_long, sent_within}
use Rattle.tccode.proofs.top.answer_input.Goals as goal

pub returns-in-Err-TooLong-clause-ends : goal.returns-in-Err-TooLong-clause-ends
returns-in-Err-TooLong-clause-ends g c =
    sent_too_long _ _ _ _ _ _ (g.S.Source.left c.args.source.now) (c.in-Err-TooLong.ensures.too_long (cc))
    c.finish-in-Err-TooLong.ensures.sent

pub returns-in-Ok-text_answer-clause-ends : goal.returns-in-Ok-text_answer-clause-ends
returns-in-Ok-text_answer-clause-ends g c =
    sent_within _ _ _ _ _ _ (g.S.Source.left c.args.source.now) c.in-Ok.bytes.items c.in-Ok.ensures.all (search rules)
    (rw (← c.as_slice.ensures.value, ← c.in-Ok-text_answer.ensures.answer, ← c.as_slice-in-Ok-text_answer.ensures)
    c.finish-in-Ok-text_answer.ensures.sent)
