use Rattle.std.proofs.Common.{rules, inl, inr, arith}
use Rattle.tcrest.proofs.Outcomes.{sent_too_long, sent_within}
use Rattle.tcrest.proofs.Telling.{told_bytes}
use Rattle.tcrest.proofs.top.answer_input.Goals as goal

pub returns-in-Err-TooLong-clause-ends : goal.returns-in-Err-TooLong-clause-ends
returns-in-Err-TooLong-clause-ends g c =
    sent_too_long _ _ _ _ _ _ c.args.command (g.S.Source.left c.args.source.now) (c.in-Err-TooLong.ensures.too_long
    (cc)) c.finish-in-Err-TooLong.ensures.sent

pub returns-in-Ok-text_answer-clause-ends : goal.returns-in-Ok-text_answer-clause-ends
returns-in-Ok-text_answer-clause-ends g c =
    sent_within _ _ _ _ _ _ c.args.command (g.S.Source.left c.args.source.now) c.in-Ok.bytes.items c.in-Ok.ensures.all
    (search rules)
    (rw (← c.as_slice.ensures.value, ← c.in-Ok-text_answer.ensures.answer, ← c.as_slice-in-Ok-text_answer.ensures)
    c.finish-in-Ok-text_answer.ensures.sent)

pub returns-in-Ok-text_answer-clause-read_fault : goal.returns-in-Ok-text_answer-clause-read_fault
returns-in-Ok-text_answer-clause-read_fault g c = λ five.
    elim c.finish-in-Ok-text_answer.ensures.status [
      | inl same ↦ absurd (omega (arith, five, same, c.in-Ok-text_answer.ensures.below))
      | inr six ↦ absurd (omega (arith, five, six))
    ]

pub returns-in-Ok-text_answer-clause-write_fault : goal.returns-in-Ok-text_answer-clause-write_fault
returns-in-Ok-text_answer-clause-write_fault g c = λ six.
    elim c.finish-in-Ok-text_answer.ensures.sent [
      | inl whole ↦ absurd (omega (arith, six, whole.0, c.in-Ok-text_answer.ensures.below))
      | inr cut ↦ cut.1
    ]

pub returns-in-Ok-text_answer-clause-reported : goal.returns-in-Ok-text_answer-clause-reported
returns-in-Ok-text_answer-clause-reported g c =
    told_bytes c.args.command (g.S.Source.left c.args.source.now) c.in-Ok.bytes.items _ c.in-Ok.ensures.all
    (rw (← c.as_slice.ensures.value) c.in-Ok-text_answer.ensures.reported)
