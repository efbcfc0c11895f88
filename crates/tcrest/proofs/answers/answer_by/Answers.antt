use Rattle.std.proofs.Common.{◌≡◌, false, arith}
use Rattle.std.proofs.lemmas.Grind.{common_steps}
use Rattle.tcrest.specs.Answer.{is_taken}
use Rattle.job_tasks.specs.Coding.{all_shown}
use Rattle.tcrest.proofs.Telling.{always, told_of, untaken}
use Rattle.tcrest.proofs.answers.answer_by.Goals as goal

pub returns-then-not-is_taken-clause-reported : goal.returns-then-not-is_taken-clause-reported
returns-then-not-is_taken-clause-reported g c =
    let no : is_taken c.args.command c.args.job.now ≡ false = grind (arith, common_steps) in
    always c.fault_answer.result (λ coded _. untaken c.args.command c.args.job.now coded no)

pub returns-in-Ok-clause-reported : goal.returns-in-Ok-clause-reported
returns-in-Ok-clause-reported g c = told_of c.args.job.now c.args.command (all_shown c.in-Ok.coded.items)
    c.answer_with.result c.in-Ok.ensures.coded c.answer_with.ensures.reported
