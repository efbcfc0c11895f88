use Rattle.std.proofs.Common.{ap, arith}
use Rattle.std.proofs.lemmas.Grind.{common_steps}
use Rattle.c_check.specs.Open.{names_of}
use Rattle.c_check.proofs.Next.{chain_next}
use Rattle.std.specs.Prelude.{sum_by}
use Rattle.std.proofs.lemmas.List.{take_all}
use Rattle.c_check.proofs.Sums.{step_size, steps_sized}
use Rattle.c_check.proofs.expressions.+expression.Goals as goal

pub steps-loop-step-preserved : goal.steps-loop-step-preserved
steps-loop-step-preserved t c =
    let next = chain_next c.loop-step.walk.least (names_of c.args.names.now) c.loop-step.walk.at c.args.steps.now
    c.loop-step.step-index c.step-item.result
    (omega arith) c.step-item.is in
    record { at = grind (arith, common_steps); least = grind (arith, next) }

pub steps-returns-clause-at : goal.steps-returns-clause-at
steps-returns-clause-at t c =
    let all = ap (sum_by step_size) (take_all c.loop-step.step-index c.args.steps.now c.loop-step-test.false) in
    omega (arith, steps_sized c.args.steps.now, all, c.loop-step.invariant.at)
