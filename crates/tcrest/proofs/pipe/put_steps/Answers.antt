use Rattle.std.proofs.Common.{ℕ, Vec, Global, ap, ◌∙◌, arith, rules, subst, sym}
use Rattle.patmos_model.specs.State.{Core}
use Rattle.pipe_five.specs.Pipe.{StandsFor, IsStep}
use Rattle.tcrest.proofs.Piped.{next_step, untold_step, no_more}
use Rattle.tcrest.proofs.pipe.put_steps.Goals as goal
use Rattle.tcrest.proofs.pipe.put_steps.Goals.{then-count-from+in_ok-put_step_line-in-Step, else-count-from}

pub returns-in-Stopped-clause-stands : goal.returns-in-Stopped-clause-stands
returns-in-Stopped-clause-stands c = λ x first.
    let before = c.loop-count.invariant.stands x first in
    subst (StandsFor c.advance.new.self x) (sym (c.in-Stopped.ensures.stopped tt x c.loop-count.count before))
    (c.in-Stopped.ensures.stands x c.loop-count.count before)

pub loop-count-preserved : goal.loop-count-preserved
loop-count-preserved c =
    let step : (x : Core) → StandsFor c.args.core.now x 0 → IsStep x c.args.limit c.loop-count.count c.in-Step.cycle
    c.in-Step.stages =
    λ x first. c.in-Step.ensures.step x c.loop-count.count (c.loop-count.invariant.stands x first) in
    record {
      later = search rules;
      reached = λ _. c.in-Step.ensures.limit;
      stands = λ x first. c.in-Step.ensures.stands x c.loop-count.count (c.loop-count.invariant.stands x first);
      few = λ x first. omega (arith, (step x first).among);
      text = λ x first. elim c.if-count-from.branch [
        | then-count-from+in_ok-put_step_line-in-Step w ↦ next_step x c.args.limit c.loop-count.count c.args.trace
            c.in-Step.cycle c.in-Step.stages c.args.text.now.items c.loop-count.text.items c.if-count-from.text.items
            (step x first) (omega (arith, w.if-count-from.true, c.from.ensures))
            (ap (λ (t : Vec ℕ Global). t.items) w.text-is ∙ w.in_ok-put_step_line-in-Step.ensures.appended)
            (c.loop-count.invariant.text x first)
        | else-count-from w ↦ ap (λ (t : Vec ℕ Global). t.items) w.text-is
            ∙ untold_step x c.args.limit c.loop-count.count c.args.trace c.args.text.now.items c.loop-count.text.items
            (omega (arith, w.if-count-from.false, c.from.ensures)) (c.loop-count.invariant.text x first)
      ];
    }

pub returns-clause-reported : goal.returns-clause-reported
returns-clause-reported c =
    λ x first. absurd (no_more x c.args.limit c.loop-count.count (c.loop-count.invariant.few x first) (search rules))

pub returns-clause-stands : goal.returns-clause-stands
returns-clause-stands c =
    λ x first. absurd (no_more x c.args.limit c.loop-count.count (c.loop-count.invariant.few x first) (search rules))

pub returns-clause-through : goal.returns-clause-through
returns-clause-through c =
    λ x first. absurd (no_more x c.args.limit c.loop-count.count (c.loop-count.invariant.few x first) (search rules))
