use Rattle.std.proofs.Common.{drop}
use Rattle.c_tree.specs.Plains.{steps_of}
use Rattle.c_mentions.specs.Uses.{steps_uses}
use Rattle.c_mentions.proofs.Walks.{Left}
use Rattle.c_mentions.proofs.expressions.+expression.Given as goal

abbrev pub invariant-note_steps-loop-step : goal.invariant-note_steps-loop-step
invariant-note_steps-loop-step l =
    Left l.hidden l.m l.initial.m (λ names. steps_uses names (steps_of (drop l.step-index l.steps)))
    (λ names. steps_uses names (steps_of l.steps))
