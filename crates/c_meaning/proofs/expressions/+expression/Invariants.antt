use Rattle.std.proofs.Common.{◌≡◌, drop}
use Rattle.c_tree.specs.Plains.{steps_of}
use Rattle.sp_tree.specs.Plain.{plain_sp}
use Rattle.c_meaning.specs.Open.{names_of}
use Rattle.c_meaning.specs.Resolve.{resolved_steps}
use Rattle.c_meaning.specs.Values.{steps_unsigned}
use Rattle.c_meaning.proofs.expressions.+expression.Given as goal

abbrev pub invariant-steps-loop-step : goal.invariant-steps-loop-step
invariant-steps-loop-step l = record {
  value : resolved_steps (names_of l.scope) l.fresh l.unsigned (plain_sp l.value) (steps_of (drop l.step-index l.steps))
      ≡ resolved_steps (names_of l.scope) l.fresh l.initial.unsigned (plain_sp l.initial.value) (steps_of l.steps);
  unsigned : steps_unsigned (names_of l.scope) l.unsigned (steps_of (drop l.step-index l.steps))
      ≡ steps_unsigned (names_of l.scope) l.initial.unsigned (steps_of l.steps);
}
