use Rattle.std.proofs.Common.{◌≡◌, ◌∷◌}
use Rattle.tc_link.specs.Placed.{others}
use Rattle.code_text.proofs.functions.order_of.Given as goal

abbrev pub invariant-loop-function : goal.invariant-loop-function
invariant-loop-function l = l.made.items ≡ l.entry ∷ others l.entry l.function
