use Rattle.std.proofs.Common.{◌≡◌}
use Rattle.code_text.specs.Names.{numbered}
use Rattle.code_text.proofs.names.numbered.Given as goal

abbrev pub invariant-loop-number : goal.invariant-loop-number
invariant-loop-number l = l.names.items ≡ numbered l.number-counter
