use Rattle.std.proofs.Common.{◌≡◌, length}
use Rattle.code_text.specs.Names.{are_names}
use Rattle.code_text.proofs.names.are_names.Given as goal

abbrev pub invariant-names : goal.invariant-names
invariant-names l = are_names l.names ≡ are_names l.initial.names

abbrev pub decreases-names : goal.decreases-names
decreases-names l = length l.names
