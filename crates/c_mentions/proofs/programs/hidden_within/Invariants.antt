use Rattle.std.proofs.Common.{[], List, take}
use Rattle.c_tree.specs.declared.layout.Slot.{Slot}
use Rattle.c_meaning.specs.Meaning.{parameter_variables}
use Rattle.c_mentions.specs.Hidden.{Hides}
use Rattle.c_mentions.proofs.programs.hidden_within.Given as goal

abbrev pub invariant-loop-parameter : goal.invariant-loop-parameter
invariant-loop-parameter l = (slots : List Slot) → Hides l.fn.hidden (record { slots = slots; variables = [] })
    → Hides l.behind (record { slots = slots; variables = parameter_variables (take l.parameter-index l.parameters) })
