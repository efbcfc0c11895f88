use Rattle.core_pace.proofs.StackWords.{spills_by_pointers, fills_by_pointers}
use Rattle.core_pace.proofs.stack.stack_moves_by_pointers.Goals as goal

pub returns-clause-spills : goal.returns-clause-spills
returns-clause-spills c = spills_by_pointers

pub returns-clause-fills : goal.returns-clause-fills
returns-clause-fills c = fills_by_pointers
