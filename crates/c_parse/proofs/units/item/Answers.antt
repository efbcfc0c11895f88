use Rattle.std.proofs.Common.{arith}
use Rattle.std.proofs.lemmas.Grind.{common_steps}
use Rattle.c_parse.proofs.Starts.{items_kind, items_scratch, items_void}
use Rattle.c_parse.proofs.units.item.Goals as goal

pub returns-in-Some-clause-passes : goal.returns-in-Some-clause-passes
returns-in-Some-clause-passes c = grind (arith, common_steps, items_kind)

pub returns-in-Some-clause-refuses : goal.returns-in-Some-clause-refuses
returns-in-Some-clause-refuses c = grind (arith, common_steps, items_kind)

pub returns-in-Some-after_word-clause-passes : goal.returns-in-Some-after_word-clause-passes
returns-in-Some-after_word-clause-passes c = grind (arith, common_steps, items_scratch)

pub returns-in-Some-after_word-clause-refuses : goal.returns-in-Some-after_word-clause-refuses
returns-in-Some-after_word-clause-refuses c = grind (arith, common_steps, items_scratch)

pub returns-clause-passes : goal.returns-clause-passes
returns-clause-passes c = grind (arith, common_steps, items_void)

pub returns-clause-refuses : goal.returns-clause-refuses
returns-clause-refuses c = grind (arith, common_steps, items_void)
