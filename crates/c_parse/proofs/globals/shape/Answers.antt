use Rattle.std.proofs.Common.{arith}
use Rattle.std.proofs.lemmas.Grind.{common_steps}
use Rattle.c_parse.proofs.Starts.{variable_array, variable_assign, variable_end, no_variable}
use Rattle.c_parse.proofs.globals.shape.Goals as goal

pub returns-in-Some-clause-passes : goal.returns-in-Some-clause-passes
returns-in-Some-clause-passes c = grind (arith, common_steps, variable_array)

pub returns-in-Some-clause-refuses : goal.returns-in-Some-clause-refuses
returns-in-Some-clause-refuses c = grind (arith, common_steps, variable_array)

pub returns-in-Some-after-clause-passes : goal.returns-in-Some-after-clause-passes
returns-in-Some-after-clause-passes c = grind (arith, common_steps, variable_end)

pub returns-in_default-after-2-clause-refuses : goal.returns-in_default-after-2-clause-refuses
returns-in_default-after-2-clause-refuses c = grind (arith, common_steps, no_variable)

pub returns-clause-passes : goal.returns-clause-passes
returns-clause-passes c = grind (arith, common_steps, variable_assign)

pub returns-clause-refuses : goal.returns-clause-refuses
returns-clause-refuses c = grind (arith, common_steps, variable_assign)
