use Rattle.std.proofs.Common.{arith}
use Rattle.std.proofs.lemmas.Grind.{common_steps}
use Rattle.c_parse.proofs.Starts.{initial_assign, initial_end, no_initial}
use Rattle.c_parse.proofs.Steps.{name_read, no_name}
use Rattle.c_parse.proofs.simple.declaration.Goals as goal

pub returns-in_err-text-clause-refuses : goal.returns-in_err-text-clause-refuses
returns-in_err-text-clause-refuses c = grind (arith, common_steps, no_name)

pub returns-in-Some-clause-passes : goal.returns-in-Some-clause-passes
returns-in-Some-clause-passes c = grind (arith, common_steps, name_read, initial_assign)

pub returns-in-Some-clause-refuses : goal.returns-in-Some-clause-refuses
returns-in-Some-clause-refuses c = grind (arith, common_steps, name_read, initial_assign)

pub returns-in_default-after-clause-refuses : goal.returns-in_default-after-clause-refuses
returns-in_default-after-clause-refuses c = grind (arith, common_steps, name_read, no_initial)

pub returns-clause-passes : goal.returns-clause-passes
returns-clause-passes c = grind (arith, common_steps, name_read, initial_end)
