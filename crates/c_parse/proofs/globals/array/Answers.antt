use Rattle.std.proofs.Common.{arith}
use Rattle.std.proofs.lemmas.Grind.{common_steps}
use Rattle.c_parse.proofs.Steps.{number_read, no_number, sign_read, no_sign}
use Rattle.c_parse.proofs.globals.array.Goals as goal

pub returns-in_err-value-clause-refuses : goal.returns-in_err-value-clause-refuses
returns-in_err-value-clause-refuses c = grind (arith, common_steps, no_number)

pub returns-in_err-behind-clause-refuses : goal.returns-in_err-behind-clause-refuses
returns-in_err-behind-clause-refuses c = grind (arith, common_steps, number_read, no_sign)

pub returns-in_err-initial-clause-refuses : goal.returns-in_err-initial-clause-refuses
returns-in_err-initial-clause-refuses c = grind (arith, common_steps, number_read, sign_read)

pub returns-clause-passes : goal.returns-clause-passes
returns-clause-passes c = grind (arith, common_steps, number_read, sign_read)
