use Rattle.std.proofs.Common.{arith}
use Rattle.std.proofs.lemmas.Grind.{common_steps}
use Rattle.c_parse.proofs.Steps.{bracket_read, no_bracket, sign_read, no_sign}
use Rattle.c_parse.proofs.globals.filled.Goals as goal

pub returns-in_err-behind-clause-refuses : goal.returns-in_err-behind-clause-refuses
returns-in_err-behind-clause-refuses c = grind (arith, common_steps, no_bracket)

pub returns-in_err-initial-clause-refuses : goal.returns-in_err-initial-clause-refuses
returns-in_err-initial-clause-refuses c = grind (arith, common_steps, bracket_read)

pub returns-in_err-rest-clause-refuses : goal.returns-in_err-rest-clause-refuses
returns-in_err-rest-clause-refuses c = grind (arith, common_steps, bracket_read, no_sign)

pub returns-clause-passes : goal.returns-clause-passes
returns-clause-passes c = grind (arith, common_steps, bracket_read, sign_read)
