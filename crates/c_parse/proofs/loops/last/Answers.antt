use Rattle.std.proofs.Common.{arith}
use Rattle.std.proofs.lemmas.Grind.{common_steps}
use Rattle.c_parse.proofs.Steps.{sign_read, no_sign}
use Rattle.c_parse.proofs.loops.last.Goals as goal

pub returns-in_err-rest-clause-refuses : goal.returns-in_err-rest-clause-refuses
returns-in_err-rest-clause-refuses c = grind (arith, common_steps, no_sign)

pub returns-clause-passes : goal.returns-clause-passes
returns-clause-passes c = grind (arith, common_steps, sign_read)
