use Rattle.std.proofs.Common.{arith}
use Rattle.std.proofs.lemmas.Grind.{common_steps}
use Rattle.c_parse.proofs.Starts.{assigned_name, no_assigned}
use Rattle.c_parse.proofs.Steps.{sign_read, no_sign}
use Rattle.c_parse.proofs.loops.assigned.Goals as goal

pub returns-in_err-text-clause-refuses : goal.returns-in_err-text-clause-refuses
returns-in_err-text-clause-refuses c = grind (arith, common_steps, no_assigned)

pub returns-in_err-behind-clause-refuses : goal.returns-in_err-behind-clause-refuses
returns-in_err-behind-clause-refuses c = grind (arith, common_steps, assigned_name, no_sign)

pub returns-in_err-of-clause-refuses : goal.returns-in_err-of-clause-refuses
returns-in_err-of-clause-refuses c = grind (arith, common_steps, assigned_name, sign_read)

pub returns-clause-passes : goal.returns-clause-passes
returns-clause-passes c = grind (arith, common_steps, assigned_name, sign_read)
