use Rattle.std.proofs.Common.{arith}
use Rattle.std.proofs.lemmas.Grind.{common_steps}
use Rattle.c_parse.proofs.Starts.{right_name, right_call, right_operand, right_read}
use Rattle.c_parse.proofs.Steps.{operand_name}
use Rattle.c_parse.proofs.rights.right.Goals as goal

pub returns-in_default-clause-passes : goal.returns-in_default-clause-passes
returns-in_default-clause-passes c = grind (arith, common_steps, right_operand)

pub returns-in_default-clause-refuses : goal.returns-in_default-clause-refuses
returns-in_default-clause-refuses c = grind (arith, common_steps, right_operand)

pub returns-in_default-opened-clause-passes : goal.returns-in_default-opened-clause-passes
returns-in_default-opened-clause-passes c = grind (arith, common_steps, right_name, right_read, operand_name)

pub returns-in_err-args-clause-refuses : goal.returns-in_err-args-clause-refuses
returns-in_err-args-clause-refuses c = grind (arith, common_steps, right_name, right_call)

pub returns-clause-passes : goal.returns-clause-passes
returns-clause-passes c = grind (arith, common_steps, right_name, right_call)
