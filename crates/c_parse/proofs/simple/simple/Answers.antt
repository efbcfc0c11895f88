use Rattle.std.proofs.Common.{arith}
use Rattle.std.proofs.lemmas.Grind.{common_steps}
use Rattle.c_parse.proofs.Starts.{statement_kind, statement_name, statement_send, statement_break, statement_continue, statement_return}
use Rattle.c_parse.proofs.Steps.{sign_read, no_sign}
use Rattle.c_parse.proofs.simple.simple.Goals as goal

pub returns-in-Some-clause-passes : goal.returns-in-Some-clause-passes
returns-in-Some-clause-passes c = grind (arith, common_steps, statement_kind)

pub returns-in-Some-clause-refuses : goal.returns-in-Some-clause-refuses
returns-in-Some-clause-refuses c = grind (arith, common_steps, statement_kind)

pub returns-in-Some-name_at-clause-passes : goal.returns-in-Some-name_at-clause-passes
returns-in-Some-name_at-clause-passes c = grind (arith, common_steps, statement_name)

pub returns-in-Some-name_at-clause-refuses : goal.returns-in-Some-name_at-clause-refuses
returns-in-Some-name_at-clause-refuses c = grind (arith, common_steps, statement_name)

pub returns-in-Some-after_word-clause-passes : goal.returns-in-Some-after_word-clause-passes
returns-in-Some-after_word-clause-passes c = grind (arith, common_steps, statement_send)

pub returns-in-Some-after_word-clause-refuses : goal.returns-in-Some-after_word-clause-refuses
returns-in-Some-after_word-clause-refuses c = grind (arith, common_steps, statement_send)

pub returns-in_err-rest-clause-refuses : goal.returns-in_err-rest-clause-refuses
returns-in_err-rest-clause-refuses c = grind (arith, common_steps, statement_break, no_sign)

pub returns-in-Some-after_word-2-clause-passes : goal.returns-in-Some-after_word-2-clause-passes
returns-in-Some-after_word-2-clause-passes c = grind (arith, common_steps, statement_break, sign_read)

pub returns-in_err-rest-2-clause-refuses : goal.returns-in_err-rest-2-clause-refuses
returns-in_err-rest-2-clause-refuses c = grind (arith, common_steps, statement_continue, no_sign)

pub returns-in-Some-after_word-3-clause-passes : goal.returns-in-Some-after_word-3-clause-passes
returns-in-Some-after_word-3-clause-passes c = grind (arith, common_steps, statement_continue, sign_read)

pub returns-clause-passes : goal.returns-clause-passes
returns-clause-passes c = grind (arith, common_steps, statement_return)

pub returns-clause-refuses : goal.returns-clause-refuses
returns-clause-refuses c = grind (arith, common_steps, statement_return)
