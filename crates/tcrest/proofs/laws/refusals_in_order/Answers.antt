use Rattle.tcrest.specs.Command.{command_of}
use Rattle.tcrest.proofs.Outcomes.{command_answer-is_usage, bytes_answer-is_too_long}
use Rattle.tcrest.proofs.laws.refusals_in_order.Goals as goal

pub returns-clause-usage : goal.returns-clause-usage
returns-clause-usage c = λ words bytes. command_answer-is_usage (command_of words) bytes

pub returns-clause-too_long : goal.returns-clause-too_long
returns-clause-too_long c = λ command bytes. bytes_answer-is_too_long command bytes
