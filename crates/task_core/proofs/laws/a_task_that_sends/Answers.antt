use Rattle.task_core.proofs.Instance.{sender_code, sender_runs}
use Rattle.task_core.proofs.laws.a_task_that_sends.Goals as goal

pub returns-clause-runnable : goal.returns-clause-runnable
returns-clause-runnable c = sender_runs c.args.place.now c.requires.two c.requires.first

pub returns-clause-code : goal.returns-clause-code
returns-clause-code c = sender_code
