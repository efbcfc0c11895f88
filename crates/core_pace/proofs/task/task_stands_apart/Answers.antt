use Rattle.core_pace.proofs.TaskApart.{task_is_apart, task_determined}
use Rattle.core_pace.proofs.task.task_stands_apart.Goals as goal

pub returns-clause-apart : goal.returns-clause-apart
returns-clause-apart c = task_is_apart

pub returns-clause-core : goal.returns-clause-core
returns-clause-core c = λ n core x values values' cycles same. (task_determined n core x values values' cycles same).0

pub returns-clause-operations : goal.returns-clause-operations
returns-clause-operations c =
    λ n core x values values' cycles same. (task_determined n core x values values' cycles same).1
