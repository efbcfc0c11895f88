use Rattle.task_machine.proofs.Alone.{zeros_fit}
use Rattle.task_machine.proofs.laws.tasks_alone_read_zeros.Goals as goal

pub returns : goal.returns
returns c = λ u input words cores cycles tasks t begin alone. zeros_fit u c.args.place.now input words cores cycles t
    tasks begin alone
