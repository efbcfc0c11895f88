use Rattle.task_machine.proofs.Reported.{meaning_there}
use Rattle.task_machine.proofs.laws.machines_give_tasks_their_meaning.Goals as goal

pub returns : goal.returns
returns c = λ u input words cores cycles world t holds enough so. meaning_there u c.args.place.now input words cores
    cycles t world holds enough so
