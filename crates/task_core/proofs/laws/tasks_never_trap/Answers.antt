use Rattle.task_core.specs.Tasks.{code_of}
use Rattle.task_core.proofs.Behaving.{link, asking, behaves}
use Rattle.task_core.proofs.laws.tasks_never_trap.Goals as goal

pub returns : goal.returns
returns c = λ u input values h code given.
    c.code_keeps_its_times.ensures.never (code_of u) (asking u h.formed).cached input values (link u code h.formed)
    (behaves u c.args.place.now h code) given
