use Rattle.task_core.specs.Tasks.{code_of}
use Rattle.task_core.proofs.Behaving.{link, asking, behaves}
use Rattle.task_core.proofs.laws.tasks_keep_their_times.Goals as goal

pub returns-clause-accesses : goal.returns-clause-accesses
returns-clause-accesses c = λ u input values h code given.
    c.code_keeps_its_times.ensures.accesses (code_of u) (asking u h.formed).cached input values (link u code h.formed)
    (behaves u c.args.place.now h code) given

pub returns-clause-end : goal.returns-clause-end
returns-clause-end c = λ u input values h code given.
    c.code_keeps_its_times.ensures.end (code_of u) (asking u h.formed).cached input values (link u code h.formed)
    (behaves u c.args.place.now h code) given

pub returns-clause-within : goal.returns-clause-within
returns-clause-within c = λ u h code.
    c.code_keeps_its_times.ensures.within (code_of u) (asking u h.formed).cached (link u code h.formed)
    (behaves u c.args.place.now h code)
