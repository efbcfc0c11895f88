use Rattle.tc_link.specs.Placed.{linked}
use Rattle.task_core.specs.Tasks.{code_of}
use Rattle.task_words.proofs.Names.{names}
use Rattle.task_words.proofs.laws.tasks_reach_what_they_name.Goals as goal

pub returns : goal.returns
returns c = λ u input values h code given cycles.
    names u c.args.place.now h code (c.place_has_slots.ensures (linked (code_of u))) c.args.place.now.in_range.among
    input values given cycles
