use Rattle.tc_link.specs.Placed.{linked}
use Rattle.task_core.specs.Tasks.{code_of}
use Rattle.task_words.proofs.AtLimit.{comes_at}
use Rattle.task_words.proofs.laws.tasks_come_to_their_meaning.Goals as goal

pub returns : goal.returns
returns c = λ u input values world h code holds given limit enough so.
    comes_at u c.args.place.now input world h code holds (c.place_has_slots.ensures (linked (code_of u)))
    c.args.place.now.in_range.among values given limit enough so
