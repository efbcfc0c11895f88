use Rattle.patmos_core.proofs.NextUp.{next_of, whole_of, task_made_all}
use Rattle.patmos_core.proofs.kind.Kind.run.Goals as goal

pub returns-in-Tasked-clause-next : goal.returns-in-Tasked-clause-next
returns-in-Tasked-clause-next c = λ found x made on. next_of c.run.new.self c.run.new.event x made c.args.limit
    (c.run.ensures.below found) (c.run.ensures.asked found) on

pub returns-in-Tasked-clause-whole : goal.returns-in-Tasked-clause-whole
returns-in-Tasked-clause-whole c = λ found x made on. whole_of c.run.new.self c.run.new.event x made c.args.limit
    (c.run.ensures.below found) (c.run.ensures.asked found) on

pub returns-in-Tasked-clause-all : goal.returns-in-Tasked-clause-all
returns-in-Tasked-clause-all c = λ none x made on.
    task_made_all c.run.new.self x made c.args.limit (c.run.ensures.through none)
    (c.run.ensures.whole (c.run.ensures.through none)) on
