use Rattle.std.proofs.Common.{length}
use Rattle.code_text.specs.Tally.{each_at}
use Rattle.code_text.proofs.Adding.{runs_add, tasks_add}
use Rattle.code_text.proofs.laws.tallies_add_up.Goals as goal

pub returns-clause-functions : goal.returns-clause-functions
returns-clause-functions c = λ s k. runs_add s.functions (each_at c.args.place.now) (length s.functions) k

pub returns-clause-task : goal.returns-clause-task
returns-clause-task c = λ s. tasks_add (each_at c.args.place.now) s
