use Rattle.c_task.proofs.Persisting.{program_sooner, program_tighter}
use Rattle.c_task.proofs.laws.programs_keep_their_persistent_bound.Goals as goal

pub returns-clause-within : goal.returns-clause-within
returns-clause-within c = λ items valid code. program_sooner c.args.place.now items valid code

pub returns-clause-tighter : goal.returns-clause-tighter
returns-clause-tighter c = λ items valid. program_tighter c.args.place.now items valid
