use Rattle.single_path.specs.Single.{single}
use Rattle.c_task.proofs.Meaning.{program_meaning}
use Rattle.c_task.proofs.Runs.{program_runs}
use Rattle.c_task.proofs.Worlds.{world_held}
use Rattle.c_task.proofs.laws.programs_come_to_their_meaning.Goals as goal

pub returns : goal.returns
returns c = λ items valid code input values world given words limit enough so.
    let place = c.args.place.now in
    let holds = world_held (single items) place input world code.initial given.0 words in
    program_meaning place items valid input world limit _ _
    (c.tasks_come_to_their_meaning.ensures (single items) input values world (program_runs place items valid) code holds
    given limit enough so)
