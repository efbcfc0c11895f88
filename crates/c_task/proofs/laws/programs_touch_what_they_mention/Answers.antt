use Rattle.single_path.specs.Single.{single}
use Rattle.c_task.proofs.Runs.{program_runs}
use Rattle.c_task.proofs.Touching.{touches}
use Rattle.c_task.proofs.laws.programs_touch_what_they_mention.Goals as goal

pub returns : goal.returns
returns c = λ items valid code input values given cycles.
    let place = c.args.place.now in
    touches items place input values cycles (c.tasks_reach_what_they_name.ensures (single items) input values
    (program_runs place items valid) code given cycles)
