use Rattle.single_path.specs.Single.{single}
use Rattle.tc_link.specs.Placed.{linked}
use Rattle.task_core.specs.Tasks.{code_of}
use Rattle.task_machine.proofs.Running.{times_at}
use Rattle.c_task.proofs.Runs.{program_runs}
use Rattle.c_task.proofs.Telling.{program_within}
use Rattle.c_task.proofs.laws.programs_keep_their_times.Goals as goal

pub returns : goal.returns
returns c = record {
  times = λ items valid code input values given cycles.
      times_at (single items) c.args.place.now (program_runs c.args.place.now items valid) code
      (c.place_has_slots.ensures (linked (code_of (single items))))
      c.args.place.now.in_range.among input values given cycles;
  within = λ items valid code. program_within c.args.place.now items valid code;
  never = λ items valid code input values given. c.tasks_never_trap.ensures (single items) input values
      (program_runs c.args.place.now items valid) code given;
}
