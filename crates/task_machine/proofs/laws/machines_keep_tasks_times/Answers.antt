use Rattle.task_machine.proofs.Among.{task_among, task_whole}
use Rattle.task_machine.proofs.Reported.{times_there}
use Rattle.task_machine.proofs.laws.machines_keep_tasks_times.Goals as goal

pub returns : goal.returns
returns c = record {
  times = λ u input words cores cycles t. times_there u c.args.place.now input words cores cycles t;
  among = λ u input words cores cycles t. task_among u c.args.place.now input cores cycles
      c.args.place.now.in_range.among t.begins;
  own = λ u input words cores cycles t. task_whole u c.args.place.now input cores cycles c.args.place.now.in_range.among
      t.begins;
}
