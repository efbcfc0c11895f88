use Rattle.std.proofs.Common.{◌++◌, [], vec_len}
use Rattle.core_worker.specs.Worker.{IsOn}
use Rattle.tc_run.specs.Carried.{workers_in, workers_of}
use Rattle.tc_run.proofs.Lists.{all_prefix}
use Rattle.tc_run.proofs.Carried.{carried_on, begun_with}
use Rattle.tc_run.proofs.crew.run_in.Goals as goal

pub run_here-requires : goal.run_here-requires
run_here-requires g c = record {
  on = all_prefix (IsOn c.args.common.board.now) (workers_of c.args.crew)
      (workers_in c.args.groups.items) c.requires.ready.on;
}

pub take_all_on-requires-clause-ready : goal.take_all_on-requires-clause-ready
take_all_on-requires-clause-ready g c κs within =
    c.run_here.ensures.ready (workers_in c.args.groups.items) (vec_len c.args.groups) c.requires.ready

pub run_here-requires-2 : goal.run_here-requires-2
run_here-requires-2 g c = record {
  on = all_prefix (IsOn c.args.common.board.now) (workers_of c.take_all_on.new.self) []
      c.take_all_on.ensures.ready.on;
}

pub run_through-requires : goal.run_through-requires
run_through-requires g c =
    let b = c.args.common.board.now in let ready = c.run_here-2.ensures.ready [] 0 c.take_all_on.ensures.ready in
    record {
      on = (c.joined-workers.ensures.carries b ready.away).on
          (all_prefix (IsOn b) (workers_of c.run_here-2.new.self) [] ready.on);
    }

pub returns-clause-carries : goal.returns-clause-carries
returns-clause-carries g c =
    let b = c.args.common.board.now in let groups =
    workers_in c.args.groups.items in let start = workers_of c.args.crew ++ groups in
    let started = workers_of c.take_all_on.new.self in let run = workers_of c.run_here-2.new.self in let back =
    c.joined-workers.result.items in
    let ready = c.run_here-2.ensures.ready [] 0 c.take_all_on.ensures.ready in
    carried_on b start back c.run_through.new.workers.items
    (carried_on b start run back
    (carried_on b start started run
    (begun_with b (workers_of c.args.crew) (workers_of c.run_here.new.self) groups started c.run_here.ensures.carries
    c.take_all_on.ensures.carries)
    c.run_here-2.ensures.carries)
    (c.joined-workers.ensures.carries b ready.away))
    c.run_through.ensures.carries
