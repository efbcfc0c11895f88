use Rattle.std.proofs.Common.{◌++◌, arith}
use Rattle.std.specs.List.{flat_map}
use Rattle.tc_run.specs.Carried.{workers_of}
use Rattle.core_worker.specs.Worker.{IsOn}
use Rattle.tc_run.proofs.Lists.{all_prefix}
use Rattle.tc_run.proofs.Carried.{beside_same}
use Rattle.tc_run.proofs.crew.Crew.run_here.Goals as goal

pub run_on-requires : goal.run_on-requires
run_on-requires g c = record {
  on = all_prefix (IsOn c.args.common.board.now) c.args.self.now.here.items
      (flat_map (λ h. h.promise.was.value.items) c.args.self.now.away.items) c.requires.on;
}

pub returns-clause-carries : goal.returns-clause-carries
returns-clause-carries g c =
    beside_same c.args.common.board.now c.args.self.now.here.items c.run_on.new.workers.items
    (flat_map (λ h. h.promise.was.value.items) c.args.self.now.away.items) c.run_on.ensures.carries

pub returns-clause-ready : goal.returns-clause-ready
returns-clause-ready g c = λ workers groups ready.
    let b = c.args.common.board.now in let here = c.run_on.new.workers.items in let away =
    flat_map (λ h. h.promise.was.value.items) c.args.self.now.away.items in
    let carries = beside_same b c.args.self.now.here.items here away c.run_on.ensures.carries in
    record {
      on = (beside_same b (workers_of c.args.self.now) (here ++ away) workers carries).on ready.on;
      away = ready.away;
      room = omega (arith, ready.room, carries.count, c.run_on.ensures.room);
      threads = ready.threads;
    }
