use Rattle.tc_run.proofs.Workers.{done_through}
use Rattle.tc_run.proofs.machine.run_waiting.Goals as goal

pub run_groups-workers-requires-clause-ready : goal.run_groups-workers-requires-clause-ready
run_groups-workers-requires-clause-ready g c κs within = record {
  on = (c.in_ok-crew.ensures.carries c.in_ok-board.board).on (λ k d below. (c.in_ok-groups.ensures.of k d below).on);
  away = c.in_ok-crew.ensures.away c.in_ok-board.board;
  room = c.in_ok-crew.ensures.room;
  threads = c.in_ok-crew.ensures.threads;
}

pub end_of-requires-clause-through : goal.end_of-requires-clause-through
end_of-requires-clause-through g c =
    let m = c.args.machine.now in let b = c.in_ok-board.board in
    done_through m b c.run_groups-workers.result.items
    (c.run_groups-workers.ensures.carries.work m ((c.in_ok-crew.ensures.carries b).work m c.in_ok-groups.ensures.of))
    c.run_groups-workers.ensures.done

pub end_of-requires-clause-all : goal.end_of-requires-clause-all
end_of-requires-clause-all g c = λ k low.
    c.run_groups-workers.ensures.carries.have k ((c.in_ok-crew.ensures.carries c.in_ok-board.board).have k
    (c.in_ok-groups.ensures.all k low))
