use Rattle.tc_run.proofs.Workers.{done_through}
use Rattle.tc_run.proofs.one_thread.run_by_turns.Goals as goal

pub run_through-requires : goal.run_through-requires
run_through-requires g c = record {
  on = (c.in_ok-workers.ensures.carries c.in_ok-board.board).on
      (λ k d below. (c.in_ok-groups.ensures.of k d below).on);
}

pub end_of-requires-clause-through : goal.end_of-requires-clause-through
end_of-requires-clause-through g c =
    let m = c.args.machine.now in let b = c.in_ok-board.board in
    done_through m b c.run_through.new.workers.items (c.run_through.ensures.carries.work m
    ((c.in_ok-workers.ensures.carries b).work m c.in_ok-groups.ensures.of)) c.run_through.ensures.done

pub end_of-requires-clause-all : goal.end_of-requires-clause-all
end_of-requires-clause-all g c = λ k low. c.run_through.ensures.carries.have k
    ((c.in_ok-workers.ensures.carries c.in_ok-board.board).have k (c.in_ok-groups.ensures.all k low))
