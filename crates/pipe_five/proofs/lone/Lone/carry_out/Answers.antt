use Rattle.std.proofs.Common.{◌+◌, slice_index, subst, arith}
use Rattle.pipe_five.specs.Board.{Hears}
use Rattle.pipe_five.proofs.Carried.{carried, status_left}
use Rattle.pipe_five.proofs.lone.Lone.carry_out.Goals as goal

pub returns-clause-runs : goal.returns-clause-runs
returns-clause-runs c = λ x at.
    let run = carried x c.args.self.now c.carry_out-pending_store.new.self c.ask-ask.result c.args.plan.now
    c.values_of-values.result
    c.carry_out-pending_store.result c.complete.new.words.items (c.args.self.now.cycle + 1) at c.requires.plan
    c.requires.settled c.ask-ask.ensures.follows
    (subst (λ words. Hears c.ask-ask.result (slice_index words) c.values_of-values.result) c.as_slice.ensures.value
    c.values_of-values.ensures)
    c.carry_out-pending_store.ensures.done
    c.complete.ensures.words (omega arith) in
    record { seen = run.seen; shows = run.shows; core = run.core; words = run.board; placed = run.placed }

pub returns-clause-leaves : goal.returns-clause-leaves
returns-clause-leaves c = λ x at.
    status_left x c.args.self.now c.carry_out-pending_store.new.self c.args.plan.now c.values_of-values.result
    c.carry_out-pending_store.result at c.requires.plan c.carry_out-pending_store.ensures.done
