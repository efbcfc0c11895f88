use Rattle.std.proofs.Common.{◌+◌, refl, arith}
use Rattle.pipe_five.proofs.AtOnce.{run_alone, told_alone}
use Rattle.pipe_five.proofs.lone.Lone.do_silent.Goals as goal

pub returns-clause-runs : goal.returns-clause-runs
returns-clause-runs c = λ x runs.
    let run = run_alone x c.args.self.now c.do_silent.new.body (c.args.self.now.cycle + 1) runs c.requires.runs
    (c.do_silent.ensures.alone runs.seen) (c.do_silent.ensures.only.shows runs.seen runs.shows) (omega arith) in
    record { seen = run.seen; shows = run.shows; core = run.core; words = run.board; placed = run.placed }

pub returns-clause-done : goal.returns-clause-done
returns-clause-done c = λ x runs.
    told_alone x c.args.self.now c.do_silent.new.body c.args.offset (c.args.self.now.body.base + c.args.offset)
    c.args.latches.now c.shift.new.self (c.args.self.now.cycle + 1) runs c.requires.runs
    c.requires.next.begins.free c.requires.next.here.lands (c.do_silent.ensures.alone runs.seen)
    c.do_silent.ensures.begins.status refl c.shift.ensures (omega arith)
