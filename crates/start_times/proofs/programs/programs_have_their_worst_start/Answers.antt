use Rattle.c_task.specs.Translation.{times}
use Rattle.start_times.proofs.Clocks.{times_on, program_clock}
use Rattle.start_times.proofs.Worst.{from_first, kept, by_period, by_slots}
use Rattle.start_times.proofs.programs.programs_have_their_worst_start.Goals as goal

pub returns-clause-first : goal.returns-clause-first
returns-clause-first c = λ items first valid code same is.
    let p = c.args.place.now in
    from_first p (λ q. times q items) (times_on p items valid) (program_clock p items valid code) first same is

pub returns-clause-deadline : goal.returns-clause-deadline
returns-clause-deadline c = λ items most valid code covers other same.
    let p = c.args.place.now in
    kept p (λ q. times q items) (times_on p items valid) (program_clock p items valid code) most covers other same

pub returns-clause-by_period : goal.returns-clause-by_period
returns-clause-by_period c = λ items most valid code g.
    let p = c.args.place.now in
    by_period p (λ q. times q items) (times_on p items valid) (program_clock p items valid code) most g

pub returns-clause-by_slots : goal.returns-clause-by_slots
returns-clause-by_slots c = λ items most valid code g.
    let p = c.args.place.now in
    by_slots p (λ q. times q items) (times_on p items valid) (program_clock p items valid code) most g
