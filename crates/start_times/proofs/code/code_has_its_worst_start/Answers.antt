use Rattle.code_times.specs.Times.{times_at}
use Rattle.start_times.proofs.Clocks.{code_clock}
use Rattle.start_times.proofs.Starting.{times_from}
use Rattle.start_times.proofs.Worst.{from_first, kept, by_period, by_slots}
use Rattle.start_times.proofs.code.code_has_its_worst_start.Goals as goal

pub returns-clause-first : goal.returns-clause-first
returns-clause-first c = λ s addresses first link behaves same is.
    let p = c.args.place.now in
    from_first p (λ q. times_at q s) (times_from p s addresses) (code_clock p s addresses link behaves) first same is

pub returns-clause-deadline : goal.returns-clause-deadline
returns-clause-deadline c = λ s addresses most link behaves covers other same.
    let p = c.args.place.now in
    kept p (λ q. times_at q s) (times_from p s addresses) (code_clock p s addresses link behaves) most covers other same

pub returns-clause-by_period : goal.returns-clause-by_period
returns-clause-by_period c = λ s addresses most link behaves g.
    let p = c.args.place.now in
    by_period p (λ q. times_at q s) (times_from p s addresses) (code_clock p s addresses link behaves) most g

pub returns-clause-by_slots : goal.returns-clause-by_slots
returns-clause-by_slots c = λ s addresses most link behaves g.
    let p = c.args.place.now in
    by_slots p (λ q. times_at q s) (times_from p s addresses) (code_clock p s addresses link behaves) most g
