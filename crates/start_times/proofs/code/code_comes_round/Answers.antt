use Rattle.code_times.specs.Times.{times_at}
use Rattle.start_times.proofs.Clocks.{code_clock}
use Rattle.start_times.proofs.Starting.{times_from}
use Rattle.start_times.proofs.Still.{behaves_still}
use Rattle.start_times.proofs.Worst.{so_much_later, as_many_later, from_slot}
use Rattle.start_times.proofs.code.code_comes_round.Goals as goal

pub returns-clause-behaves : goal.returns-clause-behaves
returns-clause-behaves c =
    λ s addresses other behaves same. behaves_still c.args.place.now other s addresses same behaves

pub returns-clause-later : goal.returns-clause-later
returns-clause-later c = λ s addresses periods other link behaves is.
    let p = c.args.place.now in
    so_much_later p (λ q. times_at q s) (times_from p s addresses) (code_clock p s addresses link behaves)
    periods other is

pub returns-clause-cycles : goal.returns-clause-cycles
returns-clause-cycles c = λ s addresses periods other link behaves is.
    let p = c.args.place.now in
    as_many_later p (λ q. times_at q s) (times_from p s addresses) (code_clock p s addresses link behaves)
    periods other is

pub returns-clause-slot : goal.returns-clause-slot
returns-clause-slot c = λ s addresses other link behaves same next.
    let p = c.args.place.now in
    from_slot p (λ q. times_at q s) (times_from p s addresses) (code_clock p s addresses link behaves) other same next
