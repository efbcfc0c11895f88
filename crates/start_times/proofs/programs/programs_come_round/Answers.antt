use Rattle.c_task.specs.Translation.{times}
use Rattle.start_times.proofs.Clocks.{times_on, program_clock}
use Rattle.start_times.proofs.Worst.{so_much_later, as_many_later, from_slot}
use Rattle.start_times.proofs.programs.programs_come_round.Goals as goal

pub returns-clause-later : goal.returns-clause-later
returns-clause-later c = λ items periods other valid code is.
    let p = c.args.place.now in
    so_much_later p (λ q. times q items) (times_on p items valid) (program_clock p items valid code) periods other is

pub returns-clause-cycles : goal.returns-clause-cycles
returns-clause-cycles c = λ items periods other valid code is.
    let p = c.args.place.now in
    as_many_later p (λ q. times q items) (times_on p items valid) (program_clock p items valid code) periods other is

pub returns-clause-slot : goal.returns-clause-slot
returns-clause-slot c = λ items other valid code same next.
    let p = c.args.place.now in
    from_slot p (λ q. times q items) (times_on p items valid) (program_clock p items valid code) other same next
