use Rattle.tc_word.proofs.Items.{zero_at}
use Rattle.bound_persist.proofs.shapes.run_of_function.Goals as goal

pub returns-clause-run : goal.returns-clause-run
returns-clause-run g c = (c.cycles_of_functions-known.ensures.known (λ _. 0) (λ k less. zero_at 512 k)).bounds
    c.args.number c.requires.number
