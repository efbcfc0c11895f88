use Rattle.tc_word.proofs.Items.{zero_at}
use Rattle.code_text.proofs.Adding.{formed_in, runs_made}
use Rattle.code_text.proofs.tallies.runs_from.Goals as goal

pub cycles_of_functions-requires-clause-formed : goal.cycles_of_functions-requires-clause-formed
cycles_of_functions-requires-clause-formed g c =
    formed_in c.args.shape.now c.as_slice-functions.result.now c.as_slice-functions.ensures c.requires.formed

pub cycles_of_functions-requires-2-clause-formed : goal.cycles_of_functions-requires-2-clause-formed
cycles_of_functions-requires-2-clause-formed g c =
    formed_in c.args.shape.now c.as_slice-functions.result.now c.as_slice-functions.ensures c.requires.formed

pub returns-clause-runs : goal.returns-clause-runs
returns-clause-runs g c =
    runs_made _ c.as_slice-functions.result.now c.as_slice-functions.ensures c.requires.formed c.requires.fits
    c.requires.least c.requires.most
    (c.cycles_of_functions.ensures.known (λ _. 0) (λ k less. zero_at 512 k))
    (c.cycles_of_functions-2.ensures.known _ c.fills_of_functions-fills.ensures.fills)
