use Rattle.std.proofs.Common.{◌∙◌, ap, length}
use Rattle.cycle_bound.specs.Held.{held}
use Rattle.code_text.specs.Runs.{shape_of}
use Rattle.code_text.specs.Tally.{run_bundles, run_moves}
use Rattle.code_text.proofs.Adding.{runs_add}
use Rattle.code_text.proofs.tallies.function_tally.Goals as goal

pub returns : goal.returns
returns c =
    let runs = c.args.runs.now in
    let fs = (shape_of runs).functions in
    c.tally_of.ensures (run_bundles fs (length fs) c.args.function) (run_moves fs (length fs) c.args.function)
    (c.requires.runs.bundles c.args.function c.requires.within)
    (c.requires.runs.cycles c.args.function c.requires.within
    ∙ ap held (runs_add fs runs.each (length fs) c.args.function))
