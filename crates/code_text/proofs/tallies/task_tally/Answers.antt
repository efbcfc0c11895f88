use Rattle.std.proofs.Common.{◌∙◌, ap}
use Rattle.cycle_bound.specs.Bound.{bounds, fill_bound}
use Rattle.cycle_bound.specs.Held.{held}
use Rattle.cycle_bound.proofs.Earlier.{shape_parts}
use Rattle.cycle_bound.proofs.Holding.{held_sum}
use Rattle.code_text.specs.Runs.{count_of, shape_of}
use Rattle.code_text.specs.Tally.{task_bundles, task_moves}
use Rattle.code_text.proofs.Adding.{tasks_add}
use Rattle.code_text.proofs.tallies.task_tally.Goals as goal

pub returns : goal.returns
returns c =
    let runs = c.args.runs.now in
    let s = shape_of runs in
    let below = (shape_parts s c.requires.runs.formed).entry in
    c.tally_of.ensures (task_bundles s) (task_moves s) (c.requires.runs.bundles s.entry below)
    (held_sum c.plus-cycles.result _ _ (fill_bound runs.each s.functions s.entry) (bounds s.functions runs.each
    (fill_bound runs.each s.functions) (count_of runs) s.entry)
    c.plus-cycles.ensures (c.requires.runs.fills s.entry below) (c.requires.runs.cycles s.entry below)
    ∙ ap held (tasks_add runs.each s))
