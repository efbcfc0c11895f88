use Rattle.std.proofs.Common.{◌∙◌}
use Rattle.single_path.proofs.Wide.{iterations_levels}
use Rattle.single_path.proofs.widths.+levels.Goals as goal

pub statement_levels-returns-in-Iterations : goal.statement_levels-returns-in-Iterations
statement_levels-returns-in-Iterations t c =
    c.saturating_add.ensures
    ∙ iterations_levels c.args.t.now c.in-Iterations.count c.in-Iterations.body c.as_slice.result.now
    c.levels_of-inner.result c.in-Iterations.is c.as_slice.ensures c.levels_of-inner.ensures
