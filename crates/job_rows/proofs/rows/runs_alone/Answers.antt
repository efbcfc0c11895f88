use Rattle.std.proofs.Common.{◌≡◌, ap, ◌∙◌}
use Rattle.c_mentions.specs.Alone.{is_alone}
use Rattle.job_rows.proofs.RowsFound.{same_running}
use Rattle.job_rows.proofs.rows.runs_alone.Goals as goal

pub returns : goal.returns
returns c = c.is_alone.ensures ∙ ap (is_alone c.args.number) (same_running c.args.all.now)
