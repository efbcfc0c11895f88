use Rattle.std.proofs.Common.{ap, ◌∙◌, rules}
use Rattle.patmos_model.specs.Begin.{begun}
use Rattle.job_tasks.specs.Sites.{site_on}
use Rattle.job_rows.proofs.loading.begun_on.Goals as goal

pub returns-clause-core : goal.returns-clause-core
returns-clause-core c =
    ap (λ site. begun site c.of-input.result) (c.place_of.ensures.site c.args.image)
    ∙ ap (begun (site_on c.args.job.now c.args.core c.args.task.now.start c.args.image)) (search rules)

pub returns-clause-placed : goal.returns-clause-placed
returns-clause-placed c = record {
  cores = c.place_of.ensures.cores;
  core = c.place_of.ensures.core;
  slot = c.place_of.ensures.slot;
  table = c.place_of.ensures.table;
}
