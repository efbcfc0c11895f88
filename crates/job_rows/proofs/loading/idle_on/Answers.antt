use Rattle.std.proofs.Common.{ap}
use Rattle.patmos_model.specs.Begin.{idle, no_code}
use Rattle.job_rows.proofs.loading.idle_on.Goals as goal

pub returns-clause-core : goal.returns-clause-core
returns-clause-core c = ap idle (c.place_of.ensures.site no_code)

pub returns-clause-placed : goal.returns-clause-placed
returns-clause-placed c = record {
  cores = c.place_of.ensures.cores;
  core = c.place_of.ensures.core;
  slot = c.place_of.ensures.slot;
  table = c.place_of.ensures.table;
}
