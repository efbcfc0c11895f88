-- To be believed. Where the cores of a job stand.
use Rattle.std.specs.Prelude.{ℕ}
use Rattle.patmos_code.specs.Images.{Parts}
use Rattle.patmos_model.specs.Site.{Site}
use Rattle.tc_job.specs.declared.job.Job.{Job}

-- where a core stands on the platform, the cycle at which its task starts, and the task's image
abbrev pub site_on : Job → ℕ → ℕ → Parts → Site
site_on job core start image = record {
  cores = job.cores;
  core = core;
  slot = job.slot;
  table = job.table;
  start = start;
  image = image;
}
