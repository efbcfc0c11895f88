-- A place with a job's numbers is where the job's core stands.
use Rattle.std.proofs.Common.{◌≡◌, ℕ}
use Rattle.slot_arbiter.specs.declared.place.Place.{Place}
use Rattle.slot_arbiter.specs.Place.HasNumbers.{HasNumbers}
use Rattle.patmos_code.specs.Images.{Parts}
use Rattle.patmos_model.specs.Apart.{site_of}
use Rattle.tc_job.specs.declared.job.Job.{Job}
use Rattle.job_tasks.specs.Sites.{site_on}

pub same_site : (job : Job) (core start : ℕ) (place : Place) (image : Parts)
    → HasNumbers place job.cores core job.slot start → place.table ≡ job.table
    → site_of place image ≡ site_on job core start image
same_site job core start place image h table = λ i. record {
  cores = h.cores_are i;
  core = h.core_is i;
  slot = h.slot_is i;
  table = table i;
  start = h.start_is i;
  image = image;
}
