-- To be believed. A machine that is loaded, against the one that a job asks for.
use Rattle.std.specs.Prelude.{◌≡◌, ℕ, List, length, map}
use Rattle.patmos_model.specs.State.{Core}
use Rattle.global_step.specs.declared.loaded.LoadedCore.{LoadedCore}
use Rattle.global_step.specs.Loaded.{Machine}
use Rattle.global_step.specs.Machine.{first_core}
use Rattle.tc_job.specs.declared.job.Job.{Job}

-- the core is loaded at the place of this number on the job's platform
pub record IsPlaced (job : Job) (k : ℕ) (l : LoadedCore) : Type 0 where
  pub cores : l.place.cores ≡ job.cores
  pub core : l.place.core ≡ k
  pub slot : l.place.slot ≡ job.slot
  pub table : l.place.table ≡ job.table

-- the machine is loaded with these cores, as many as the job has, and with the job's numbers
pub record IsLoadedFor (job : Job) (xs : List Core) (m : Machine) : Type 0 where
  pub cores : map first_core m.cores ≡ xs
  pub count : length m.cores ≡ job.cores
  pub limit : m.limit ≡ job.cycles
  pub trace : m.trace ≡ job.trace
  pub workers : m.workers ≡ job.workers
