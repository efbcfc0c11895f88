-- To be believed. What is known of tasks that are made.
use Rattle.std.specs.Prelude.{◌≡◌, ℕ, ◌≤◌, List, Option, IfSome, slice_get}
use Rattle.std.specs.List.{AllByRecursion as Each}
use Rattle.slot_arbiter.specs.declared.place.TheConstants.{LATEST_START}
use Rattle.c_tree.specs.Valid.{IsValid}
use Rattle.c_task.specs.Translation.{bound_on, persist_on, translation}
use Rattle.patmos_code.specs.Images.{Parts}
use Rattle.patmos_model.specs.Range.{HasCode, IsWord}
use Rattle.single_path.specs.Single.{single}
use Rattle.task_core.specs.Tasks.{IsCode}
use Rattle.tc_job.specs.declared.job.Job.{Job}
use Rattle.job_tasks.specs.Tasks.{Bounded, Coded}

-- a program that was compiled for a core
pub record IsCompiled (job : Job) (core : ℕ) (image : Parts) (p : Bounded) : Type 0 where
  pub valid : IsValid p.items job.cores core
  pub code : IsCode (single p.items)
  pub image_is : image ≡ (translation p.items).image
  pub bound : p.bound ≡ bound_on job.table job.slot core p.items
  pub persist : p.persist ≡ persist_on job.table job.slot core p.items

-- a core's task is of that core, its input and its image are words, and its program was compiled for it
pub record IsMadeFor (job : Job) (core : ℕ) (c : Coded) : Type 0 where
  pub core_is : c.task.core ≡ core
  pub start : c.task.start ≤ LATEST_START
  pub given : Each IsWord c.task.input
  pub code : HasCode c.made.image
  pub initial : Each IsWord c.made.image.initial
  pub compiled : IfSome c.made.program (IsCompiled job core c.made.image)

abbrev pub IsMadeOn : Job → ℕ → Option Coded → Type 0
IsMadeOn job core c = IfSome c (IsMadeFor job core)

abbrev pub AreMade : Job → List (Option Coded) → Type 0
AreMade job coded = (core : ℕ) → IfSome (slice_get coded core) (IsMadeOn job core)
