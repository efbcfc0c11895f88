-- To be believed. What a C program becomes, and how long that takes on a core. What it becomes depends on the program
-- alone, its times and its bound on the program and the core's place.
use Rattle.std.specs.Prelude.{ℕ, ◌^◌, ◌<◌, List}
use Rattle.slot_arbiter.specs.declared.place.Place.{Place}
use Rattle.c_tree.specs.Plain.{PlainItem}
use Rattle.patmos_code.specs.Images.{Parts}
use Rattle.core_pace.specs.Times.{Times}
use Rattle.sp_tree.specs.Statements.{PlainUnit}
use Rattle.sp_shape.specs.Parts.{PlainShape}
use Rattle.single_path.specs.Single.{single}
use Rattle.sp_emit.specs.Functions as emit
use Rattle.bundle_sched.specs.Scheduled as schedule
use Rattle.tc_link.specs.Placed.{linked}
use Rattle.cycle_bound.specs.Gap.{place_bound}
use Rattle.bound_persist.specs.Persist.{place_persist}
use Rattle.task_core.specs.Tasks.{times_of}

-- its single-path tree, the code of that, the same scheduled, and the words of that
pub record Translation : Type 0 where
  pub tree : PlainUnit
  pub emitted : PlainShape
  pub scheduled : PlainShape
  pub image : Parts

abbrev pub translation : List PlainItem → Translation
translation items = record {
  tree = single items;
  emitted = emit.emitted (single items);
  scheduled = schedule.scheduled (emit.emitted (single items));
  image = linked (schedule.scheduled (emit.emitted (single items)));
}

-- its transactions and its end, which are those of the run with an empty input in which nothing is read
abbrev pub times : Place → List PlainItem → Times
times place items = times_of (translation items).tree place

-- how many cycles it takes at most, on a core under a slot table with slots of so many cycles
abbrev pub bound_on : List ℕ → ℕ → ℕ → List PlainItem → ℕ
bound_on table slot core items = place_bound table slot core (translation items).scheduled

abbrev pub bound : Place → List PlainItem → ℕ
bound place items = bound_on place.table place.slot place.core items

-- and by what stays in the method cache
abbrev pub persist_on : List ℕ → ℕ → ℕ → List PlainItem → ℕ
persist_on table slot core items = place_persist table slot core (translation items).scheduled

abbrev pub persist : Place → List PlainItem → ℕ
persist place items = persist_on place.table place.slot place.core items

-- the words that cores share and those of communication memory, as a task may find them
abbrev pub IsWorld : (ℕ → ℕ) → Type 0
IsWorld world = (word : ℕ) → world word < 2 ^ 32
