-- To be believed. What a machine tells of the C task of one of its cores.
use Rattle.std.specs.Prelude.{◌≡◌, ℕ, ◌+◌, ◌<◌, ◌≤◌, true, List}
use Rattle.slot_arbiter.specs.declared.place.Place.{Place}
use Rattle.shared_order.specs.Machine.{State}
use Rattle.shared_order.specs.Words.{zeros, Sees}
use Rattle.c_tree.specs.Plain.{PlainItem}
use Rattle.c_tree.specs.Valid.{IsValid}
use Rattle.c_mentions.specs.Alone.{Running, program, is_alone}
use Rattle.patmos_model.specs.State.{Core}
use Rattle.task_machine.specs.Machines.{BeginsAs, HasTask}
use Rattle.task_machine.specs.Reported.{task_operations, AreAllItsOwn, HasTimes}
use Rattle.c_task.specs.Programs.{HasProgramMeaning, task_of, task_on}
use Rattle.c_task.specs.Translation.{IsWorld, translation, times, bound}

-- a core has a program's task, and each other core the task that is said of it, or one of which nothing is known
pub record HasProgram (items : List PlainItem) (place : Place) (input : List ℕ) (words : ℕ) (cores : ℕ
    → Core) (tasks : List Running) (cycles : ℕ) : Type 0 where
  pub valid : IsValid items place.cores place.core
  pub task : HasTask (translation items).tree place input words cores cycles
  pub said : task_on tasks place.core ≡ program items
  pub begin : (other : ℕ) → other < place.cores
      → BeginsAs place.cores other (cores other) (task_of (task_on tasks other))

-- a world fits a task where each of the task's own loads gives its own last store to that word, else the world's word
abbrev pub FitsWorld : List PlainItem → Place → List ℕ → State Core → ℕ → (ℕ → ℕ) → Type 0
FitsWorld items place input m cycles world = Sees world (task_operations (translation items).tree place input m cycles)

-- the task's own operations, of which `FitsWorld` speaks, are those of its core in what the machine made, without those of
-- the core's interface: all of them, in their order
abbrev pub OwnsOperations : List PlainItem → Place → List ℕ → State Core → ℕ → Type 0
OwnsOperations items place input m cycles = AreAllItsOwn (translation items).tree place input m cycles

-- After so many cycles the core has the program's times, which are within its bound; from their end on it has what the
-- text means from each world that fits; and where the task is alone with its data, the world of zeros does
pub record Tells (items : List PlainItem) (place : Place) (input : List ℕ) (tasks : List Running) (m : State Core) (cycles : ℕ) : Type 0 where
  pub keeps : HasTimes (translation items).tree place cycles (m.cores place.core)
  pub within : (times place items).end ≤ place.start + bound place items
  pub own : OwnsOperations items place input m cycles
  pub meaning : (world : ℕ → ℕ) → IsWorld world → FitsWorld items place input m cycles world
      → (times place items).end ≤ cycles
      → HasProgramMeaning items place input world cycles
      (task_operations (translation items).tree place input m cycles) (m.cores place.core)
  pub alone : is_alone place.core tasks ≡ true → FitsWorld items place input m cycles zeros
