-- To be believed. What is reported of a compiled task in a machine.
use Rattle.std.specs.Prelude.{◌≡◌, ◌⊎◌, ℕ, zero, suc, ◌-◌, ◌<◌, ◌≤◌, List, [], ◌∷◌, ◌++◌}
use Rattle.slot_arbiter.specs.declared.place.Place.{Place}
use Rattle.slot_arbiter.specs.Stamp.{stamp}
use Rattle.shared_order.specs.declared.operation.Operation.{Operation}
use Rattle.shared_order.specs.Operation.{loads, operations_of}
use Rattle.shared_order.specs.Machine.{State}
use Rattle.shared_order.specs.Program.{fed}
use Rattle.patmos_model.specs.Apart.{Followed, after_delivery, followed, injected, own_operations, site_of}
use Rattle.patmos_model.specs.Begin.{begun}
use Rattle.patmos_model.specs.Cycle.{delivered}
use Rattle.patmos_model.specs.Outcome.{state_at}
use Rattle.patmos_model.specs.State.{Core}
use Rattle.patmos_model.specs.declared.state.CoreState.TheVariants.{Done, Running}
use Rattle.core_pace.specs.Growth.{below}
use Rattle.sp_tree.specs.Statements.{PlainUnit}
use Rattle.tc_link.specs.Placed.{linked}
use Rattle.task_core.specs.Tasks.{code_of, times_of}

-- what the loads of a core gave in a machine
abbrev pub read_by : ℕ → ℕ → State Core → List ℕ
read_by n core m = loads (operations_of n core m.made)

-- the operations of the task itself
abbrev pub task_operations : PlainUnit → Place → List ℕ → State Core → ℕ → List Operation
task_operations u place input m cycles =
    own_operations place (linked (code_of u)) input (read_by place.cores place.core m) cycles

-- a core after so many cycles has the times of its task: its accesses below that number, done exactly from its end on
pub record HasTimes (u : PlainUnit) (place : Place) (cycles : ℕ) (c : Core) : Type 0 where
  pub accesses : c.seen.accesses ≡ below cycles (times_of u place).accesses
  pub done : (times_of u place).end ≤ cycles
      → (value : ℕ) × ((flag : ℕ) × (state_at cycles c.plain ≡ Done value flag ((times_of u place).end - place.start)))
  pub running : cycles < (times_of u place).end → state_at cycles c.plain ≡ Running

-- the one list stands in the other, in the same order
abbrev pub IsAmong : List Operation → List Operation → Type 0
IsAmong [] all = Unit {0}
IsAmong (o ∷ os) [] = ⊥
IsAmong (o ∷ os) (a ∷ all) = ((o ≡ a) × IsAmong os all) ⊎ IsAmong (o ∷ os) all

-- ---- a core's operations are its task's and its interface's

-- what the interface of a core that is followed does in a cycle: its deliveries, and then its injection
abbrev pub by_interface_in : ℕ → ℕ → ℕ → Followed → List Operation
by_interface_in n core cycle f =
    (fed (stamp n core cycle 0) (delivered cycle f.run.core) f.run.left).ops
    ++ (fed (stamp n core cycle 1) (injected cycle (after_delivery n core cycle f).run.core)
    (after_delivery n core cycle f).run.left).ops

-- and in so many cycles
abbrev pub by_interface : ℕ → ℕ → Core → List ℕ → ℕ → List Operation
by_interface n core x values zero = []
by_interface n core x values (suc t) =
    by_interface n core x values t ++ by_interface_in n core t (followed n core x values t)

-- the operations of the interface of the task's core
abbrev pub interface_operations : PlainUnit → Place → List ℕ → State Core → ℕ → List Operation
interface_operations u place input m cycles =
    by_interface place.cores place.core (begun (site_of place (linked (code_of u))) input)
    (read_by place.cores place.core m) cycles

-- a list is two others put into one: each of its elements is the next of one of them, and in the end none is left
abbrev pub AreMerged : List Operation → List Operation → List Operation → Type 0
AreMerged ones others [] = (ones ≡ []) × (others ≡ [])
AreMerged ones others (a ∷ all) =
    ((rest : List Operation) × ((ones ≡ a ∷ rest) × AreMerged rest others all))
    ⊎ ((rest : List Operation) × ((others ≡ a ∷ rest) × AreMerged ones rest all))

-- The task's operations are those of its core in what the machine made, without those of the core's interface: all of
-- them, in their order
abbrev pub AreAllItsOwn : PlainUnit → Place → List ℕ → State Core → ℕ → Type 0
AreAllItsOwn u place input m cycles =
    AreMerged (task_operations u place input m cycles) (interface_operations u place input m cycles)
    (operations_of place.cores place.core m.made)
