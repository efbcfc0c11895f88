-- What is told of a compiled task apart is told of it in a machine.
use Rattle.std.proofs.Common.{ℕ, ◌≤◌, List, subst}
use Rattle.slot_arbiter.specs.declared.place.Place.{Place}
use Rattle.shared_order.specs.declared.operation.Operation.{Operation}
use Rattle.shared_order.specs.Apart.{Alone}
use Rattle.shared_order.specs.Machine.{State, cycled}
use Rattle.shared_order.specs.Words.{Sees}
use Rattle.patmos_model.specs.Cycle.{turn}
use Rattle.patmos_model.specs.State.{Core}
use Rattle.sp_tree.specs.Statements.{PlainUnit}
use Rattle.tc_link.specs.Placed.{linked}
use Rattle.task_core.specs.Tasks.{code_of, times_of}
use Rattle.task_words.specs.Meant.{HasMeaning, HasWorld}
use Rattle.task_words.proofs.AtLimit.{comes_at}
use Rattle.task_machine.specs.Machines.{HasTask}
use Rattle.task_machine.specs.Reported.{read_by, task_operations, HasTimes}
use Rattle.task_machine.proofs.Alone.{slotted, given_there}
use Rattle.task_machine.proofs.Cores.{with_image}
use Rattle.task_machine.proofs.Running.{times_at}

module _ (u : PlainUnit) (place : Place) (input : List ℕ) (words : ℕ) (cores : ℕ → Core) (cycles : ℕ)
    (t : HasTask u place input words cores cycles) where
  abbrev m : State Core
  m = cycled turn place.cores cores cycles

  pub times_there : HasTimes u place cycles (m.cores place.core)
  times_there =
      subst (λ (a : Alone Core). HasTimes u place cycles a.core) (with_image place cores cycles place.in_range.among
      (linked (code_of u)) input t.begins)
      (times_at u place t.runs t.code (slotted place (linked (code_of u))) place.in_range.among input
      (read_by place.cores place.core m) (given_there words cores cycles t.fits place input t.given t.room) cycles)

  pub meaning_there : (world : ℕ → ℕ) → HasWorld u place input world → (times_of u place).end ≤ cycles
      → Sees world (task_operations u place input m cycles)
      → HasMeaning u place input world cycles (task_operations u place input m cycles) (m.cores place.core)
  meaning_there world holds enough so =
      let own : List Operation = task_operations u place input m cycles in
      subst (λ (a : Alone Core). HasMeaning u place input world cycles own a.core)
      (with_image place cores cycles place.in_range.among (linked (code_of u)) input t.begins)
      (comes_at u place input world t.runs t.code holds (slotted place (linked (code_of u))) place.in_range.among
      (read_by place.cores place.core m) (given_there words cores cycles t.fits place input t.given t.room)
      cycles enough so)
