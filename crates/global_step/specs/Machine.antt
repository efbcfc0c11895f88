-- To be believed. The machine of all cores, cycle by cycle (Schoeberl et al., T-CREST, 2015; the order within
-- a cycle is our own profile TP1's). What its cycles and the order of its operations are stands in
-- shared_order, and what a core does in a cycle in patmos_model.
use Rattle.std.specs.Prelude.{ℕ, List, [], length, None, Some, slice_get}
use Rattle.shared_order.specs.declared.operation.Operation.{Operation}
use Rattle.shared_order.specs.Operation.{operations_of as operations_among}
use Rattle.shared_order.specs.Machine.{State, cycled}
use Rattle.patmos_model.specs.declared.state.CoreState.{CoreState}
use Rattle.patmos_model.specs.State.{Core}
use Rattle.patmos_model.specs.Begin.{begun, idle, no_code}
use Rattle.patmos_model.specs.Cycle.{turn}
use Rattle.patmos_model.specs.Apart.{site_of}
use Rattle.patmos_model.specs.Outcome.{state_at}
use Rattle.global_step.specs.declared.loaded.LoadedCore.{LoadedCore}
use Rattle.global_step.specs.Loaded.{Machine}

-- a core before the first cycle
abbrev pub first_core : LoadedCore → Core
first_core c = elim c.image [
  | None ↦ idle (site_of c.place no_code)
  | Some image ↦ begun (site_of c.place image) c.input
]

-- the core with a number; where there is none, one that does nothing
abbrev pub core_among : List LoadedCore → ℕ → Core
core_among cores k = elim (slice_get cores k) [
  | None ↦ idle (record { cores = 1; core = 0; slot = 0; table = []; start = 0; image = no_code })
  | Some c ↦ first_core c
]

-- the machine after the cycles 0 to t - 1
unfoldable pub machine : Machine → ℕ → State Core
machine m t = cycled turn (length m.cores) (core_among m.cores) t

-- the machine at its limit, from which on nothing changes
abbrev pub at_limit : Machine → State Core
at_limit m = machine m m.limit

-- how far a core has come there
abbrev pub outcome_of : Machine → ℕ → CoreState
outcome_of m core = state_at m.limit ((at_limit m).cores core).plain

-- every load and store of a shared or a communication word, in the order of stamps, and those of one
-- core
abbrev pub all_operations : Machine → List Operation
all_operations m = (at_limit m).made

abbrev pub operations_of : Machine → ℕ → List Operation
operations_of m core = operations_among (length m.cores) core (all_operations m)
