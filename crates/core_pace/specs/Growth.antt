-- To be believed. How a run grows: what it has made stays, and a task that has ended or was stopped stays as it is.
use Rattle.std.specs.Prelude.{◌≡◌, ℕ, nat_lt, List, ◌++◌, filter}
use Rattle.slot_arbiter.specs.declared.event.Access.{Access}
use Rattle.patmos_model.specs.State.{Core}
use Rattle.patmos_model.specs.Cycle.{with_interface}

-- the transactions below a cycle
abbrev pub below : ℕ → List Access → List Access
below cycle accesses = filter (λ a. nat_lt a.cycle cycle) accesses

-- the cores are one but for their interfaces
abbrev pub IsSameTask : Core → Core → Type 0
IsSameTask c d = d ≡ with_interface c d.plain.interface

-- the list begins with the other
abbrev pub BeginsWith : {A : Type 0} → List A → List A → Type 0
BeginsWith {A} all first = (more : List A) × (all ≡ first ++ more)
