-- To be believed. What an event asks for: what a core does at one stamp, where all of it is known before its loads
-- give their values.
use Rattle.std.specs.Prelude.{◌≡◌, ℕ, true, false, List, [], ◌∷◌, map, take}
use Rattle.slot_arbiter.specs.declared.event.WordOp.{WordOp}
use Rattle.slot_arbiter.specs.declared.event.Event.{Event}
use Rattle.shared_order.specs.declared.operation.Operation.{Operation}
use Rattle.shared_order.specs.Operation.{load, store, asking}
use Rattle.shared_order.specs.Program.{Prog, first, others, fed}

-- the operations at a stamp when the loads give these values, in their order: what stands in the
-- list as a load's own value is not looked at
abbrev pub filled : ℕ → List WordOp → List ℕ → List Operation
filled stamp [] values = []
filled stamp (a ∷ acts) values = elim a.write [
  | true ↦ store stamp a.word a.value ∷ filled stamp acts values
  | false ↦ load stamp a.word (first values) ∷ filled stamp acts (others values)
]

-- what the accesses ask for at a stamp
abbrev pub asks_of : ℕ → List WordOp → List Operation
asks_of stamp acts = map (λ a. asking (record { stamp = stamp; act = a })) acts

-- the operations of the event when its loads give these values
abbrev pub asked_by : Event → List ℕ → List Operation
asked_by e values = filled e.stamp (take e.count e.ops) values

-- at the event's stamp the program asks for what the event has, whatever its loads give
abbrev pub IsAskedBy : {X : Type 0} → Event → Prog X → Type 0
IsAskedBy e p = (values : List ℕ) → (fed e.stamp p values).ops ≡ asked_by e values
