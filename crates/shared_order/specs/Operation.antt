-- To be believed. Operations of the cores on shared words. In the terms of conservative parallel discrete-event
-- simulation they are the events that one logical process has in common with the others; all else
-- that a core does is its own affair. Every word that more than one core can reach counts as
-- shared here, the communication memories of the network included.
use Rattle.std.specs.Prelude.{ℕ, ◌%◌, true, false, List, [], ◌∷◌, ◌==◌, filter}
use Rattle.shared_order.specs.declared.operation.Operation.{Operation}

-- at this stamp, the word is loaded and has this value
abbrev pub load : ℕ → ℕ → ℕ → Operation
load stamp word value =
    record { stamp = stamp; act = record { word = word; write = false; value = value } }

-- at this stamp, the value is stored in the word
abbrev pub store : ℕ → ℕ → ℕ → Operation
store stamp word value =
    record { stamp = stamp; act = record { word = word; write = true; value = value } }

-- the values that the loads among the operations gave, in their order
abbrev pub loads : List Operation → List ℕ
loads [] = []
loads (o ∷ os) = elim o.act.write [ true ↦ loads os | false ↦ o.act.value ∷ loads os ]

-- the operations of a core, of n cores: a stamp's remainder by their number is the core that acts
abbrev pub operations_of : ℕ → ℕ → List Operation → List Operation
operations_of n core os = filter (λ o. o.stamp % n == core) os

-- what the core asks for by the operation, before it knows what a load gives
abbrev pub asking : Operation → Operation
asking o = elim o.act.write [ true ↦ o | false ↦ load o.stamp o.act.word 0 ]
