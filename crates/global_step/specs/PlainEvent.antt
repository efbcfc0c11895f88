-- For proofs. An event made on the words of the board.
use Rattle.std.specs.Prelude.{ℕ, true, false, List, [], ◌∷◌, take}
use Rattle.slot_arbiter.specs.declared.event.WordOp.{WordOp}
use Rattle.slot_arbiter.specs.declared.event.Event.{Event}
use Rattle.shared_order.specs.declared.operation.Operation.{Operation}
use Rattle.shared_order.specs.Program.{Prog, done, get, set, played}

-- loads and stores one after another, none of which depends on what another one gives
abbrev pub accesses : List WordOp → Prog (Unit {0})
accesses [] = done tt
accesses (a ∷ acts) = elim a.write [
  | true ↦ set a.word a.value (accesses acts)
  | false ↦ get a.word (λ value. accesses acts)
]

-- the operations of the event on these words: each load gives what its word has then
abbrev pub made_on : Event → (ℕ → ℕ) → List Operation
made_on e words = (played e.stamp (accesses (take e.count e.ops)) words).ops
