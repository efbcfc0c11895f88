-- To be believed. What a store becomes when its private memory was lent.
use Rattle.std.specs.Prelude.{ℕ, List}
use Rattle.std.specs.Borrow.{Lends, MutBor, Fml, Array, u32}
use Rattle.local_store.specs.Memory.{Memory, refilled}
use Rattle.local_store.specs.contracts.store.Store.{the_row}

-- the memories with these private words
abbrev pub with_private : Memory → List ℕ → Memory
with_private m words = record m { private = refilled m.private words }

-- the store ends with the private words that are last after the reference, and its scratchpad as it was
abbrev pub LendsPrivate : MutBor Memory → MutBor (List ℕ) → Fml
LendsPrivate store words = Lends the_row (Array u32 0) store words (with_private store.now)
