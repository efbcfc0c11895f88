-- For proofs. The words of a board that one core alone loads from and stores in.
use Rattle.std.specs.Prelude.{◌≡◌, ℕ, ◌+◌, ◌<◌, List, Option, None, Some, IfSome}
use Rattle.shared_order.specs.Words.{put}
use Rattle.shared_order.specs.Program.{first, others}
use Rattle.patmos_model.specs.declared.pending_store.PendingStore.{PendingStore}
use Rattle.patmos_step.specs.declared.ask.Ask.{Ask}
use Rattle.patmos_step.specs.declared.ask.Ask.TheVariants as asks

-- the values are what the loads that are asked for give, in their order
abbrev pub Hears : Ask → (ℕ → ℕ) → List ℕ → Type 0
Hears asked words values = elim asked [
  | asks.Nothing ↦ Unit {0}
  | asks.Load word ↦ first values ≡ words word
  | asks.Line word ↦ (first values ≡ words word) × (first (others values) ≡ words (word + 1))
      × (first (others (others values)) ≡ words (word + 2))
      × (first (others (others (others values))) ≡ words (word + 3))
  | asks.Store word value ↦ Unit {0}
  | asks.Change word ↦ first values ≡ words word
]

-- the words once what is asked for was stored
abbrev pub stored_by : Ask → (ℕ → ℕ) → ℕ → ℕ
stored_by asked words = elim asked [
  | asks.Nothing ↦ words
  | asks.Load word ↦ words
  | asks.Line word ↦ words
  | asks.Store word value ↦ put word value words
  | asks.Change word ↦ words
]

-- and once a store that is then pending was made
abbrev pub completed : Option PendingStore → (ℕ → ℕ) → ℕ → ℕ
completed pending_store words = elim pending_store [ None ↦ words | Some o ↦ put o.word o.value words ]

-- a pending store is one in the first so many words
abbrev pub CompletesWithin : ℕ → Option PendingStore → Type 0
CompletesWithin words pending_store = IfSome pending_store (λ o. o.word < words)
