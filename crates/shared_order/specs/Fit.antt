-- To be believed. Ranges: a program that names only words of the board and stores only words of 32 bits.
use Rattle.std.specs.Prelude.{ℕ, ◌<◌, ◌≤◌, ◌^◌, List}
use Rattle.std.specs.List.{AllByRecursion as Each}
use Rattle.shared_order.specs.declared.operation.Operation.{Operation}
use Rattle.shared_order.specs.Program.{Prog, done, get, set}

-- values of 32 bits
abbrev pub AreWords : List ℕ → Type 0
AreWords values = Each (λ v. v < 2 ^ 32) values

-- the program loads and stores words below `words` alone, stores 32 bits, and leaves what is good
-- where its loads give 32 bits
abbrev pub IsFit : {X : Type 0} → (X → Type 0) → ℕ → Prog X → Type 0
IsFit Good words (done x) = Good x
IsFit Good words (get word go_on) =
    (word < words) × ((value : ℕ) → value < 2 ^ 32 → IsFit Good words (go_on value))
IsFit Good words (set word value rest) = (word < words) × (value < 2 ^ 32) × IsFit Good words rest

-- each turn of a good core is fit and leaves a good core
abbrev pub KeepsRanges : {X : Type 0} → (ℕ → ℕ → X → Prog X) → (X → Type 0) → ℕ → Type 0
KeepsRanges {X} turn Good words =
    (phase cycle : ℕ) (x : X) → phase ≤ 1 → Good x → IsFit Good words (turn phase cycle x)

-- the operation has a word below `words`, a value of 32 bits and a stamp of 64
pub record Fits (words : ℕ) (o : Operation) : Type 0 where
  pub word : o.act.word < words
  pub value : o.act.value < 2 ^ 32
  pub stamp : o.stamp < 2 ^ 64
