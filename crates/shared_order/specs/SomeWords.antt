-- To be believed. What operations do to some words.
use Rattle.std.specs.Prelude.{◌≡◌, ℕ, Bool, true, false, List, [], ◌∷◌}
use Rattle.shared_order.specs.Words.{written}
use Rattle.shared_order.specs.declared.operation.Operation.{Operation}

-- which words, by a test
abbrev pub IsSome : (ℕ → Bool) → ℕ → Type 0
IsSome among word = among word ≡ true

-- the operation, if it is a load, is one of such a word; if it is a store, is one in such a word
abbrev pub LoadsOnly : (ℕ → Type 0) → Operation → Type 0
LoadsOnly W o = o.act.write ≡ false → W o.act.word

abbrev pub StoresOnly : (ℕ → Type 0) → Operation → Type 0
StoresOnly W o = o.act.write ≡ true → W o.act.word

-- not one of these words
abbrev pub Outside : (ℕ → Type 0) → ℕ → Type 0
Outside W word = W word → ⊥

-- each load of such a word has what its word has then, where the words are these at first
abbrev pub SeesOn : (ℕ → Type 0) → (ℕ → ℕ) → List Operation → Type 0
SeesOn W words [] = Unit {0}
SeesOn W words (o ∷ os) =
    (o.act.write ≡ false → W o.act.word → o.act.value ≡ words o.act.word) × SeesOn W (written o words) os
