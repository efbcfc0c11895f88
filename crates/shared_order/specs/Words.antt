-- To be believed. Shared words and what operations make of them. A memory is a function from the numbers of its
-- words to their values.
use Rattle.std.specs.Prelude.{◌≡◌, ◌≢◌, ℕ, true, false, ◌&&◌, cond, List, [], ◌∷◌, ◌++◌, ◌==◌}
use Rattle.shared_order.specs.declared.operation.Operation.{Operation}

-- the function with y at x, and elsewhere as it is
abbrev pub put : {Y : Type 0} → ℕ → Y → (ℕ → Y) → ℕ → Y
put x y f u = cond (x == u) y (f u)

-- the words after one operation: a load leaves them
abbrev pub written : Operation → (ℕ → ℕ) → ℕ → ℕ
written o words = elim o.act.write [ true ↦ put o.act.word o.act.value words | false ↦ words ]

-- the words after the operations
abbrev pub after : List Operation → (ℕ → ℕ) → ℕ → ℕ
after [] words = words
after (o ∷ os) words = after os (written o words)

-- the words that a machine begins with
abbrev pub zeros : ℕ → ℕ
zeros word = 0

-- what was stored last in the word by the operations, or `begun` where none of them stores in it
abbrev pub stored_last : ℕ → List Operation → ℕ → ℕ
stored_last word [] begun = begun
stored_last word (o ∷ os) begun =
    stored_last word os (cond (o.act.write && (o.act.word == word)) o.act.value begun)

-- the operation is no store in the word
abbrev pub LeavesWord : ℕ → Operation → Type 0
LeavesWord word o = o.act.write ≡ true → o.act.word ≢ word

-- each load has what its word has then, where the words are these at first: what was stored last there, else what stood
-- there before
abbrev pub Sees : (ℕ → ℕ) → List Operation → Type 0
Sees words [] = Unit {0}
Sees words (o ∷ os) = (o.act.write ≡ false → o.act.value ≡ words o.act.word) × Sees (written o words) os

-- after the operations `before`, each load among the operations has what was stored last in its
-- word before it, or 0 where nothing was
abbrev pub Reads : List Operation → List Operation → Type 0
Reads before [] = Unit {0}
Reads before (o ∷ os) =
    (o.act.write ≡ false → o.act.value ≡ stored_last o.act.word before 0)
    × Reads (before ++ o ∷ []) os
