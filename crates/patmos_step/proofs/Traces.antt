-- The trace: the first transactions of a history.
use Rattle.std.proofs.Common.{◌≡◌, ℕ, ◌<◌, ◌≤◌, List, [], ◌∷◌, ◌++◌, length, take, arith, sym, ap, ◌∙◌, length-append}
use Rattle.std.proofs.lemmas.List.{take_all, take-append-le, length-take}

-- with room for one more, all of them stand in the trace, and so does the next
pub trace_grows : {X : Type 0} (trace all : List X) (room : ℕ) (x : X) → trace ≡ take room all → length trace < room
    → trace ++ x ∷ [] ≡ take room (all ++ x ∷ [])
trace_grows trace all room x is short =
    let few : length all < room = omega (arith, ap length is, length-take room all) in
    ap (λ xs. xs ++ x ∷ []) (is ∙ take_all room all (omega arith))
    ∙ sym (take_all room (all ++ x ∷ []) (omega (arith, length-append all (x ∷ []))))

-- with none, the trace stays
pub trace_full : {X : Type 0} (trace all : List X) (room : ℕ) (x : X) → trace ≡ take room all → room ≤ length trace
    → trace ≡ take room (all ++ x ∷ [])
trace_full trace all room x is full =
    is ∙ sym (take-append-le room all (x ∷ []) (omega (arith, ap length is, length-take room all)))
