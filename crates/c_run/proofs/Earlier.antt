-- Functions of which each calls the earlier ones.
use Rattle.std.proofs.Common.{◌≡◌, ℕ, zero, suc, ◌+◌, ◌<◌, ◌≤◌, ◌==◌, if◌then◌else◌, List, [], ◌∷◌, length, take, slice_index_or, refl, ap, ap₂, ◌∙◌, arith}
use Rattle.std.proofs.lemmas.List.{length-take-le}
use Rattle.c_meaning.specs.declared.actions.Routine.{Routine}
use Rattle.c_meaning.specs.Actions.{PlainActions, no_action}
use Rattle.c_meaning.specs.Resolved.{serves, routine_outcome}
use Rattle.c_meaning.specs.Shown.{bodies_of}
use Rattle.c_run.specs.Ran.{served_by}
use Rattle.c_meaning.specs.Sizes.{actions_size}
use Rattle.c_run.specs.Sizes.{total}

earlier_body : (rs : List Routine) (n k : ℕ) → k < n → slice_index_or (bodies_of (take n rs)) k no_action
    ≡ slice_index_or (bodies_of rs) k no_action
earlier_body rs zero k below = absurd (omega arith)
earlier_body [] (suc n) k below = refl
earlier_body (r ∷ rs) (suc n) zero below = refl
earlier_body (r ∷ rs) (suc n) (suc k) below = earlier_body rs n k (omega arith)

same_serves : (fs gs : List PlainActions) (n : ℕ) → ((k : ℕ) → k < n → slice_index_or fs k no_action
    ≡ slice_index_or gs k no_action)
    → serves fs n ≡ serves gs n
same_serves fs gs zero same = refl
same_serves fs gs (suc n) same =
    let before : serves fs n ≡ serves gs n = same_serves fs gs n (λ k below. same k (omega arith)) in
    let here : slice_index_or fs n no_action ≡ slice_index_or gs n no_action = same n (omega arith) in
    λ i k args world. if k == n then routine_outcome (before i) (here i) args world else before i k args world

same_total : (fs gs : List PlainActions) (n : ℕ) → ((k : ℕ) → k < n → slice_index_or fs k no_action
    ≡ slice_index_or gs k no_action)
    → total fs n ≡ total gs n
same_total fs gs zero same = refl
same_total fs gs (suc n) same =
    ap₂ (λ x y. x + actions_size y) (same_total fs gs n (λ k below. same k (omega arith))) (same n (omega arith))

pub earlier_serve : (rs : List Routine) (k : ℕ) → k ≤ length rs → served_by (take k rs) ≡ serves (bodies_of rs) k
earlier_serve rs k within =
    ap (serves (bodies_of (take k rs))) (length-take-le k rs within)
    ∙ same_serves (bodies_of (take k rs)) (bodies_of rs) k (λ i below. earlier_body rs k i below)

pub earlier_total : (rs : List Routine) (k : ℕ) → k ≤ length rs → total (bodies_of (take k rs)) (length (take k rs))
    ≡ total (bodies_of rs) k
earlier_total rs k within =
    ap (total (bodies_of (take k rs))) (length-take-le k rs within)
    ∙ same_total (bodies_of (take k rs)) (bodies_of rs) k (λ i below. earlier_body rs k i below)
