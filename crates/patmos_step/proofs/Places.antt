-- Places of code: where functions start.
use Rattle.std.proofs.Common.{◌≡◌, ℕ, true, false, ◌==◌, List}
use Rattle.std.specs.List.{list_any, Contains}
use Rattle.std.proofs.lemmas.Cmp.{nat_eq_equiv}
use Rattle.std.proofs.lemmas.Map.Views.{list_any-from_Contains, Contains-from_any}
use Rattle.std.proofs.lemmas.Bool.{eqb-true, false_from_ne_true}

pub found_start : (starts : List ℕ) (base : ℕ) → Contains starts base → list_any (λ start. base == start) starts ≡ true
found_start starts base h = list_any-from_Contains nat_eq_equiv base starts h

pub no_start : (starts : List ℕ) (base : ℕ) → (Contains starts base → ⊥) → list_any (λ start. base == start) starts
    ≡ false
no_start starts base none =
    false_from_ne_true (list_any (λ start. base == start) starts)
    (λ found. none (Contains-from_any eqb-true base starts found))
