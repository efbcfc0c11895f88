-- The least of two lists of faults, one after the other, and of none.
use Rattle.std.proofs.Common.{◌≡◌, true, false, List, [], ◌∷◌, ◌++◌, Option, None, Some, refl, subst}
use Rattle.std.specs.Prelude.{IsTrue, IsSome, if◌then◌else◌}
use Rattle.c_tree.specs.declared.checks.Fault.{Fault}
use Rattle.c_tree.specs.Least.{is_before, least_of, least_with, lesser}
use Rattle.c_tree.specs.Valid.{has_none}

pub least_of_both : (least : Option Fault) (xs ys : List Fault) → least_with least (xs ++ ys)
    ≡ least_with (least_with least xs) ys
least_of_both least [] ys = refl
least_of_both least (x ∷ xs) ys = least_of_both (lesser least x) xs ys

-- a least fault of something is some fault
lesser_some : (least : Option Fault) (f : Fault) → IsSome (lesser least f)
lesser_some None f = refl
lesser_some (Some least) f =
    elim (is_before f least) as (λ b. IsSome (if b then Some f else Some least)) [ true ↦ refl | false ↦ refl ]

still_some : (least : Option Fault) (faults : List Fault) → IsSome least → IsSome (least_with least faults)
still_some least [] h = h
still_some least (f ∷ faults) h = still_some (lesser least f) faults (lesser_some least f)

-- without a least fault there is none
pub none_least : (faults : List Fault) → least_of faults ≡ None → IsTrue (has_none faults)
none_least [] h = refl
none_least (f ∷ faults) h = subst IsSome h (still_some (Some f) faults refl)
