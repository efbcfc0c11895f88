-- How the cores of a machine begin.
use Rattle.std.proofs.Common.{◌≡◌, ℕ, List, [], ◌∷◌, length, Some, IfSome, slice_get, refl, subst}
use Rattle.std.proofs.lemmas.Option.{slice_get_within, none-some}
use Rattle.global_step.specs.declared.loaded.LoadedCore.{LoadedCore}
use Rattle.global_step.specs.Loaded.{IsBeside, AreOnePlatform}
use Rattle.global_step.specs.Machine.{first_core, core_among}

-- what is the core among others
pub among_is : (ls : List LoadedCore) (k : ℕ) (l : LoadedCore) → slice_get ls k ≡ Some l
    → core_among ls k ≡ first_core l
among_is ls k l is = rw (is, core_among) refl

-- a core of one platform is at its own place
pub placed : (ls : List LoadedCore) (k : ℕ) (l : LoadedCore) → AreOnePlatform ls → slice_get ls k ≡ Some l
    → (l.place.cores ≡ length ls) × (l.place.core ≡ k)
placed [] k l h is = absurd (none-some l is)
placed (first ∷ others) k l h is =
    let beside : IsBeside (length (first ∷ others)) k first.place l.place =
    subst (λ found. IfSome found (λ c. IsBeside (length (first ∷ others)) k first.place c.place)) is
    (h k (slice_get_within (first ∷ others) k l is)) in
    (beside.cores, beside.core)
