-- Lemmas about the longest suffix that fits.
use Rattle.std.proofs.Common.{◌≡◌, ◌+◌, ◌≤◌, true, false, ◌&&◌, nat_le, List, [], ◌∷◌, ◌++◌, length, refl, ap, arith, length-append, inl, inr}
use Rattle.std.proofs.lemmas.List.Sums.{sum_by_push}
use Rattle.std.proofs.lemmas.Bool.{cases_Bool}
use Rattle.std.proofs.lemmas.Bool.Decides.{nat_tests}
use Rattle.method_cache.specs.declared.cache.Method.{Method}
use Rattle.method_cache.specs.Residents.{fits, resident, words_of}

pub fits_push : (methods : List Method) (method : Method)
    → fits (methods ++ method ∷ []) ≡ (nat_le (length methods + 1) 16 && nat_le (words_of methods + method.words) 4096)
fits_push methods method =
    rw (length-append methods (method ∷ []), sum_by_push (λ (m : Method). m.words) methods method) refl

-- functions that do not fit do not fit with a further one either
overfull : (methods : List Method) (method : Method) → fits methods ≡ false → fits (methods ++ method ∷ []) ≡ false
overfull methods method full = let e = fits_push methods method in grind (arith, nat_tests, e)

pub resident_keeps : (methods : List Method) → fits methods ≡ true → resident methods ≡ methods
resident_keeps [] all = refl
resident_keeps (oldest ∷ later) all = rw all refl

-- what is in the cache after a further miss depends on what was in it
pub resident_push : (misses : List Method) (method : Method) → resident (misses ++ method ∷ [])
    ≡ resident (resident misses ++ method ∷ [])
resident_push [] method = refl
resident_push (oldest ∷ later) method =
    elim (cases_Bool (fits (oldest ∷ later))) [
      | inl all ↦ rw all refl
      | inr full ↦ rw (overfull (oldest ∷ later) method full, full) (resident_push later method)
    ]

pub suffix : (misses : List Method) → (older : List Method) × (misses ≡ older ++ resident misses)
suffix [] = ([], refl)
suffix (oldest ∷ later) =
    elim (cases_Bool (fits (oldest ∷ later))) [
      | inl all ↦ ([], rw all refl)
      | inr full ↦ (oldest ∷ (suffix later).0, rw full (ap (λ (ms : List Method). oldest ∷ ms) (suffix later).1))
    ]

pub fitting : (misses : List Method) → fits (resident misses) ≡ true
fitting [] = refl
fitting (oldest ∷ later) =
    elim (cases_Bool (fits (oldest ∷ later))) [
      | inl all ↦ rw all all
      | inr full ↦ rw full (fitting later)
    ]

pub longest : (older later : List Method) → fits later ≡ true → length later ≤ length (resident (older ++ later))
longest [] later all = rw (resident_keeps later all) (omega arith)
longest (oldest ∷ older) later all =
    elim (cases_Bool (fits (oldest ∷ (older ++ later)))) [
      | inl whole ↦ rw whole (omega (arith, length-append (oldest ∷ older) later))
      | inr full ↦ rw full (longest older later all)
    ]
