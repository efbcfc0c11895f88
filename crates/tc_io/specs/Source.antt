-- To be believed. What reading does to the bytes that a source has left, where it
-- tells them, and to its count of faults.
use Rattle.std.specs.Prelude.{◌≡◌, ℕ, ◌<◌, ◌≤◌, List, [], ◌++◌, length, take, Option, Some, None, Result, IfOk, OnErr}
use Rattle.tc_io.specs.Faults.{Rose}

-- the bytes left before are those that came and then those left after; a source that tells its bytes goes on telling
abbrev pub Gave : Option (List ℕ) → Option (List ℕ) → List ℕ → Type 0
Gave None after came = Unit {0}
Gave (Some before) None came = ⊥
Gave (Some before) (Some after) came = before ≡ came ++ after

-- no byte is left, where the source tells
abbrev pub IsSpent : Option (List ℕ) → Type 0
IsSpent None = Unit {0}
IsSpent (Some bytes) = bytes ≡ []

-- one call of `read` that left `buffer` and answered `result`: a fault only where the count rose, and then no byte
-- came; else so many first bytes of the buffer came, and none into a buffer with room only at the end of the input
pub record IsRead {E : Type 0} (faults faults' : ℕ) (left left' : Option (List ℕ)) (buffer : List ℕ) (result : Result ℕ E) : Type 0 where
  pub later : faults ≤ faults'
  pub cause : OnErr result (Rose faults faults')
  pub nothing : OnErr result (Gave left left' [])
  pub within : IfOk result (λ n. n ≤ length buffer)
  pub gave : IfOk result (λ n. Gave left left' (take n buffer))
  pub at_end : IfOk result (λ n. n ≡ 0 → 0 < length buffer → IsSpent left')
