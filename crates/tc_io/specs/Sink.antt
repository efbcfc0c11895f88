-- To be believed. What writing does to the bytes that a sink has taken, where it
-- tells them, and to its count of faults.
use Rattle.std.specs.Prelude.{◌≡◌, ℕ, ◌<◌, ◌≤◌, List, [], ◌++◌, length, take, Option, Some, None, Result, IfOk, OnErr}
use Rattle.tc_io.specs.Faults.{Rose}

-- the bytes taken after are those taken before and then `piece`; a sink may stop telling its bytes, and does not begin
abbrev pub Took : Option (List ℕ) → Option (List ℕ) → List ℕ → Type 0
Took before None piece = Unit {0}
Took None (Some after) piece = ⊥
Took (Some before) (Some after) piece = after ≡ before ++ piece

-- one call of `write` with `piece` that answered `result`: a fault only where the count rose, and then no byte of the
-- piece was taken; else so many first bytes of it were taken, and at least one of a piece that is not empty
pub record IsWritten {E : Type 0} (faults faults' : ℕ) (taken taken' : Option (List ℕ)) (piece : List ℕ) (result : Result ℕ E) : Type 0 where
  pub later : faults ≤ faults'
  pub cause : OnErr result (Rose faults faults')
  pub nothing : OnErr result (Took taken taken' [])
  pub within : IfOk result (λ n. n ≤ length piece)
  pub some : IfOk result (λ n. 0 < length piece → 0 < n)
  pub took : IfOk result (λ n. Took taken taken' (take n piece))
