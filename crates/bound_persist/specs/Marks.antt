-- For proofs. Functions are marked from the entry downwards, since each calls those of lesser number.
use Rattle.std.specs.Prelude.{◌≡◌, ℕ, ◌<◌, ◌≤◌, ◌==◌, Bool, true, false, List, length, slice_index_or}
use Rattle.sp_shape.specs.Parts.{PlainParts, no_part}
use Rattle.cycle_bound.specs.Calls.{CallsBelow}
use Rattle.bound_persist.specs.Reached.{parts_reach, reaches}

-- whether a function is marked
abbrev pub is_marked : List Bool → ℕ → Bool
is_marked set k = slice_index_or set k false

-- each function calls those of lesser number
abbrev pub HaveBelow : List PlainParts → Type 0
HaveBelow fs = (k : ℕ) → k < length fs → CallsBelow k (slice_index_or fs k no_part)

-- the entry is marked; what is marked is reached; and what one that is marked
-- calls is marked, of those from a number on
pub record AreMarks (fs : List PlainParts) (entry from : ℕ) (set : List Bool) : Type 0 where
  pub first : is_marked set entry ≡ true
  pub sound : (j : ℕ) → is_marked set j ≡ true → reaches fs j (length fs) entry ≡ true
  pub closed : (k : ℕ) → from ≤ k → k < length fs → is_marked set k ≡ true → (j : ℕ)
      → parts_reach (λ i. i == j) (slice_index_or fs k no_part) ≡ true → is_marked set j ≡ true
