-- To be believed. Which functions of a shape are reached: its entry, and each that a function which is reached calls.
use Rattle.std.specs.Prelude.{ℕ, zero, suc, ◌==◌, ◌||◌, ◌&&◌, nat_le, Bool, false, if◌then◌else◌, List, [], ◌∷◌, length, sum_by, slice_index_or}
use Rattle.method_cache.specs.declared.cache.TheConstants.{MOST_METHODS, METHOD_CACHE_WORDS}
use Rattle.sp_shape.specs.Parts.{PlainPart, straight, repeats, calls_to, leaves, PlainParts, no_part, part, PlainShape}
use Rattle.sp_shape.specs.Words.{parts_words}

-- whether parts call a function that passes a test
abbrev mutual
  pub part_reaches : (ℕ → Bool) → PlainPart → Bool
  part_reaches test (straight bs) = false
  part_reaches test (repeats count body tail) = parts_reach test body
  part_reaches test (calls_to k tail) = test k
  part_reaches test (leaves tail) = false

  pub parts_reach : (ℕ → Bool) → PlainParts → Bool
  parts_reach test no_part = false
  parts_reach test (part p rest) = part_reaches test p || parts_reach test rest

-- whether the function `j` is reached from the function `k`, of the first so many: a function reaches itself and what
-- the functions reach that its parts call, and these are earlier ones
abbrev pub reaches : List PlainParts → ℕ → ℕ → ℕ → Bool
reaches fs j zero k = false
reaches fs j (suc n) k =
    if k == n then (j == n || parts_reach (reaches fs j n) (slice_index_or fs n no_part)) else reaches fs j n k

-- the numbers below one that pass a test, the greatest first
abbrev pub picked : (ℕ → Bool) → ℕ → List ℕ
picked test zero = []
picked test (suc n) = if test n then n ∷ picked test n else picked test n

abbrev pub reached : PlainShape → List ℕ
reached s = picked (λ j. reaches s.functions j (length s.functions) s.entry) (length s.functions)

-- how many words functions have together
abbrev pub functions_words : List PlainParts → List ℕ → ℕ
functions_words fs numbers = sum_by (λ k. parts_words (slice_index_or fs k no_part)) numbers

-- what is reached fits into the method cache together
abbrev pub stays : PlainShape → Bool
stays s =
    nat_le (length (reached s)) MOST_METHODS && nat_le (functions_words s.functions (reached s)) METHOD_CACHE_WORDS
