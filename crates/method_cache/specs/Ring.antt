-- To be believed. How the cache keeps its functions: a ring of as many places as there can be functions.
use Rattle.std.specs.Prelude.{◌≡◌, ℕ, zero, suc, ◌+◌, ◌%◌, ◌<◌, ◌≤◌, List, [], ◌∷◌, slice_index_or}
use Rattle.method_cache.specs.declared.cache.Method.{Method}
use Rattle.method_cache.specs.declared.cache.TheConstants.{MOST_METHODS, METHOD_CACHE_WORDS}
use Rattle.method_cache.specs.Residents.{words_of}

-- what stands where no function was ever put
abbrev pub vacant : Method
vacant = record { function = 0; words = 0 }

-- so many functions from a place of the ring on
abbrev pub ring : List Method → ℕ → ℕ → List Method
ring places at zero = []
ring places at (suc count) = slice_index_or places (at % MOST_METHODS) vacant ∷ ring places (at + 1) count

-- the counts are right, and the functions fit
pub record IsRing (places : List Method) (start number total : ℕ) : Type 0 where
  pub first : start < MOST_METHODS
  pub count : number ≤ MOST_METHODS
  pub words : total ≡ words_of (ring places start number)
  pub room : total ≤ METHOD_CACHE_WORDS
