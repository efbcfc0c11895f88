-- To be believed. Which functions stand in the method cache (first in first out, as the method cache of the Patmos
-- Reference Handbook may be built; the two limits are those of our own profile TP1).
use Rattle.std.specs.Prelude.{◌≡◌, ℕ, ◌+◌, ◌/◌, Bool, ◌&&◌, ◌==◌, nat_le, if◌then◌else◌, List, [], ◌∷◌, ◌++◌, length, sum_by}
use Rattle.std.specs.List.{list_any}
use Rattle.method_cache.specs.declared.cache.Method.{Method}
use Rattle.method_cache.specs.declared.cache.TheConstants.{MOST_METHODS, METHOD_CACHE_WORDS}

-- how many words the functions have together
abbrev pub words_of : List Method → ℕ
words_of methods = sum_by (λ m. m.words) methods

-- the functions fit into the cache together: neither too many nor of too many words
abbrev pub fits : List Method → Bool
fits methods = nat_le (length methods) MOST_METHODS && nat_le (words_of methods) METHOD_CACHE_WORDS

-- the functions in the cache after these misses, the oldest first: the longest suffix of the misses that fits
abbrev pub resident : List Method → List Method
resident [] = []
resident (oldest ∷ later) = if fits (oldest ∷ later) then oldest ∷ later else resident later

-- the function is one of these
abbrev pub is_among : ℕ → List Method → Bool
is_among function methods = list_any (λ m. m.function == function) methods

-- the misses once a function was touched: one that is in the cache is a hit, any other is a further miss
abbrev pub touched : List Method → Method → List Method
touched misses method = if is_among method.function (resident misses) then misses else misses ++ method ∷ []

-- how many transactions bring a function of so many words: they move 4 words each, the last one the rest, and
-- its size word comes with it
abbrev pub fill_of : ℕ → ℕ
fill_of words = (words + 1 + 3) / 4

-- the cache is what these misses leave
abbrev pub StandsFor : List Method → List Method → Type 0
StandsFor misses cache = cache ≡ resident misses
