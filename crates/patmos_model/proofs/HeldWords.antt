-- What the caches and memories of a core hold stays words.
use Rattle.std.proofs.Common.{◌≡◌, ℕ, zero, suc, ◌+◌, ◌-◌, ◌/◌, ◌==◌, ◌&&◌, Bool, true, false, nat_le, nat_lt, List, [], ◌∷◌, length, reverse, replicate, Some, None, slice_index, if◌then◌else◌, subst, sym, arith}
use Rattle.std.specs.List.{AllByRecursion as Each}
use Rattle.std.proofs.lemmas.Grind.{reverse_onto}
use Rattle.std.proofs.lemmas.Option.{cond_some}
use Rattle.shared_order.specs.Words.{put}
use Rattle.shared_order.proofs.Lists.{each-append, each_take, each_drop}
use Rattle.data_cache.specs.Accesses as cache
use Rattle.stack_cache.specs.Stack.{Stack, grown, reserved, spilled, freed}
use Rattle.patmos_model.specs.Range.{IsWord, AccessFits}
use Rattle.patmos_model.specs.Bundle.{words_from, with_words}
use Rattle.patmos_model.specs.Begin.{overlaid}

-- either of two words
either_word : (b : Bool) (x y : ℕ) → IsWord x → IsWord y → IsWord (if b then x else y)
either_word true x y h k = h
either_word false x y h k = k

-- a word at an index, or 0 past the end
pub each_index : (xs : List ℕ) (i : ℕ) → Each IsWord xs → IsWord (slice_index xs i)
each_index [] i h = omega arith
each_index (x ∷ xs) zero h = h.0
each_index (x ∷ xs) (suc i) h = each_index xs i h.1

-- zeros are words
zeros_fit : (n : ℕ) → Each IsWord (replicate n 0)
zeros_fit zero = tt
zeros_fit (suc n) = (omega arith, zeros_fit n)

-- the words of a stack with zeros in front
grown_words : (n : ℕ) (s : Stack) → Each IsWord s.words → Each IsWord (grown n s)
grown_words n s h = each-append IsWord (replicate n 0) s.words (zeros_fit n) h

-- the words that stay in the cache
pub reserved_words : (n : ℕ) (s : Stack) → Each IsWord s.words → Each IsWord (reserved n s).words
reserved_words n s h = each_take IsWord 128 (grown n s) (grown_words n s h)

-- the words that leave it
pub spilled_words : (n : ℕ) (s : Stack) → Each IsWord s.words → Each IsWord (spilled n s)
spilled_words n s h = each_drop IsWord 128 (grown n s) (grown_words n s h)

-- the words left once some were taken off
pub freed_words : (n : ℕ) (s : Stack) → Each IsWord s.words → Each IsWord (freed n s).words
freed_words n s h = each_drop IsWord n s.words h

-- the words of a memory from a place on
pub words_from_fit : (memory : ℕ → ℕ) (from count : ℕ) → ((w : ℕ) → IsWord (memory w))
    → Each IsWord (words_from memory from count)
words_from_fit memory from zero h = tt
words_from_fit memory from (suc count) h = (h from, words_from_fit memory (from + 1) count h)

-- a memory with one word put
pub put_fits : (at value : ℕ) (memory : ℕ → ℕ) → IsWord value → ((w : ℕ) → IsWord (memory w)) → (w : ℕ)
    → IsWord (put at value memory w)
put_fits at value memory h k w = either_word (at == w) value (memory w) h (k w)

-- a memory with words put from a place on
pub with_words_fit : (words : List ℕ) (from : ℕ) (memory : ℕ → ℕ) → Each IsWord words → ((w : ℕ) → IsWord (memory w))
    → (w : ℕ) → IsWord (with_words from words memory w)
with_words_fit [] from memory h k = k
with_words_fit (word ∷ words) from memory h k =
    with_words_fit words (from + 1) (put from word memory) h.1 (put_fits from word memory h.0 k)

-- a memory with words laid over it from a place on
pub overlaid_words : (from : ℕ) (words : List ℕ) (memory : ℕ → ℕ) → Each IsWord words → ((w : ℕ) → IsWord (memory w))
    → (w : ℕ) → IsWord (overlaid from words memory w)
overlaid_words from words memory h k w =
    elim (nat_le from w && nat_lt w (from + length words)) as (λ b. IsWord
    (elim b [ true ↦ slice_index words (w - from) | false ↦ memory w ])) [
      | true ↦ each_index words (w - from) h
      | false ↦ k w
    ]

-- the last word at an address
last_fits : (address : ℕ) (latest : List cache.Access) → Each AccessFits latest
    → IsWord (cache.last_word address latest)
last_fits address [] h = omega arith
last_fits address (cache.Load other None ∷ before) h = last_fits address before h.1
last_fits address (cache.Load other (Some words) ∷ before) h =
    either_word (cache.line_of other == cache.line_of address) (slice_index words (cache.place_of address))
    (cache.last_word address before) (each_index words (cache.place_of address) h.0) (last_fits address before h.1)
last_fits address (cache.Store other value ∷ before) h =
    either_word (other / 4 == address / 4) value (cache.last_word address before) h.0 (last_fits address before h.1)

-- the accesses from the latest back
each_back : (accesses : List cache.Access) → Each AccessFits accesses → Each AccessFits (reverse accesses)
each_back [] h = tt
each_back (a ∷ accesses) h = subst (Each AccessFits) (sym (reverse_onto accesses a []))
    (each-append AccessFits (reverse accesses) (a ∷ []) (each_back accesses h.1) (h.0, tt))

-- a word that the cache has
pub cached_words : (accesses : List cache.Access) (address word : ℕ) → Each AccessFits accesses
    → cache.cached_word accesses address ≡ Some word → IsWord word
cached_words accesses address word h e =
    let latest : List cache.Access = reverse accesses in
    subst IsWord (cond_some (cache.is_present address latest) (cache.last_word address latest) word e).1
    (last_fits address latest (each_back accesses h))
