-- To be believed. What a data cache holds.
use Rattle.std.specs.Prelude.{◌≡◌, ℕ, ◌==◌, if◌then◌else◌, List, Option, Some, None, slice_index, slice_index_or}
use Rattle.data_cache.specs.declared.cache.DataCache.{DataCache}
use Rattle.data_cache.specs.declared.cache.Line.{Line}
use Rattle.data_cache.specs.Accesses.{Access, line_of, index_of, place_of, cached_word}

-- the word at an address in a line, or None where this is no line or another
abbrev pub word_in : Option Line → ℕ → Option ℕ
word_in None address = None
word_in (Some line) address =
    if line.number == line_of address then Some (slice_index line.words (place_of address)) else None

-- the word at an address in the cache, or None where its line is not present
abbrev pub word_at : DataCache → ℕ → Option ℕ
word_at cache address = word_in (slice_index_or cache.lines (index_of address) None) address

-- the cache is what these accesses leave, the first of them first
abbrev pub StandsFor : List Access → DataCache → Type 0
StandsFor accesses cache = (address : ℕ) → word_at cache address ≡ cached_word accesses address
