-- To be believed. The words that only their core can reach.
use Rattle.std.specs.Prelude.{ℕ, ◌<◌, List, ◌++◌, length, take, drop, replicate, slice_index, slice_set}
use Rattle.local_store.specs.declared.map.Cell.{Cell}
use Rattle.local_store.specs.declared.map.Cell.TheVariants.{Scratch, Comm, Port, Private, Shared}
use Rattle.local_store.specs.declared.store.TheConstants.{PRIVATE_WORDS, SCRATCH_WORDS}

-- the words of the scratchpad and of private memory
pub record Memory : Type 0 where
  pub scratch : List ℕ
  pub private : List ℕ

-- so many words, all 0
unfoldable pub zeros : ℕ → List ℕ
zeros count = replicate count 0

-- the memories of a core before its task
abbrev pub cleared : Memory
cleared = record { scratch = zeros SCRATCH_WORDS; private = zeros PRIVATE_WORDS }

-- as many words as before: the new ones, and the old ones where there are fewer
abbrev pub refilled : List ℕ → List ℕ → List ℕ
refilled old words = take (length old) (words ++ drop (length words) old)

-- the cell is a word of the scratchpad or of private memory
abbrev pub IsOwn : Cell → Type 0
IsOwn (Scratch word) = word < SCRATCH_WORDS
IsOwn (Private word) = word < PRIVATE_WORDS
IsOwn (Comm word) = ⊥
IsOwn (Port core register) = ⊥
IsOwn (Shared word) = ⊥

-- the word in a cell
abbrev pub word_at : Memory → Cell → ℕ
word_at m (Scratch word) = slice_index m.scratch word
word_at m (Private word) = slice_index m.private word
word_at m (Comm word) = 0
word_at m (Port core register) = 0
word_at m (Shared word) = 0

-- the memories with one word changed and no other
abbrev pub with_word : Memory → Cell → ℕ → Memory
with_word m (Scratch word) value = record m { scratch = slice_set m.scratch word value }
with_word m (Private word) value = record m { private = slice_set m.private word value }
with_word m (Comm word) value = m
with_word m (Port core register) value = m
with_word m (Shared word) value = m
