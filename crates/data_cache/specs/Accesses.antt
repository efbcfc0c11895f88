-- To be believed. The data cache by the core's cached accesses (a direct-mapped data cache as in the Patmos Reference
-- Handbook, written through and filled by loads alone; its size is that of our own profile TP1). Addresses
-- are in bytes, and name the word that holds them.
use Rattle.std.specs.Prelude.{Bool, false, ℕ, ◌/◌, ◌%◌, ◌==◌, if◌then◌else◌, List, [], ◌∷◌, reverse, Option, Some, None, slice_index}

-- a cached access: a load, with the four words of the line that it read if it missed, or the store of a word
pub data Access : Type 0 where
  Load : (address : ℕ) (missed : Option (List ℕ)) → Access
  Store : (address value : ℕ) → Access

-- the line that holds an address: lines have 16 bytes
abbrev pub line_of : ℕ → ℕ
line_of address = address / 16

-- where in the cache the line of an address may stand
abbrev pub index_of : ℕ → ℕ
index_of address = line_of address % 64

-- which of the four words of its line is at an address
abbrev pub place_of : ℕ → ℕ
place_of address = address / 4 % 4

-- the line of an address is present: the last load to its index was to that line. Here the accesses are given from the
-- latest back
abbrev pub is_present : ℕ → List Access → Bool
is_present address [] = false
is_present address (Load other missed ∷ before) =
    if index_of other == index_of address then line_of other == line_of address else is_present address before
is_present address (Store other value ∷ before) = is_present address before

-- the word at an address as the last store to it left it, or the last missed load
-- of its line found it, whichever is later
abbrev pub last_word : ℕ → List Access → ℕ
last_word address [] = 0
last_word address (Load other (Some words) ∷ before) =
    if line_of other == line_of address then slice_index words (place_of address) else last_word address before
last_word address (Load other None ∷ before) = last_word address before
last_word address (Store other value ∷ before) = if other / 4 == address / 4 then value else last_word address before

-- the word at an address, or None where its line is not present; the accesses again from the latest back
abbrev pub word_back : List Access → ℕ → Option ℕ
word_back latest address = if is_present address latest then Some (last_word address latest) else None

-- the word at an address after these accesses, the first of them first
abbrev pub cached_word : List Access → ℕ → Option ℕ
cached_word accesses address = word_back (reverse accesses) address
