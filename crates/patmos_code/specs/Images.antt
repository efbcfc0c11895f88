-- To be believed. An image of code: what a core is started with. The words are for each function its size in words and
-- then its words; so the first function starts at word 1. The form and the limits are those of TP1, our
-- profile of Patmos, with its method cache and its code store.
use Rattle.std.specs.Prelude.{◌≡◌, ℕ, zero, suc, ◌+◌, ◌-◌, ◌<◌, ◌≤◌, List, [], ◌∷◌, length, slice_index}
use Rattle.std.specs.List.{All}
use Rattle.local_store.specs.declared.store.TheConstants.{DATA_WORDS, FIRST_DATA_WORD}
use Rattle.patmos_code.specs.declared.images.TheConstants.{MOST_IN_FUNCTION, MOST_IN_IMAGE}

-- the parts of an image: the words of code; the places of words at which its functions start; the words
-- that private memory has at first, from private word 4 on; the private word from which on the input is
-- put, and how many words of input there is room for
pub record Parts : Type 0 where
  pub words : List ℕ
  pub starts : List ℕ
  pub initial : List ℕ
  pub input_at : ℕ
  pub input_room : ℕ

abbrev pub parts : List ℕ → List ℕ → List ℕ → ℕ → ℕ → Parts
parts words starts initial input_at input_room =
    record { words = words; starts = starts; initial = initial; input_at = input_at; input_room = input_room }

-- the walk over words of code, from the word of place `at` on, of which the first `skip` still belong to
-- a function: the places at which the functions after it start
abbrev pub starts_from : ℕ → ℕ → List ℕ → List ℕ
starts_from at skip [] = []
starts_from at zero (size ∷ ws) = (at + 1) ∷ starts_from (at + 1) size ws
starts_from at (suc skip) (w ∷ ws) = starts_from (at + 1) skip ws

-- the places at which the functions of a list of words start
abbrev pub starts_of : List ℕ → List ℕ
starts_of words = starts_from 0 0 words

-- the sizes that the same walk meets
abbrev pub sizes_from : ℕ → List ℕ → List ℕ
sizes_from skip [] = []
sizes_from zero (size ∷ ws) = size ∷ sizes_from size ws
sizes_from (suc skip) (w ∷ ws) = sizes_from skip ws

abbrev pub sizes_of : List ℕ → List ℕ
sizes_of words = sizes_from 0 words

-- how many words the last function lacks where the list ends
abbrev pub lacking_from : ℕ → List ℕ → ℕ
lacking_from skip [] = skip
lacking_from zero (size ∷ ws) = lacking_from size ws
lacking_from (suc skip) (w ∷ ws) = lacking_from skip ws

abbrev pub lacking : List ℕ → ℕ
lacking words = lacking_from 0 words

-- each number of a list is less than those after it
pub record IsRising (xs : List ℕ) : Type 0 where
  pub rises : (i j : ℕ) → i < j → j < length xs → slice_index xs i < slice_index xs j

-- a function that starts at a place of a list of words: its size stands in the word before, its words
-- stand in the list, and they are not too many
pub record IsFunction (words : List ℕ) (start : ℕ) : Type 0 where
  pub after : 0 < start
  pub inside : start + slice_index words (start - 1) ≤ length words
  pub small : slice_index words (start - 1) ≤ MOST_IN_FUNCTION

-- what an image keeps
pub record IsImage (p : Parts) : Type 0 where
  -- its starts are what the walk over its words gives
  pub starts : p.starts ≡ starts_of p.words
  -- at least one function
  pub some : 0 < length p.starts
  -- the words of the last function are all there
  pub whole : lacking p.words ≡ 0
  -- each function fits the method cache, and all of them the code store
  pub small : All (λ size. size ≤ MOST_IN_FUNCTION) (sizes_of p.words)
  pub within : length p.words ≤ MOST_IN_IMAGE
  -- the initial words, from private word 4 on, end where the stack begins
  pub initial : length p.initial ≤ DATA_WORDS - FIRST_DATA_WORD
  -- so does the room for the input, and it leaves private words 0 to 3 alone
  pub input_from : 4 ≤ p.input_at
  pub input_room : p.input_at + p.input_room ≤ DATA_WORDS
