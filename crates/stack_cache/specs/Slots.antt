-- To be believed. Where the cache keeps a word: the words of private memory take the slots in turn.
use Rattle.std.specs.Prelude.{ℕ, ◌+◌, ◌-◌, ◌%◌, ◌≤◌, List, map, slice_index}
use Rattle.std.specs.List.{range_with_len}
use Rattle.stack_cache.specs.declared.slots.TheConstants.{STACK_CACHE_WORDS}
use Rattle.stack_cache.specs.declared.stack.TheConstants.{STACK_END, STACK_LOWEST}
use Rattle.stack_cache.specs.Stack.{Stack}

-- what the slot of a word holds
abbrev pub slot : List ℕ → ℕ → ℕ
slot slots word = slice_index slots (word % STACK_CACHE_WORDS)

-- so many words from one on
unfoldable pub held : List ℕ → ℕ → ℕ → List ℕ
held slots from count = map (slot slots) (range_with_len from count)

-- the stack that two pointers and the slots hold
abbrev pub shown : ℕ → ℕ → List ℕ → Stack
shown st ss slots = record { st = st; ss = ss; words = held slots st (ss - st) }

-- the pointers stand in the stack's region, and not further apart than the cache has words
pub record AreInRange (st ss : ℕ) : Type 0 where
  pub low : STACK_LOWEST ≤ st
  pub order : st ≤ ss
  pub high : ss ≤ STACK_END
  pub few : ss ≤ st + STACK_CACHE_WORDS
