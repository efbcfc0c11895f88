-- To be believed. A task's stack, as its instructions see it (after the stack cache of the Patmos Reference Handbook;
-- the numbers are of our own profile TP1). Words are numbers of private memory, and the stack grows down.
use Rattle.std.specs.Prelude.{◌≡◌, ℕ, ◌+◌, ◌-◌, ◌≤◌, max, min, List, [], ◌++◌, length, take, drop, replicate}
use Rattle.stack_cache.specs.declared.slots.TheConstants.{STACK_CACHE_WORDS}
use Rattle.stack_cache.specs.declared.stack.TheConstants.{STACK_END, STACK_LOWEST}

-- the top of the stack, the end of the words that the cache holds, and those words from the top on
pub record Stack : Type 0 where
  pub st : ℕ
  pub ss : ℕ
  pub words : List ℕ

-- the words held stand between the pointers, no more than the cache has, in the stack's region of private memory
pub record IsStack (s : Stack) : Type 0 where
  pub low : STACK_LOWEST ≤ s.st
  pub high : s.ss ≤ STACK_END
  pub between : s.st + length s.words ≡ s.ss
  pub few : length s.words ≤ STACK_CACHE_WORDS

-- the stack of a task that begins
abbrev pub empty : Stack
empty = record { st = STACK_END; ss = STACK_END; words = [] }

-- the words held, with n zeros in front
abbrev pub grown : ℕ → Stack → List ℕ
grown n s = replicate n 0 ++ s.words

-- n words more; the first of all stay in the cache, and ss is where they end
abbrev pub reserved : ℕ → Stack → Stack
reserved n s =
    record { st = s.st - n; ss = min s.ss (s.st - n + STACK_CACHE_WORDS); words = take STACK_CACHE_WORDS (grown n s) }

-- the words past those, which leave the cache
abbrev pub spilled : ℕ → Stack → List ℕ
spilled n s = drop STACK_CACHE_WORDS (grown n s)

-- memory with these words from a place on, and all others as they were
abbrev pub with_words : List ℕ → ℕ → List ℕ → List ℕ
with_words memory at words = take at memory ++ (words ++ drop (at + length words) memory)

-- private memory, once the words that leave the cache stand in their own places there
abbrev pub with_spilled : ℕ → Stack → List ℕ → List ℕ
with_spilled n s private = with_words private (reserved n s).ss (spilled n s)

-- how many more words are to be held, so that there are n
abbrev pub missing : ℕ → Stack → ℕ
missing n s = n - length s.words

-- the missing words appended from private memory, and ss moved after them
abbrev pub filled : ℕ → List ℕ → Stack → Stack
filled n private s = record s { ss = s.ss + missing n s; words = s.words ++ take (missing n s) (drop s.ss private) }

-- the first n words taken off, or all if there are fewer; ss is never below st
abbrev pub freed : ℕ → Stack → Stack
freed n s = record { st = s.st + n; ss = max s.ss (s.st + n); words = drop n s.words }
