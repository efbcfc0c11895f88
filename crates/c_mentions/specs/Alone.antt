-- To be believed. When a C task is alone with the data that it uses, among the tasks
-- of a job: no other task can change them.
use Rattle.std.specs.Prelude.{ℕ, ◌+◌, ◌==◌, Bool, true, false, not, ◌&&◌, ◌||◌, List, [], ◌∷◌, slice_index_or}
use Rattle.c_tree.specs.Plain.{PlainItem}
use Rattle.c_mentions.specs.Mentions.{comm_array, shared_array, mentions, assigns, sends_to}

-- what a core of a job runs: nothing, an assembly text, or a C program
pub data Running : Type 0 where
  idle : Running
  assembly : Running
  program : List PlainItem → Running

-- what may write into the communication memory of another core: an assembly text, or a C program that sends to it
abbrev pub reaches : ℕ → Running → Bool
reaches core idle = false
reaches core assembly = true
reaches core (program items) = sends_to core items

-- what may write into the words that all cores share
abbrev pub writes_shared : Running → Bool
writes_shared idle = false
writes_shared assembly = true
writes_shared (program items) = assigns shared_array items

-- whether a test holds of a task on another core, where these are the tasks from a core on
abbrev pub any_other : ℕ → (Running → Bool) → ℕ → List Running → Bool
any_other core test at [] = false
any_other core test at (t ∷ tasks) = (not (at == core) && test t) || any_other core test (at + 1) tasks

-- what a task needs to be alone, by what it mentions
abbrev pub is_alone_with : ℕ → List Running → List PlainItem → Bool
is_alone_with core tasks items =
    not (mentions comm_array items && any_other core (reaches core) 0 tasks)
    && not (mentions shared_array items && any_other core writes_shared 0 tasks)

-- whether the task of a core is a C program that is alone with the data that it uses. Tasks are numbered by their cores
abbrev pub is_alone : ℕ → List Running → Bool
is_alone core tasks = elim (slice_index_or tasks core idle) as (λ _. Bool) [
  | idle ↦ false
  | assembly ↦ false
  | program items ↦ is_alone_with core tasks items
]
