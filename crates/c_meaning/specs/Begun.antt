-- To be believed. What a C task begins with, and what is reported of it at its end.
use Rattle.std.specs.Prelude.{ℕ, ◌-◌, nat_lt, nat_le, false, ◌&&◌, if◌then◌else◌, List, [], length, slice_index}
use Rattle.local_store.specs.declared.store.TheConstants.{FIRST_DATA_WORD}
use Rattle.c_world.specs.World.{World}
use Rattle.c_tree.specs.Plain.{PlainItem}
use Rattle.c_tree.specs.Layout.{initial_of, input_of}
use Rattle.c_meaning.specs.Meaning.{Outcome, program_outcome}

-- private memory: the first values from the first data word on, and the input over them as far as its array reaches
abbrev pub begun_private : List PlainItem → List ℕ → ℕ → ℕ
begun_private items input word =
    let at = (input_of items).at in
    if nat_le at word && (nat_lt (word - at) (input_of items).room && nat_lt (word - at) (length input))
    then slice_index input (word - at)
    else (if nat_le FIRST_DATA_WORD word then slice_index (initial_of items) (word - FIRST_DATA_WORD) else 0)

-- the world before the task, where `shared` and `comm` begin with these words
abbrev pub begun : List PlainItem → List ℕ → (ℕ → ℕ) → (ℕ → ℕ) → World
begun items input shared comm = record {
  scratch = λ _. 0;
  comm = comm;
  private = begun_private items input;
  shared = shared;
  overrun = false;
  sends = [];
}

-- what a task means on its input: the value of `main`, and the world after it
abbrev pub meaning : List PlainItem → List ℕ → (ℕ → ℕ) → (ℕ → ℕ) → Outcome
meaning items input shared comm = program_outcome items (begun items input shared comm)
