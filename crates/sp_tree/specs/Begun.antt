-- To be believed. What a task begins with, and what it comes to.
use Rattle.std.specs.Prelude.{ℕ, ◌-◌, nat_lt, nat_le, false, ◌&&◌, if◌then◌else◌, List, [], length, slice_index}
use Rattle.c_world.specs.World.{World}
use Rattle.local_store.specs.declared.store.TheConstants.{FIRST_DATA_WORD}
use Rattle.sp_tree.specs.Statements.{PlainUnit}
use Rattle.sp_tree.specs.Straight.{Outcome, serves}

-- words that lie over others, from a place on and as far as their room reaches
abbrev pub laid : ℕ → ℕ → List ℕ → (ℕ → ℕ) → ℕ → ℕ
laid at room words under word =
    if nat_le at word && (nat_lt (word - at) room && nat_lt (word - at) (length words))
    then slice_index words (word - at)
    else under word

abbrev pub first_private : List ℕ → ℕ → ℕ
first_private initial word = if nat_le FIRST_DATA_WORD word then slice_index initial (word - FIRST_DATA_WORD) else 0

-- private memory: the first words, and the input over them as far as its room reaches
abbrev pub begun_private : PlainUnit → List ℕ → ℕ → ℕ
begun_private u input = laid u.input_at u.input_room input (first_private u.initial)

-- the world before the task, where the words that all cores share and those of communication memory are given
abbrev pub begun : PlainUnit → List ℕ → (ℕ → ℕ) → (ℕ → ℕ) → World
begun u input shared comm = record {
  scratch = λ _. 0;
  comm = comm;
  private = begun_private u input;
  shared = shared;
  overrun = false;
  sends = [];
}

-- what a task comes to on its input: what its entry gives under the mask 1, and the world after it
abbrev pub straight : PlainUnit → List ℕ → (ℕ → ℕ) → (ℕ → ℕ) → Outcome
straight u input shared comm = serves u.functions (length u.functions) u.entry 1 [] (begun u input shared comm)

-- what a task comes to where the shared words and those for sending are 0
abbrev pub straight_alone : PlainUnit → List ℕ → Outcome
straight_alone u input = straight u input (λ _. 0) (λ _. 0)
