-- To be believed. Ranges of a machine: what its cores are loaded with is words of 32 bits.
use Rattle.std.specs.Prelude.{ℕ, ◌≤◌, length, IfSome, slice_get}
use Rattle.std.specs.List.{AllByRecursion as Each}
use Rattle.argo_ni.specs.Packet.{comm_word}
use Rattle.patmos_model.specs.Range.{IsWord, HasCode}
use Rattle.global_step.specs.declared.loaded.LoadedCore.{LoadedCore}
use Rattle.global_step.specs.Loaded.{Machine, IsLoaded}

-- how many words the board has: those of shared memory, and of the communication memory of each core
abbrev pub board_words : Machine → ℕ
board_words m = comm_word (length m.cores) 0

-- a core is loaded with words
pub record HoldsWords (c : LoadedCore) : Type 0 where
  pub input : Each IsWord c.input
  pub code : IfSome c.image HasCode
  pub initial : IfSome c.image (λ image. Each IsWord image.initial)

-- each core of a machine is loaded with words
pub record IsOfWords (m : Machine) : Type 0 where
  pub loaded : IsLoaded m.cores m.limit m.trace m.workers
  pub few : length m.cores ≤ 16
  pub words : (k : ℕ) → IfSome (slice_get m.cores k) HoldsWords
