-- For proofs. What a run has done. The sends that were started are not kept in memories.
use Rattle.std.specs.Prelude.{◌≡◌, ℕ, List, slice_index}
use Rattle.c_world.specs.World.{Sending}
use Rattle.c_world.specs.Shown.{shown}
use Rattle.c_world.specs.declared.memory.Memory.{Memory}
use Rattle.sp_tree.specs.Straight.{State, Outcome}

-- the words of a frame and of memories, where these sends were started
abbrev pub state_of : List ℕ → Memory → List Sending → State
state_of frame memory sends = record { frame = slice_index frame; world = shown memory sends }

-- statements left these words
pub record HasDone (s : State) (frame : List ℕ) (memory : Memory) : Type 0 where
  pub ends : s ≡ state_of frame memory s.world.sends

-- a function gave this word, and left these words
pub record HasGiven (g : Outcome) (value : ℕ) (memory : Memory) : Type 0 where
  pub gives : g ≡ record { value = value; world = shown memory g.world.sends }
