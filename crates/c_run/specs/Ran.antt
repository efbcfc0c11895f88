-- To be believed. What a run has done. The sends that were started are not kept in memories.
use Rattle.std.specs.Prelude.{◌≡◌, ℕ, List, Option, None, Some, length, slice_index}
use Rattle.c_world.specs.World.{Sending}
use Rattle.c_world.specs.Shown.{shown}
use Rattle.c_world.specs.declared.memory.Memory.{Memory}
use Rattle.c_meaning.specs.declared.ways.Way.{Way}
use Rattle.c_meaning.specs.Meaning.{Done, Outcome, iteration_done}
use Rattle.c_meaning.specs.Resolved.{Serves, actions_done, serves}
use Rattle.c_meaning.specs.Shown.{actions_of, bodies_of}
use Rattle.c_meaning.specs.declared.actions.Branch.{Branch}
use Rattle.c_meaning.specs.declared.actions.Routine.{Routine}
use Rattle.c_meaning.specs.Values.{State}

-- the words of a frame and of memories, where these sends were started
abbrev pub state_of : List ℕ → Memory → List Sending → State
state_of frame memory sends = record { locals = slice_index frame; world = shown memory sends }

-- what these functions give, by their numbers
abbrev pub served_by : List Routine → Serves
served_by routines = serves (bodies_of routines) (length routines)

-- a statement went on so, and left these words
pub record HasDone (d : Done) (way : Way) (frame : List ℕ) (memory : Memory) : Type 0 where
  pub ends : d ≡ record { way = way; state = state_of frame memory d.state.world.sends }

-- a function gave this word, and left these words
pub record HasOutcome (g : Outcome) (value : ℕ) (memory : Memory) : Type 0 where
  pub gives : g ≡ record { value = value; world = shown memory g.world.sends }

-- an iteration of a loop that goes on from these words, or the end of the loop
pub record GoesOn (step : State → State) (d : Done) (frame : List ℕ) (memory : Memory) : Type 0 where
  pub sends : List Sending
  pub goes : (more : State → Done) → iteration_done more step d ≡ more (state_of frame memory sends)

abbrev pub HasIterated : (State → State) → Done → Option Way → List ℕ → Memory → Type 0
HasIterated step d None frame memory = GoesOn step d frame memory
HasIterated step d (Some w) frame memory = (more : State → Done) → HasDone (iteration_done more step d) w frame memory

-- what is done of a branch that was picked, or else
abbrev pub picked_done : Serves → (State → Done) → Option Branch → State → Done
picked_done g otherwise None s = otherwise s
picked_done g otherwise (Some b) s = actions_done g (actions_of b.body) s
