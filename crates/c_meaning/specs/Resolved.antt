-- To be believed. What a program means whose names are resolved: over the same states as a C text.
use Rattle.std.specs.Prelude.{ℕ, zero, suc, Bool, true, false, ◌==◌, if◌then◌else◌, List, [], ◌∷◌, Option, None, Some, slice_index, slice_index_or}
use Rattle.c_world.specs.Numbers.{is_true}
use Rattle.c_world.specs.World.{World, with_word, with_element, with_send}
use Rattle.sp_tree.specs.Plain.{PlainSp}
use Rattle.sp_tree.specs.Values.{sp_value}
use Rattle.c_meaning.specs.declared.ways.Way.TheVariants as way
use Rattle.c_meaning.specs.Actions.{PlainTarget, to_level, to_cell, to_array, PlainAssignment, PlainAction, sets, calls, transfers, chooses, iterations, breaks, continues, returns, PlainActions, no_action, action, PlainBranches, no_branch, branch}
use Rattle.c_meaning.specs.Values.{State}
use Rattle.c_meaning.specs.Meaning.{Done, Outcome, goes_on, in_world, with_level, iterations_done, then_done, way_value}

-- what functions give, by their numbers
abbrev pub Serves : Type 0
Serves = ℕ → List ℕ → World → Outcome

abbrev pub worth : PlainSp → State → ℕ
worth e s = sp_value s.locals s.world e

abbrev pub holds : PlainSp → State → Bool
holds e s = is_true (worth e s)

abbrev pub args_worth : List PlainSp → State → List ℕ
args_worth [] s = []
args_worth (e ∷ args) s = worth e s ∷ args_worth args s

abbrev pub with_target : PlainTarget → ℕ → State → State
with_target (to_level at) given s = with_level at given s
with_target (to_cell cell) given s = record s { world = with_word cell.region cell.word given s.world }
with_target (to_array array index) given s =
    record s { world = with_element array.region array.first array.length (worth index s) given s.world }

-- a result may be set nowhere
abbrev pub with_result : Option PlainTarget → ℕ → State → State
with_result None given s = s
with_result (Some t) given s = with_target t given s

abbrev pub assignment_done : PlainAssignment → State → State
assignment_done a s = with_target a.target (worth a.value s) s

abbrev pub step_done : Option PlainAssignment → State → State
step_done None s = s
step_done (Some a) s = assignment_done a s

-- what a function gave is set after the call
abbrev pub outcome_done : Option PlainTarget → State → Outcome → State
outcome_done result s given = with_result result given.value (in_world s given.world)

abbrev pub transfer_done : ℕ → PlainSp → PlainSp → PlainSp → State → State
transfer_done core source target count s =
    in_world s (with_send core (worth source s) (worth target s) (worth count s) s.world)

abbrev mutual
  pub action_done : Serves → PlainAction → State → Done
  action_done g (sets assignment) s = goes_on (assignment_done assignment s)
  action_done g (calls k args result) s = goes_on (outcome_done result s (g k (args_worth args s) s.world))
  action_done g (transfers core source target count) s = goes_on (transfer_done core source target count s)
  action_done g (chooses branches otherwise) s = branches_done g branches (actions_done g otherwise) s
  action_done g (iterations most condition body step) s =
      iterations_done (holds condition) (actions_done g body) (step_done step) most s
  action_done g breaks s = record { way = way.Broken; state = s }
  action_done g continues s = record { way = way.Continued; state = s }
  action_done g (returns e) s = record { way = way.Returned (worth e s); state = s }

  pub actions_done : Serves → PlainActions → State → Done
  actions_done g no_action s = goes_on s
  actions_done g (action a rest) s = then_done (actions_done g rest) (action_done g a s)

  -- the first branch whose condition holds, or else the rest
  pub branches_done : Serves → PlainBranches → (State → Done) → State → Done
  branches_done g no_branch otherwise s = otherwise s
  branches_done g (branch condition body rest) otherwise s =
      elim (holds condition s) as (λ _. Done) [
        | true ↦ actions_done g body s
        | false ↦ branches_done g rest otherwise s
      ]

-- ---- functions in order, of which each calls the earlier ones

abbrev pub routine_outcome : Serves → PlainActions → List ℕ → World → Outcome
routine_outcome g body args world =
    let done = actions_done g body (record { locals = slice_index args; world = world }) in
    record { value = way_value done.way; world = done.state.world }

-- the first so many of them; a number that none has gives 0 and changes nothing
abbrev pub serves : List PlainActions → ℕ → Serves
serves fs zero k args world = record { value = 0; world = world }
serves fs (suc n) k args world =
    if k == n then routine_outcome (serves fs n) (slice_index_or fs n no_action) args world else serves fs n k args world
