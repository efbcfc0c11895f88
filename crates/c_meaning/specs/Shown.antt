-- To be believed. What actions say, without the places of their boxes in memory.
use Rattle.std.specs.Prelude.{ℕ, List, [], ◌∷◌, map, option_map}
use Rattle.sp_tree.specs.Plain.{plain_sp}
use Rattle.c_meaning.specs.declared.actions.Action.{Action, Set, Call, Send, Choose', Loop', Break, Continue, Return}
use Rattle.c_meaning.specs.declared.actions.Action.TheBlock.{Row_of-Action, end_of-Action, more_of-Action, Row_of-Branch, end_of-Branch, more_of-Branch}
use Rattle.c_meaning.specs.declared.actions.Assignment.{Assignment}
use Rattle.c_meaning.specs.declared.actions.Branch.{Branch}
use Rattle.c_meaning.specs.declared.actions.Routine.{Routine}
use Rattle.c_meaning.specs.declared.actions.Target.{Target}
use Rattle.c_meaning.specs.declared.actions.Target.TheVariants as target
use Rattle.c_meaning.specs.Actions.{PlainTarget, to_level, to_cell, to_array, PlainAssignment, PlainAction, sets, calls, transfers, chooses, iterations, breaks, continues, returns, PlainActions, no_action, action, PlainBranches, no_branch, branch}

abbrev pub plain_target : Target → PlainTarget
plain_target (target.Variable level) = to_level level.number
plain_target (target.Scalar word) = to_cell word.cell
plain_target (target.Element array index) = to_array array.words (plain_sp index)

abbrev pub plain_assignment : Assignment → PlainAssignment
plain_assignment a = record { target = plain_target a.target; value = plain_sp a.value }

unfoldable mutual
  pub plain_action : Action → PlainAction
  plain_action (Set assignment) = sets (plain_assignment assignment)
  plain_action (Call k args given) = calls k (map plain_sp args.values) (option_map plain_target given)
  plain_action (Send core source aim count) = transfers core (plain_sp source) (plain_sp aim) (plain_sp count)
  plain_action (Choose' l branches k otherwise) = chooses (plain_branches branches) (plain_row otherwise)
  plain_action (Loop' most condition l body step) =
      iterations most (plain_sp condition) (plain_row body) (option_map plain_assignment step)
  plain_action Break = breaks
  plain_action Continue = continues
  plain_action (Return e) = returns (plain_sp e)

  pub plain_row : {n : _} → Row_of-Action n → PlainActions
  plain_row end_of-Action = no_action
  plain_row (more_of-Action a rest) = action (plain_action a) (plain_row rest)

  pub plain_branches : {n : _} → Row_of-Branch n → PlainBranches
  plain_branches end_of-Branch = no_branch
  plain_branches (more_of-Branch condition l body rest) =
      branch (plain_sp condition) (plain_row body) (plain_branches rest)

-- plain actions of a plain list
abbrev pub actions_of : List Action → PlainActions
actions_of [] = no_action
actions_of (a ∷ rest) = action (plain_action a) (actions_of rest)

abbrev pub branches_of : List Branch → PlainBranches
branches_of [] = no_branch
branches_of (b ∷ rest) = branch (plain_sp b.condition) (actions_of b.body) (branches_of rest)

abbrev pub counts_of : List Routine → List ℕ
counts_of routines = map (λ r. r.parameters) routines

abbrev pub bodies_of : List Routine → List PlainActions
bodies_of routines = map (λ r. actions_of r.body) routines
