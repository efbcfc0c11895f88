-- For proofs. How large actions are: what goes through them goes from larger to smaller ones.
use Rattle.std.specs.Prelude.{ℕ, ◌+◌}
use Rattle.c_meaning.specs.Actions.{PlainAction, sets, calls, transfers, chooses, iterations, breaks, continues, returns, PlainActions, no_action, action, PlainBranches, no_branch, branch}

abbrev mutual
  pub action_size : PlainAction → ℕ
  action_size (sets assignment) = 1
  action_size (calls k args given) = 3
  action_size (transfers core source target count) = 1
  action_size (chooses branches otherwise) = 2 + branches_size branches + actions_size otherwise
  action_size (iterations most condition body step) = 3 + actions_size body
  action_size breaks = 1
  action_size continues = 1
  action_size (returns e) = 1

  pub actions_size : PlainActions → ℕ
  actions_size no_action = 1
  actions_size (action a rest) = 1 + action_size a + actions_size rest

  pub branches_size : PlainBranches → ℕ
  branches_size no_branch = 1
  branches_size (branch condition body rest) = 1 + actions_size body + branches_size rest
