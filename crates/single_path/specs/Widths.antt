-- To be believed. How many words of a frame actions need.
use Rattle.std.specs.Prelude.{ℕ, zero, suc, ◌+◌, ◌-◌, ◌^◌, min, max, List, [], ◌∷◌, Option, None, Some}
use Rattle.sp_tree.specs.Plain.{PlainSp, constant, frame_word, cell_word, array_word, before_one, between_two}
use Rattle.c_meaning.specs.Actions.{PlainTarget, to_level, to_cell, to_array, PlainAssignment, PlainAction, sets, calls, transfers, chooses, iterations, breaks, continues, returns, PlainActions, no_action, action, PlainBranches, no_branch, branch}

-- ---- words of variables: one more than the highest level that is named

abbrev pub expr_words : PlainSp → ℕ
expr_words (constant n) = 0
expr_words (frame_word at) = at + 1
expr_words (cell_word cell) = 0
expr_words (array_word array index) = expr_words index
expr_words (before_one op of) = expr_words of
expr_words (between_two op a b) = max (expr_words a) (expr_words b)

abbrev pub args_words : List PlainSp → ℕ
args_words [] = 0
args_words (e ∷ args) = max (expr_words e) (args_words args)

abbrev pub target_words : PlainTarget → ℕ
target_words (to_level at) = at + 1
target_words (to_cell cell) = 0
target_words (to_array array index) = expr_words index

abbrev pub assignment_words : PlainAssignment → ℕ
assignment_words a = max (target_words a.target) (expr_words a.value)

abbrev pub result_words : Option PlainTarget → ℕ
result_words None = 0
result_words (Some target) = target_words target

abbrev pub step_words : Option PlainAssignment → ℕ
step_words None = 0
step_words (Some a) = assignment_words a

abbrev mutual
  pub action_words : PlainAction → ℕ
  action_words (sets a) = assignment_words a
  action_words (calls k args result) = max (args_words args) (result_words result)
  action_words (transfers core source target count) =
      max (expr_words source) (max (expr_words target) (expr_words count))
  action_words (chooses branches otherwise) = max (branches_words branches) (words otherwise)
  action_words (iterations most condition body step) = max (expr_words condition) (max (words body) (step_words step))
  action_words breaks = 0
  action_words continues = 0
  action_words (returns e) = expr_words e

  pub words : PlainActions → ℕ
  words no_action = 0
  words (action a rest) = max (action_words a) (words rest)

  pub branches_words : PlainBranches → ℕ
  branches_words no_branch = 0
  branches_words (branch condition body rest) = max (expr_words condition) (max (words body) (branches_words rest))

-- ---- words of masks: one for each loop and each arm that stand inside one another, and one for what a function gives
-- to a target outside of the frame

abbrev pub result_masks : Option PlainTarget → ℕ
result_masks None = 0
result_masks (Some (to_level at)) = 0
result_masks (Some (to_cell cell)) = 1
result_masks (Some (to_array array index)) = 1

-- a loop of bound 0 has none
abbrev pub loop_masks : ℕ → ℕ → ℕ
loop_masks zero body = 0
loop_masks (suc n) body = 1 + body

abbrev mutual
  pub action_masks : PlainAction → ℕ
  action_masks (sets a) = 0
  action_masks (calls k args result) = result_masks result
  action_masks (transfers core source target count) = 0
  action_masks (chooses branches otherwise) = branches_masks branches (masks otherwise)
  action_masks (iterations most condition body step) = loop_masks most (masks body)
  action_masks breaks = 0
  action_masks continues = 0
  action_masks (returns e) = 0

  pub masks : PlainActions → ℕ
  masks no_action = 0
  masks (action a rest) = max (action_masks a) (masks rest)

  pub branches_masks : PlainBranches → ℕ → ℕ
  branches_masks no_branch otherwise = otherwise
  branches_masks (branch condition body rest) otherwise = 1 + max (masks body) (branches_masks rest otherwise)

-- ---- numbers as words count them: the greatest word stands for each that passes it

abbrev pub capped : ℕ → ℕ
capped n = min n (2 ^ 32 - 1)
