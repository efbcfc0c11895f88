-- To be believed. Loops that count: right before such a loop its variable is set to a constant, the condition is that
-- the variable is below another, and the step adds a third.
use Rattle.std.specs.Prelude.{ℕ, zero, suc, ◌+◌, ◌*◌, ◌^◌, ◌==◌, nat_lt, nat_le, Bool, false, if◌then◌else◌, ◌&&◌, ◌||◌, Option, None, Some}
use Rattle.sp_tree.specs.declared.operators.SpBinary.{SpBinary}
use Rattle.sp_tree.specs.declared.operators.SpBinary.TheVariants as binary
use Rattle.sp_tree.specs.Plain.{PlainSp, constant, frame_word, between_two}
use Rattle.c_meaning.specs.Actions.{PlainTarget, to_level, PlainAssignment, PlainAction, sets, calls, chooses, iterations, PlainActions, no_action, action, PlainBranches, no_branch, branch}
use Rattle.single_path.specs.declared.counted.Start.{Start}

-- ---- forms of expressions

abbrev pub is_variable : ℕ → PlainSp → Bool
is_variable level (frame_word at) = at == level
is_variable level _ = false

abbrev pub constant_of : PlainSp → Option ℕ
constant_of (constant n) = Some n
constant_of _ = None

-- ---- what is known after an action

abbrev pub start_with : ℕ → Option ℕ → Option Start
start_with level None = None
start_with level (Some n) = Some (record { level = level; value = n })

abbrev pub start_at : PlainTarget → PlainSp → Option Start
start_at (to_level at) e = start_with at (constant_of e)
start_at _ e = None

abbrev pub start_of : PlainAction → Option Start
start_of (sets a) = start_at a.target a.value
start_of _ = None

-- ---- whether actions set the variable of a level

abbrev pub is_level : ℕ → PlainTarget → Bool
is_level level (to_level at) = at == level
is_level level _ = false

abbrev pub result_sets : ℕ → Option PlainTarget → Bool
result_sets level None = false
result_sets level (Some target) = is_level level target

abbrev pub step_sets : ℕ → Option PlainAssignment → Bool
step_sets level None = false
step_sets level (Some a) = is_level level a.target

abbrev mutual
  pub action_sets : ℕ → PlainAction → Bool
  action_sets level (sets a) = is_level level a.target
  action_sets level (calls k args result) = result_sets level result
  action_sets level (chooses branches otherwise) = branches_set level branches || actions_set level otherwise
  action_sets level (iterations most condition body step) = actions_set level body || step_sets level step
  action_sets level _ = false

  pub actions_set : ℕ → PlainActions → Bool
  actions_set level no_action = false
  actions_set level (action a rest) = action_sets level a || actions_set level rest

  pub branches_set : ℕ → PlainBranches → Bool
  branches_set level no_branch = false
  branches_set level (branch condition body rest) = actions_set level body || branches_set level rest

-- ---- the condition and the step

-- the number that an operator keeps its left operand below, by the constant on its right; 0 where there is none
abbrev pub limit_by : Option ℕ → SpBinary → ℕ
limit_by None op = 0
limit_by (Some n) binary.Less = n
limit_by (Some n) binary.LessUnsigned = n
limit_by (Some n) binary.LessEqual = n + 1
limit_by (Some n) binary.LessEqualUnsigned = n + 1
limit_by (Some n) _ = 0

abbrev pub limit_of : ℕ → PlainSp → ℕ
limit_of level (between_two op a b) = if is_variable level a then limit_by (constant_of b) op else 0
limit_of level _ = 0

-- what is added to the variable; 0 of any other form
abbrev pub added : Option ℕ → ℕ
added None = 0
added (Some n) = n

abbrev pub more_in : ℕ → PlainSp → ℕ
more_in level (between_two binary.Plus a b) = if is_variable level a then added (constant_of b) else 0
more_in level _ = 0

abbrev pub more_by : ℕ → Option PlainAssignment → ℕ
more_by level None = 0
more_by level (Some a) = if is_level level a.target then more_in level a.value else 0

-- From the first number on, with so much more each iteration, the last of the iterations is the last below the limit. All numbers
-- are small enough to be the same with a sign and without.
abbrev pub counts : ℕ → ℕ → ℕ → ℕ → Bool
counts first more limit zero = false
counts first more limit (suc n) =
    nat_lt (first + n * more) limit
    && (nat_le limit (first + suc n * more) && nat_lt (first + suc n * more) (2 ^ 31))
