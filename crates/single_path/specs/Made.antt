-- To be believed. The single-path statements that are made of actions (Puschner's single-path transformation):
-- branches become masks, and each loop makes all its iterations.
use Rattle.std.specs.Prelude.{ℕ, zero, suc, ◌==◌, Bool, true, false, not, if◌then◌else◌, ◌&&◌, ◌||◌, List, Option, None, Some}
use Rattle.sp_tree.specs.Plain.{PlainSp, constant, frame_word}
use Rattle.sp_tree.specs.Statements.{PlainSpTarget, to_slot, PlainStmt, masks, writes, overruns, PlainStmts, no_stmt, stmt, one, joined}
use Rattle.sp_tree.specs.Statements as tree
use Rattle.c_meaning.specs.Actions.{PlainTarget, to_level, PlainAssignment, PlainAction, sets, calls, transfers, chooses, iterations, breaks, continues, returns, PlainActions, no_action, action, PlainBranches, no_branch, branch}
use Rattle.c_meaning.specs.Actions as actions
use Rattle.single_path.specs.declared.counted.Start.{Start}
use Rattle.single_path.specs.declared.exits.Exits.{Exits}
use Rattle.single_path.specs.declared.part_words.PartWords.{PartWords}
use Rattle.single_path.specs.Counted.{start_of, actions_set, limit_of, more_by, counts}
use Rattle.single_path.specs.PartWords.{in_arm, in_loop, in_counted, where_so, where_not_taken, where_other, where_on, where_not_returned, bit_of, not_zero, broken, continued, returned_function, returned_loop}

-- ---- what is set

-- the variable of a level is the word of that number
abbrev pub made_target : PlainTarget → PlainSpTarget
made_target (to_level at) = to_slot at
made_target (actions.to_cell cell) = tree.to_cell cell
made_target (actions.to_array array index) = tree.to_array array index

abbrev pub made_assignment : ℕ → PlainAssignment → PlainStmt
made_assignment mask a = writes mask (made_target a.target) a.value

-- after each iteration
abbrev pub made_step : ℕ → Option PlainAssignment → PlainStmts
made_step mask None = no_stmt
made_step mask (Some a) = one (made_assignment mask a)

-- what a function gives goes to a variable at once, and to a target outside of the frame by a word that is free
abbrev pub made_call : PartWords → ℕ → List PlainSp → Option PlainTarget → PlainStmts
made_call p k args None = one (tree.calls p.own k args None)
made_call p k args (Some (to_level at)) = one (tree.calls p.own k args (Some at))
made_call p k args (Some target) =
    stmt (tree.calls p.own k args (Some p.free)) (one (writes p.own (made_target target) (frame_word p.free)))

-- ---- ways on

-- the result is 0 as it stands
abbrev pub is_zero : PlainSp → Bool
is_zero (constant n) = n == 0
is_zero _ = false

abbrev pub made_result : PartWords → PlainSp → PlainStmts
made_result p e = if is_zero e then no_stmt else one (writes p.own (to_slot p.result) e)

-- outside loops the mask of the loop is that of the function
abbrev pub made_return : PartWords → PlainSp → PlainStmts
made_return p e = joined (made_result p e) (stmt (masks p.function (returned_function p))
    (if p.function == p.iteration then no_stmt else one (masks p.iteration (returned_loop p))))

-- nothing stands after a statement that always goes elsewhere
abbrev pub ends : PlainAction → Bool
ends breaks = true
ends continues = true
ends (returns e) = true
ends _ = false

-- ---- ways on that actions may take

abbrev pub any_exit : Exits
any_exit = record { breaks = true; continues = true; returns = true }

-- those by which the loop that they stand in is left, those by which its iteration goes on to its end, and those by
-- which a function is left
abbrev pub by_leaving : Exits
by_leaving = record { breaks = true; continues = false; returns = true }

abbrev pub by_continue : Exits
by_continue = record { breaks = false; continues = true; returns = false }

abbrev pub by_return : Exits
by_return = record { breaks = false; continues = false; returns = true }

-- of a loop's body only a return goes further than the loop
abbrev pub out_of_loop : Exits → Exits
out_of_loop q = record { breaks = false; continues = false; returns = q.returns }

-- whether one of these ways on stands in them, before what always goes elsewhere
abbrev mutual
  pub action_exits : Exits → PlainAction → Bool
  action_exits q (chooses branches otherwise) = branches_exit q branches || actions_exit q otherwise
  action_exits q (iterations most condition body step) = actions_exit (out_of_loop q) body
  action_exits q breaks = q.breaks
  action_exits q continues = q.continues
  action_exits q (returns e) = q.returns
  action_exits q _ = false

  pub actions_exit : Exits → PlainActions → Bool
  actions_exit q no_action = false
  actions_exit q (action a rest) = action_exits q a || (if ends a then false else actions_exit q rest)

  pub branches_exit : Exits → PlainBranches → Bool
  branches_exit q no_branch = false
  branches_exit q (branch condition body rest) = actions_exit q body || branches_exit q rest

-- ---- masks that are repaired

-- the mask of the part itself, where it is another than the loop's
abbrev pub made_on : PartWords → PlainStmts
made_on p = if p.own == p.iteration then no_stmt else one (masks p.own (where_on p))

-- after arms of which one may go elsewhere
abbrev pub made_after : PartWords → Bool → PlainStmts
made_after p exits = if exits then made_on p else no_stmt

-- after a loop in which the function may return
abbrev pub made_behind : PartWords → Bool → PlainStmts
made_behind p exits =
    if exits then joined (if p.function == p.iteration then no_stmt else one (masks p.iteration (where_not_returned p))) (made_on p)
    else no_stmt

-- at the end of an iteration in which there may be a `continue` the mask is 1 again for the step
abbrev pub made_again : PartWords → Bool → PlainStmts
made_again p exits = if exits then one (masks p.free (not_zero (frame_word p.free))) else no_stmt

-- ---- arms

abbrev pub is_no_action : PlainActions → Bool
is_no_action no_action = true
is_no_action (action a rest) = false

abbrev pub is_no_branch : PlainBranches → Bool
is_no_branch no_branch = true
is_no_branch (branch condition body rest) = false

-- an arm runs under a mask of its own, which serves what stands after `else` then
abbrev pub made_arm : PartWords → PlainSp → PlainStmts → PlainStmts → PlainStmts
made_arm p condition arm otherwise = stmt (masks p.free (where_so p.own condition)) (joined arm otherwise)

abbrev pub made_otherwise : PartWords → Bool → Bool → PlainStmts → PlainStmts
made_otherwise p exits nothing otherwise =
    if nothing then no_stmt else stmt (masks p.free (if exits then where_not_taken p else where_other p)) otherwise

-- ---- loops

-- an iteration: where the condition doesn't hold, the loop is left
abbrev pub made_iteration : PartWords → PlainSp → Bool → PlainStmts → Option PlainAssignment → PlainStmts
made_iteration p condition exits body step =
    stmt (masks p.free (where_so p.free condition)) (joined body (joined (made_again p exits) (made_step p.free step)))

-- a loop of bound 0 sets the flag where its condition holds
abbrev pub made_loop : PartWords → ℕ → PlainSp → Bool → PlainStmts → PlainStmts
made_loop p zero condition exits iteration = one (overruns p.own condition)
made_loop p (suc n) condition exits iteration =
    stmt (masks p.free (bit_of p.own))
    (stmt (tree.iterations (suc n) iteration) (stmt (overruns p.free condition) (made_behind p exits)))

-- A loop that counts makes exactly the iterations of its bound: what stood right before it began its variable, and its
-- body neither sets the variable nor leaves the loop
abbrev pub is_counted : Option Start → ℕ → PlainSp → PlainActions → Option PlainAssignment → Bool
is_counted None most condition body step = false
is_counted (Some s) most condition body step =
    counts s.value (more_by s.level step) (limit_of s.level condition) most
    && (not (actions_set s.level body) && not (actions_exit by_leaving body))

-- its body stands in the part around it; or in one with a mask of its own, where there may be a `continue` in it
abbrev pub counted_part : PartWords → Bool → PartWords
counted_part p resumes = if resumes then in_counted p else p

-- each iteration begins that mask as the mask of the part around
abbrev pub made_begun : PartWords → Bool → PlainStmts
made_begun p resumes = if resumes then one (masks p.free (bit_of p.own)) else no_stmt

-- So such a loop needs no condition and no flag, and it repairs no mask: the step stands under that of the part around
abbrev pub made_counted : PartWords → ℕ → Bool → PlainStmts → Option PlainAssignment → PlainStmts
made_counted p most resumes body step =
    one (tree.iterations most (joined (made_begun p resumes) (joined body (made_step p.own step))))

-- ---- all actions, by what is known right before them

abbrev mutual
  pub made_action : Option Start → PartWords → PlainAction → PlainStmts
  made_action known p (sets a) = one (made_assignment p.own a)
  made_action known p (calls k args result) = made_call p k args result
  made_action known p (transfers core source target count) = one (tree.transfers p.own core source target count)
  made_action known p (chooses branches otherwise) =
      joined (made_branches p branches (is_no_action otherwise) (λ q. made None q otherwise))
      (made_after p (branches_exit any_exit branches || actions_exit any_exit otherwise))
  made_action known p (iterations most condition body step) =
      if is_counted known most condition body step
      then made_counted p most (actions_exit by_continue body)
      (made None (counted_part p (actions_exit by_continue body)) body) step
      else made_loop p most condition (actions_exit by_return body)
      (made_iteration p condition (actions_exit by_continue body) (made None (in_loop p) body) step)
  made_action known p breaks = one (masks p.iteration (broken p))
  made_action known p continues = one (masks p.iteration (continued p))
  made_action known p (returns e) = made_return p e

  pub made : Option Start → PartWords → PlainActions → PlainStmts
  made known p no_action = no_stmt
  made known p (action a rest) = joined (made_action known p a) (if ends a then no_stmt else made (start_of a) p rest)

  -- `else if` is an `if` after `else`; what stands after the last `else` may be nothing
  pub made_branches : PartWords → PlainBranches → Bool → (PartWords → PlainStmts) → PlainStmts
  made_branches p no_branch nothing otherwise = otherwise p
  made_branches p (branch condition body rest) nothing otherwise =
      made_arm p condition (made None (in_arm p) body)
      (made_otherwise p (actions_exit any_exit body) (is_no_branch rest && nothing) (made_branches (in_arm p) rest nothing otherwise))
