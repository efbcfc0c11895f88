-- To be believed. Programs whose names are resolved, without the places of their boxes in memory: variables are named
-- by their levels, all else by its place in the memories, functions by their numbers.
use Rattle.std.specs.Prelude.{ℕ, List, Option}
use Rattle.sp_tree.specs.Plain.{PlainSp}
use Rattle.sp_tree.specs.declared.expressions.SpArray.{SpArray}
use Rattle.sp_tree.specs.declared.expressions.SpCell.{SpCell}

-- what is set
pub data PlainTarget : Type 0 where
  to_level : ℕ → PlainTarget
  to_cell : SpCell → PlainTarget
  to_array : SpArray → PlainSp → PlainTarget

pub record PlainAssignment : Type 0 where
  pub target : PlainTarget
  pub value : PlainSp

-- A statement. Blocks and declarations are none: their statements stand among the others.
mutual
  pub data PlainAction : Type 0 where
    sets : PlainAssignment → PlainAction
    calls : ℕ → List PlainSp → Option PlainTarget → PlainAction
    transfers : ℕ → PlainSp → PlainSp → PlainSp → PlainAction
    chooses : PlainBranches → PlainActions → PlainAction
    iterations : ℕ → PlainSp → PlainActions → Option PlainAssignment → PlainAction
    breaks : PlainAction
    continues : PlainAction
    returns : PlainSp → PlainAction

  pub data PlainActions : Type 0 where
    no_action : PlainActions
    action : PlainAction → PlainActions → PlainActions

  -- conditions, and what is done under each
  pub data PlainBranches : Type 0 where
    no_branch : PlainBranches
    branch : PlainSp → PlainActions → PlainBranches → PlainBranches

abbrev pub one : PlainAction → PlainActions
one a = action a no_action

abbrev pub joined : PlainActions → PlainActions → PlainActions
joined no_action more = more
joined (action a rest) more = action a (joined rest more)
