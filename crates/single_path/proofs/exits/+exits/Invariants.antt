use Rattle.std.proofs.Common.{◌≡◌, ◌+◌, drop}
use Rattle.c_meaning.specs.Shown.{plain_action, actions_of, branches_of}
use Rattle.c_meaning.specs.Sizes.{action_size, actions_size, branches_size}
use Rattle.single_path.specs.Made.{actions_exit}
use Rattle.single_path.proofs.exits.+exits.Given as goal

abbrev pub invariant-may_exit-loop-action : goal.invariant-may_exit-loop-action
invariant-may_exit-loop-action l =
    actions_exit l.asked (actions_of (drop l.action-index l.actions)) ≡ actions_exit l.asked (actions_of l.actions)

abbrev pub decreases-one_exits : goal.decreases-one_exits
decreases-one_exits l = action_size (plain_action l.action.now)

abbrev pub decreases-may_exit : goal.decreases-may_exit
decreases-may_exit l = actions_size (actions_of l.actions.now)

abbrev pub decreases-body_exits : goal.decreases-body_exits
decreases-body_exits l = 1 + actions_size (actions_of l.body.now)

abbrev pub decreases-choice_exits : goal.decreases-choice_exits
decreases-choice_exits l = 1 + branches_size (branches_of l.branches.now) + actions_size (actions_of l.otherwise.now)

abbrev pub decreases-arms_exit : goal.decreases-arms_exit
decreases-arms_exit l = branches_size (branches_of l.branches.now)
