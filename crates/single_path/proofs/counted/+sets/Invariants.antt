use Rattle.std.proofs.Common.{◌≡◌, ◌+◌, drop}
use Rattle.c_meaning.specs.Shown.{plain_action, actions_of, branches_of}
use Rattle.c_meaning.specs.Sizes.{action_size, actions_size, branches_size}
use Rattle.single_path.specs.Counted.{actions_set}
use Rattle.single_path.proofs.counted.+sets.Given as goal

abbrev pub invariant-all_set-loop-action : goal.invariant-all_set-loop-action
invariant-all_set-loop-action l =
    actions_set l.level (actions_of (drop l.action-index l.actions)) ≡ actions_set l.level (actions_of l.actions)

abbrev pub decreases-one_sets : goal.decreases-one_sets
decreases-one_sets l = action_size (plain_action l.action.now)

abbrev pub decreases-all_set : goal.decreases-all_set
decreases-all_set l = actions_size (actions_of l.actions.now)

abbrev pub decreases-loop_sets : goal.decreases-loop_sets
decreases-loop_sets l = 1 + actions_size (actions_of l.body.now)

abbrev pub decreases-choice_sets : goal.decreases-choice_sets
decreases-choice_sets l = 1 + branches_size (branches_of l.branches.now) + actions_size (actions_of l.otherwise.now)

abbrev pub decreases-arms_set : goal.decreases-arms_set
decreases-arms_set l = branches_size (branches_of l.branches.now)
