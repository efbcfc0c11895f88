use Rattle.std.proofs.Common.{◌≡◌, ◌+◌, drop, max}
use Rattle.c_meaning.specs.Shown.{plain_action, actions_of, branches_of}
use Rattle.c_meaning.specs.Sizes.{action_size, actions_size, branches_size}
use Rattle.single_path.specs.Widths.{words, masks, capped}
use Rattle.single_path.proofs.widths.+width.Given as goal

abbrev pub invariant-width_of-loop-action : goal.invariant-width_of-loop-action
invariant-width_of-loop-action l = record {
  variables : max l.most.variables (capped (words (actions_of (drop l.action-index l.actions))))
      ≡ capped (words (actions_of l.actions));
  masks : max l.most.masks (capped (masks (actions_of (drop l.action-index l.actions))))
      ≡ capped (masks (actions_of l.actions));
}

abbrev pub decreases-one : goal.decreases-one
decreases-one l = action_size (plain_action l.action.now)

abbrev pub decreases-width_of : goal.decreases-width_of
decreases-width_of l = actions_size (actions_of l.actions.now)

abbrev pub decreases-choice : goal.decreases-choice
decreases-choice l = 1 + branches_size (branches_of l.branches.now) + actions_size (actions_of l.otherwise.now)

abbrev pub decreases-arms : goal.decreases-arms
decreases-arms l = branches_size (branches_of l.branches.now)

abbrev pub decreases-iterations : goal.decreases-iterations
decreases-iterations l = 1 + actions_size (actions_of l.body.now)
