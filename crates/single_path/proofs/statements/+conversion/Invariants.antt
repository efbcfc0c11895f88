use Rattle.std.proofs.Common.{◌≡◌, ◌+◌, ◌≤◌, None, length}
use Rattle.std.specs.Vec.Iter.{into_iter_items, into_iter_len}
use Rattle.sp_tree.specs.Shown.{stmts_of}
use Rattle.sp_tree.specs.Statements.{joined}
use Rattle.c_meaning.specs.Shown.{plain_action, actions_of, branches_of}
use Rattle.c_meaning.specs.Sizes.{action_size, actions_size, branches_size}
use Rattle.single_path.specs.Made.{made, made_branches, is_no_action}
use Rattle.single_path.specs.Widths.{masks, branches_masks}
use Rattle.single_path.proofs.statements.+conversion.Given as goal

-- what is made of the actions that are left stands after what is made so far
abbrev pub invariant-add_all-loop-action : goal.invariant-add_all-loop-action
invariant-add_all-loop-action l =
    let left = actions_of (into_iter_items l.action-iterator) in
    let all = actions_of l.fn.actions in
    (joined (stmts_of l.out.items) (made l.known l.part left)
    ≡ joined (stmts_of l.initial.out.items) (made None l.part all))
    × (actions_size left ≤ actions_size all) × (masks left ≤ masks all)
    × (into_iter_len l.action-iterator ≡ length (into_iter_items l.action-iterator))

-- so does what is made of the arms that are left
abbrev pub invariant-add_arms-loop-branch : goal.invariant-add_arms-loop-branch
invariant-add_arms-loop-branch l =
    let left = branches_of (into_iter_items l.left) in
    let all = branches_of l.fn.branches in
    let otherwise = actions_of l.fn.otherwise in
    let whole = made_branches l.fn.part all (is_no_action otherwise) (λ q. made None q otherwise) in
    (joined (stmts_of l.out.items) (made_branches l.around left (is_no_action otherwise) (λ q. made None q otherwise))
    ≡ joined (stmts_of l.initial.out.items) whole)
    × (branches_size left ≤ branches_size all)
    × (l.around.free + branches_masks left (masks otherwise) ≤ l.fn.part.free + branches_masks all (masks otherwise))
    × (into_iter_len l.left ≡ length (into_iter_items l.left))

abbrev pub decreases-add_arms-loop-branch : goal.decreases-add_arms-loop-branch
decreases-add_arms-loop-branch l = into_iter_len l.left

abbrev pub decreases-add_action : goal.decreases-add_action
decreases-add_action l = action_size (plain_action l.action)

abbrev pub decreases-add_all : goal.decreases-add_all
decreases-add_all l = actions_size (actions_of l.actions)

abbrev pub decreases-add_choice : goal.decreases-add_choice
decreases-add_choice l = 1 + branches_size (branches_of l.branches) + actions_size (actions_of l.otherwise)

abbrev pub decreases-add_arms : goal.decreases-add_arms
decreases-add_arms l = branches_size (branches_of l.branches) + actions_size (actions_of l.otherwise)

abbrev pub decreases-add_counted : goal.decreases-add_counted
decreases-add_counted l = 1 + actions_size (actions_of l.body)

abbrev pub decreases-add_repeated : goal.decreases-add_repeated
decreases-add_repeated l = 1 + actions_size (actions_of l.body)
