use Rattle.std.proofs.Common.{◌≡◌, OnOk, refl, ap, sym, ◌∙◌, subst, arith, None, ◌∷◌, length, ◌+◌, ap₂}
use Rattle.std.specs.Prelude.{option_map, ◌&&◌, if◌then◌else◌}
use Rattle.std.proofs.lemmas.List.{nil_from_length}
use Rattle.std.specs.declared.vec.IntoIter.{IntoIter}
use Rattle.std.specs.Vec.Iter.{into_iter_items, into_iter_len}
use Rattle.sp_tree.specs.Plain.{plain_sp}
use Rattle.sp_tree.specs.Shown.{stmts_of}
use Rattle.sp_tree.specs.Statements.{PlainStmts, joined, masks, one}
use Rattle.c_meaning.specs.Shown.{plain_action, plain_assignment, actions_of, branches_of}
use Rattle.single_path.specs.Made.{actions_exit, any_exit, is_counted, made, made_action, made_branches, is_no_action, is_no_branch}
use Rattle.single_path.specs.declared.part_words.PartWords.{PartWords}
use Rattle.single_path.specs.PartWords.{in_arm, where_not_taken, where_other}
use Rattle.single_path.specs.Widths as width
use Rattle.c_meaning.specs.Sizes.{action_size, actions_size, branches_size}
use Rattle.single_path.proofs.Converted.{choose_is, loop_is, counted_made, repeated_made, counted_masks, next_action, no_action_left, arm_added, nothing_added, nothing_left, otherwise_added}
use Rattle.single_path.proofs.Idle.{part_free}
use Rattle.single_path.proofs.statements.+conversion.Goals as goal

rest_count : {X Z : Type 0} (left rest : IntoIter X Z) (x : X) → into_iter_items left ≡ x ∷ into_iter_items rest
    → into_iter_len left ≡ length (into_iter_items left) → into_iter_len rest + 1 ≡ into_iter_len left
    → into_iter_len rest ≡ length (into_iter_items rest)
rest_count left rest x is count fewer = omega (arith, count, fewer, ap length is)

pub add_action-add_choice-requires : goal.add_action-add_choice-requires
add_action-add_choice-requires t c =
    let same = choose_is c.args.action c.in-Choose.branches c.in-Choose.branches c.in-Choose.otherwise
    c.in-Choose.otherwise c.in-Choose.is refl refl in
    let size = ap action_size same in
    let taken = ap width.action_masks same in
    (omega (arith, c.decreases, size), omega (arith, c.requires, taken))

pub add_action-add_counted-requires : goal.add_action-add_counted-requires
add_action-add_counted-requires t c =
    let body = actions_of c.in-Loop.body in
    let same = loop_is c.args.action c.in-Loop.max c.in-Loop.condition c.in-Loop.body c.in-Loop.body c.in-Loop.step
    c.in-Loop.is refl in
    let size = ap action_size same in
    let taken = ap width.action_masks same in
    let counted = c.is_counted.ensures ∙ ap (λ xs. is_counted c.args.known c.in-Loop.max (plain_sp c.in-Loop.condition)
    (actions_of xs) (option_map plain_assignment c.in-Loop.step)) c.as_slice.ensures in
    let some = counted_masks c.args.known c.in-Loop.max (plain_sp c.in-Loop.condition) body
    (option_map plain_assignment c.in-Loop.step) (width.masks body) c.is_counted.result counted c.if-is_counted.true in
    (omega (arith, c.decreases, size), omega (arith, c.requires, taken, some))

pub add_counted-add_all-requires : goal.add_counted-add_all-requires
add_counted-add_all-requires t c =
    let free = ap (λ (q : PartWords). q.free) c.counted_part-inner.ensures in
    (omega (arith, c.decreases), omega (arith, c.requires, free, part_free c.args.part c.may_exit-resumes.result))

pub add_action-add_repeated-requires : goal.add_action-add_repeated-requires
add_action-add_repeated-requires t c =
    let same = loop_is c.args.action c.in-Loop.max c.in-Loop.condition c.in-Loop.body c.in-Loop.body c.in-Loop.step
    c.in-Loop.is refl in
    let size = ap action_size same in
    let taken = ap width.action_masks same in
    (omega (arith, c.decreases, size), omega (arith, c.requires, taken))

pub add_action-returns-in-Set : goal.add_action-returns-in-Set
unfolding plain_action
add_action-returns-in-Set t c =
    subst (λ a. OnOk c.add_assignment.result (stmts_of c.add_assignment.new.out.items
    ≡ joined (stmts_of c.args.out.now.items) (made_action c.args.known c.args.part (plain_action a))))
    (sym c.in-Set.is) c.add_assignment.ensures

pub add_action-returns-in-Send : goal.add_action-returns-in-Send
unfolding plain_action
add_action-returns-in-Send t c =
    subst (λ a. OnOk c.add_send.result (stmts_of c.add_send.new.out.items
    ≡ joined (stmts_of c.args.out.now.items) (made_action c.args.known c.args.part (plain_action a))))
    (sym c.in-Send.is) c.add_send.ensures

pub add_action-returns-in-Break : goal.add_action-returns-in-Break
unfolding plain_action
add_action-returns-in-Break t c =
    subst (λ a. OnOk c.add_break.result (stmts_of c.add_break.new.out.items
    ≡ joined (stmts_of c.args.out.now.items) (made_action c.args.known c.args.part (plain_action a))))
    (sym c.in-Break.is) c.add_break.ensures

pub add_action-returns-in-Continue : goal.add_action-returns-in-Continue
unfolding plain_action
add_action-returns-in-Continue t c =
    subst (λ a. OnOk c.add_continue.result (stmts_of c.add_continue.new.out.items
    ≡ joined (stmts_of c.args.out.now.items) (made_action c.args.known c.args.part (plain_action a))))
    (sym c.in-Continue.is) c.add_continue.ensures

pub add_action-returns-in-Return : goal.add_action-returns-in-Return
unfolding plain_action
add_action-returns-in-Return t c =
    subst (λ a. OnOk c.add_return.result (stmts_of c.add_return.new.out.items
    ≡ joined (stmts_of c.args.out.now.items) (made_action c.args.known c.args.part (plain_action a))))
    (sym c.in-Return.is) c.add_return.ensures

pub add_action-returns-in-Call : goal.add_action-returns-in-Call
unfolding plain_action
add_action-returns-in-Call t c =
    subst (λ a. OnOk c.add_call.result (stmts_of c.add_call.new.out.items
    ≡ joined (stmts_of c.args.out.now.items) (made_action c.args.known c.args.part (plain_action a))))
    (sym c.in-Call.is) c.add_call.ensures

pub add_action-returns-in-Choose : goal.add_action-returns-in-Choose
add_action-returns-in-Choose t c =
    subst (λ a. OnOk c.add_choice.result (stmts_of c.add_choice.new.out.items
    ≡ joined (stmts_of c.args.out.now.items) (made_action c.args.known c.args.part a)))
    (choose_is c.args.action c.in-Choose.branches c.in-Choose.branches c.in-Choose.otherwise c.in-Choose.otherwise
    c.in-Choose.is refl refl) c.add_choice.ensures

pub add_action-returns-then-is_counted : goal.add_action-returns-then-is_counted
add_action-returns-then-is_counted t c =
    let counted = ap (λ xs. is_counted c.args.known c.in-Loop.max (plain_sp c.in-Loop.condition)
    (actions_of xs) (option_map plain_assignment c.in-Loop.step)) c.as_slice.ensures in
    subst (λ ts. OnOk c.add_counted.result (stmts_of c.add_counted.new.out.items
    ≡ joined (stmts_of c.args.out.now.items) ts))
    (counted_made c.args.known c.args.part c.in-Loop.max (plain_sp c.in-Loop.condition) (actions_of c.in-Loop.body)
    (option_map plain_assignment c.in-Loop.step) (sym (c.is_counted.ensures ∙ counted) ∙ c.if-is_counted.true)
    ∙ ap (made_action c.args.known c.args.part)
    (loop_is c.args.action c.in-Loop.max c.in-Loop.condition c.in-Loop.body c.in-Loop.body c.in-Loop.step c.in-Loop.is
    refl))
    c.add_counted.ensures

pub add_action-returns-else-is_counted : goal.add_action-returns-else-is_counted
add_action-returns-else-is_counted t c =
    let counted = ap (λ xs. is_counted c.args.known c.in-Loop.max (plain_sp c.in-Loop.condition)
    (actions_of xs) (option_map plain_assignment c.in-Loop.step)) c.as_slice.ensures in
    subst (λ ts. OnOk c.add_repeated.result (stmts_of c.add_repeated.new.out.items
    ≡ joined (stmts_of c.args.out.now.items) ts))
    (repeated_made c.args.known c.args.part c.in-Loop.max (plain_sp c.in-Loop.condition) (actions_of c.in-Loop.body)
    (option_map plain_assignment c.in-Loop.step) (sym (c.is_counted.ensures ∙ counted) ∙ c.if-is_counted.false)
    ∙ ap (made_action c.args.known c.args.part)
    (loop_is c.args.action c.in-Loop.max c.in-Loop.condition c.in-Loop.body c.in-Loop.body c.in-Loop.step c.in-Loop.is
    refl))
    c.add_repeated.ensures

pub add_all-loop-action-preserved : goal.add_all-loop-action-preserved
add_all-loop-action-preserved t c =
    let is = c.in-Some.ensures.steps.0 in
    let size = ap (λ xs. actions_size (actions_of xs)) is in
    let taken = ap (λ xs. width.masks (actions_of xs)) is in
    let made_so_far = next_action c.loop-action.known c.args.part (stmts_of c.loop-action.out.items)
    (stmts_of c.add_action.new.out.items)
    (joined (stmts_of c.args.out.now.items) (made None c.args.part (actions_of c.args.actions)))
    (into_iter_items c.loop-action.action-iterator) (into_iter_items c.next.new.self) c.in-Some.action is
    (sym c.ends-last.ensures ∙ c.if-last.false) c.in_ok-add_action.ensures c.loop-action.invariant.0 in (
      subst (λ known. joined (stmts_of c.add_action.new.out.items)
          (made known c.args.part (actions_of (into_iter_items c.next.new.self)))
          ≡ joined (stmts_of c.args.out.now.items) (made None c.args.part (actions_of c.args.actions)))
          (sym c.start_of-next.ensures) made_so_far,
      omega (arith, c.loop-action.invariant.1, size),
      omega (arith, c.loop-action.invariant.2, taken),
      omega (arith, c.loop-action.invariant.3, c.in-Some.ensures.steps.1, ap length is),
    )

pub add_all-returns : goal.add_all-returns
add_all-returns t c =
    no_action_left c.loop-action.known c.args.part (stmts_of c.loop-action.out.items)
    (joined (stmts_of c.args.out.now.items) (made None c.args.part (actions_of c.args.actions)))
    (into_iter_items c.loop-action.action-iterator)
    (nil_from_length _ (sym c.loop-action.invariant.3 ∙ c.in-None.ensures.steps.0)) c.loop-action.invariant.0

pub add_arms-loop-branch-init : goal.add_arms-loop-branch-init
add_arms-loop-branch-init t c =
    let nothing = is_no_action (actions_of c.args.otherwise) in
    let is = c.into_iter-left.ensures.rest ∙ c.into_vec.ensures in
    let size = ap (λ bs. branches_size (branches_of bs)) is in
    let taken = ap (λ bs. width.branches_masks (branches_of bs) (width.masks (actions_of c.args.otherwise))) is in (
      ap (λ bs. joined (stmts_of c.args.out.now.items) (made_branches c.args.part (branches_of bs) nothing
          (λ q. made None q (actions_of c.args.otherwise)))) is,
      omega (arith, size),
      omega (arith, taken),
      c.into_iter-left.ensures.len ∙ c.into_vec.result.ok.0 ∙ sym (ap length c.into_iter-left.ensures.rest),
    )

pub add_arms-begin_arm-requires : goal.add_arms-begin_arm-requires
add_arms-begin_arm-requires t c =
    let taken = ap (λ bs. width.branches_masks (branches_of bs) (width.masks (actions_of c.args.otherwise)))
    c.in-Some.ensures.items in
    omega (arith, c.requires, taken, c.loop-branch.invariant.2)

pub add_arms-add_all-requires : goal.add_arms-add_all-requires
add_arms-add_all-requires t c =
    let size = ap (λ bs. branches_size (branches_of bs)) c.in-Some.ensures.items in
    let taken = ap (λ bs. width.branches_masks (branches_of bs) (width.masks (actions_of c.args.otherwise)))
    c.in-Some.ensures.items in
    let free = ap (λ (q : PartWords). q.free) c.in_ok-arm.ensures.arm in (
      omega (arith, c.decreases, size, c.loop-branch.invariant.1),
      omega (arith, c.requires, taken, free, c.loop-branch.invariant.2),
    )

pub add_arms-returns-then-stands_nothing : goal.add_arms-returns-then-stands_nothing
add_arms-returns-then-stands_nothing t c =
    let nothing = is_no_action (actions_of c.args.otherwise) in
    let otherwise : PartWords → PlainStmts = λ q. made None q (actions_of c.args.otherwise) in
    let around = c.loop-branch.around in
    let body = actions_of c.in-Some.branch.body in
    let rest = into_iter_items c.next.new.self in
    let second = stmts_of c.add_all.new.out.items in
    let is = c.in-Some.ensures.items in
    let count = c.len.ensures ∙ rest_count c.loop-branch.left c.next.new.self c.in-Some.branch is
    c.loop-branch.invariant.3 c.in-Some.ensures.cases.1 in
    let added = arm_added around (stmts_of c.loop-branch.out.items) (stmts_of c.begin_arm.new.out.items) second
    (joined (stmts_of c.args.out.now.items) (made_branches c.args.part (branches_of c.args.branches) nothing otherwise))
    (into_iter_items c.loop-branch.left) rest c.in-Some.branch nothing otherwise is c.in_ok-arm.ensures.mask
    (c.in_ok-add_all.ensures ∙ ap (λ q. joined (stmts_of c.begin_arm.new.out.items) (made None q body))
    c.in_ok-arm.ensures.arm) c.loop-branch.invariant.0 in
    let stood = nothing_left rest c.len.result c.args.otherwise c.as_slice-in-Some.result.now c.stands_nothing.result
    count c.as_slice-in-Some.ensures c.stands_nothing.ensures in
    nothing_added around second (made_branches (in_arm around) (branches_of rest) nothing otherwise)
    (actions_exit any_exit body) (is_no_branch (branches_of rest) && nothing) (stood ∙ c.if-stands_nothing.true) ∙ added

pub add_arms-loop-branch-preserved : goal.add_arms-loop-branch-preserved
add_arms-loop-branch-preserved t c =
    let nothing = is_no_action (actions_of c.args.otherwise) in
    let otherwise : PartWords → PlainStmts = λ q. made None q (actions_of c.args.otherwise) in
    let around = c.loop-branch.around in
    let body = actions_of c.in-Some.branch.body in
    let rest = into_iter_items c.next.new.self in
    let second = stmts_of c.add_all.new.out.items in
    let is = c.in-Some.ensures.items in
    let count = c.len.ensures ∙ rest_count c.loop-branch.left c.next.new.self c.in-Some.branch is
    c.loop-branch.invariant.3 c.in-Some.ensures.cases.1 in
    let added = arm_added around (stmts_of c.loop-branch.out.items) (stmts_of c.begin_arm.new.out.items) second
    (joined (stmts_of c.args.out.now.items) (made_branches c.args.part (branches_of c.args.branches) nothing otherwise))
    (into_iter_items c.loop-branch.left) rest c.in-Some.branch nothing otherwise is c.in_ok-arm.ensures.mask
    (c.in_ok-add_all.ensures ∙ ap (λ q. joined (stmts_of c.begin_arm.new.out.items) (made None q body))
    c.in_ok-arm.ensures.arm) c.loop-branch.invariant.0 in
    let stood = nothing_left rest c.len.result c.args.otherwise c.as_slice-in-Some.result.now c.stands_nothing.result
    count c.as_slice-in-Some.ensures c.stands_nothing.ensures in
    let exits = c.may_exit-exits.ensures ∙ ap₂ (λ q xs. actions_exit q (actions_of xs)) c.any_exit.ensures
    c.as_slice.ensures in
    let begun = c.in_ok-begin_otherwise.ensures ∙ ap (λ b. joined second (one (masks around.free
    (if b then where_not_taken around else where_other around)))) exits in
    let third = otherwise_added around second (stmts_of c.begin_otherwise.new.out.items)
    (made_branches (in_arm around) (branches_of rest) nothing otherwise) (actions_exit any_exit body)
    (is_no_branch (branches_of rest) && nothing) (stood ∙ c.if-stands_nothing.false) begun in
    let size = ap (λ bs. branches_size (branches_of bs)) is in
    let taken = ap (λ bs. width.branches_masks (branches_of bs) (width.masks (actions_of c.args.otherwise))) is in
    let free = ap (λ (q : PartWords). q.free) c.in_ok-arm.ensures.arm in (
      ap (λ q. joined (stmts_of c.begin_otherwise.new.out.items) (made_branches q (branches_of rest) nothing otherwise))
          c.in_ok-arm.ensures.arm ∙ third ∙ added,
      omega (arith, size, c.loop-branch.invariant.1),
      omega (arith, taken, free, c.loop-branch.invariant.2),
      rest_count c.loop-branch.left c.next.new.self c.in-Some.branch is c.loop-branch.invariant.3
          c.in-Some.ensures.cases.1,
    )

pub add_arms-add_all-requires-2 : goal.add_arms-add_all-requires-2
add_arms-add_all-requires-2 t c =
    let none = nil_from_length _ (sym c.loop-branch.invariant.3 ∙ c.in_default.ensures.cases.0) in
    let size = ap (λ bs. branches_size (branches_of bs)) none in
    let taken = ap (λ bs. width.branches_masks (branches_of bs) (width.masks (actions_of c.args.otherwise))) none in (
      omega (arith, c.decreases, size, c.loop-branch.invariant.1),
      omega (arith, c.requires, taken, c.loop-branch.invariant.2),
    )

pub add_arms-returns : goal.add_arms-returns
add_arms-returns t c =
    let nothing = is_no_action (actions_of c.args.otherwise) in
    let none = nil_from_length _ (sym c.loop-branch.invariant.3 ∙ c.in_default.ensures.cases.0) in
    subst (λ w. OnOk c.add_all-2.result (stmts_of c.add_all-2.new.out.items ≡ w))
    (ap (λ bs. joined (stmts_of c.loop-branch.out.items) (made_branches c.loop-branch.around (branches_of bs) nothing
    (λ q. made None q (actions_of c.args.otherwise)))) (sym none) ∙ c.loop-branch.invariant.0)
    c.add_all-2.ensures
