use Rattle.std.proofs.Common.{◌≡◌, ap, subst, arith}
use Rattle.c_meaning.specs.Sizes.{action_size}
use Rattle.c_meaning.proofs.Falls.{part_size}
use Rattle.single_path.specs.Counted.{action_sets}
use Rattle.single_path.proofs.Converted.{choose_is, loop_is}
use Rattle.single_path.proofs.counted.+sets.Goals as goal

pub one_sets-choice_sets-requires : goal.one_sets-choice_sets-requires
one_sets-choice_sets-requires t c =
    let size = ap action_size (choose_is c.args.action.now c.in-Choose.branches c.as_slice.result.now
    c.in-Choose.otherwise c.as_slice-in-Choose.result.now
    c.in-Choose.is c.as_slice.ensures c.as_slice-in-Choose.ensures) in
    (omega (arith, c.decreases, size), tt)

pub one_sets-loop_sets-requires : goal.one_sets-loop_sets-requires
one_sets-loop_sets-requires t c =
    let size = ap action_size (loop_is c.args.action.now c.in-Loop.max c.in-Loop.condition c.in-Loop.body
    c.as_slice-in-Loop.result.now c.in-Loop.step c.in-Loop.is
    c.as_slice-in-Loop.ensures) in
    (omega (arith, c.decreases, size), tt)

pub one_sets-returns-in-Choose : goal.one_sets-returns-in-Choose
one_sets-returns-in-Choose t c =
    subst (λ a. c.choice_sets.result ≡ action_sets c.args.level a)
    (choose_is c.args.action.now c.in-Choose.branches c.as_slice.result.now c.in-Choose.otherwise
    c.as_slice-in-Choose.result.now
    c.in-Choose.is c.as_slice.ensures c.as_slice-in-Choose.ensures) c.choice_sets.ensures

pub one_sets-returns-in-Loop : goal.one_sets-returns-in-Loop
one_sets-returns-in-Loop t c =
    subst (λ a. c.loop_sets.result ≡ action_sets c.args.level a)
    (loop_is c.args.action.now c.in-Loop.max c.in-Loop.condition c.in-Loop.body c.as_slice-in-Loop.result.now
    c.in-Loop.step c.in-Loop.is
    c.as_slice-in-Loop.ensures) c.loop_sets.ensures

pub all_set-one_sets-requires : goal.all_set-one_sets-requires
all_set-one_sets-requires t c =
    let part = part_size c.args.actions.now c.loop-action.action-index c.action-item.result
    (omega arith) c.action-item.is in
    (omega (arith, c.decreases, part), tt)
