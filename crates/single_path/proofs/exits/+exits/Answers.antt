use Rattle.std.proofs.Common.{◌≡◌, ap, subst, arith}
use Rattle.c_meaning.specs.Sizes.{action_size}
use Rattle.c_meaning.proofs.Falls.{part_size}
use Rattle.single_path.specs.Made.{action_exits}
use Rattle.single_path.proofs.Converted.{choose_is, loop_is}
use Rattle.single_path.proofs.exits.+exits.Goals as goal

pub one_exits-choice_exits-requires : goal.one_exits-choice_exits-requires
one_exits-choice_exits-requires t c =
    let size = ap action_size (choose_is c.args.action.now c.in-Choose.branches c.as_slice.result.now
    c.in-Choose.otherwise c.as_slice-in-Choose.result.now
    c.in-Choose.is c.as_slice.ensures c.as_slice-in-Choose.ensures) in
    (omega (arith, c.decreases, size), tt)

pub one_exits-body_exits-requires : goal.one_exits-body_exits-requires
one_exits-body_exits-requires t c =
    let size = ap action_size (loop_is c.args.action.now c.in-Loop.max c.in-Loop.condition c.in-Loop.body
    c.as_slice-in-Loop.result.now c.in-Loop.step c.in-Loop.is
    c.as_slice-in-Loop.ensures) in
    (omega (arith, c.decreases, size), tt)

pub one_exits-returns-in-Choose : goal.one_exits-returns-in-Choose
one_exits-returns-in-Choose t c =
    subst (λ a. c.choice_exits.result ≡ action_exits c.args.asked a)
    (choose_is c.args.action.now c.in-Choose.branches c.as_slice.result.now c.in-Choose.otherwise
    c.as_slice-in-Choose.result.now
    c.in-Choose.is c.as_slice.ensures c.as_slice-in-Choose.ensures) c.choice_exits.ensures

pub one_exits-returns-in-Loop : goal.one_exits-returns-in-Loop
one_exits-returns-in-Loop t c =
    subst (λ a. c.body_exits.result ≡ action_exits c.args.asked a)
    (loop_is c.args.action.now c.in-Loop.max c.in-Loop.condition c.in-Loop.body c.as_slice-in-Loop.result.now
    c.in-Loop.step c.in-Loop.is
    c.as_slice-in-Loop.ensures) c.body_exits.ensures

pub may_exit-one_exits-requires : goal.may_exit-one_exits-requires
may_exit-one_exits-requires t c =
    let part = part_size c.args.actions.now c.loop-action.action-index c.action-item.result
    (omega arith) c.action-item.is in
    (omega (arith, c.decreases, part), tt)
