use Rattle.std.proofs.Common.{◌≡◌, map, max, ap, sym, subst, arith}
use Rattle.std.specs.Prelude.{option_map}
use Rattle.sp_tree.specs.Plain.{plain_sp}
use Rattle.c_meaning.specs.Shown.{plain_action, plain_target}
use Rattle.c_meaning.specs.Sizes.{action_size}
use Rattle.c_meaning.proofs.Falls.{part_size}
use Rattle.single_path.specs.Widths.{action_words, action_masks, args_words, result_words, capped}
use Rattle.single_path.proofs.Converted.{choose_is, loop_is}
use Rattle.single_path.proofs.widths.+width.Goals as goal

pub one-choice-requires : goal.one-choice-requires
one-choice-requires t c =
    let size = ap action_size (choose_is c.args.action.now c.in-Choose.branches c.as_slice-in-Choose.result.now
    c.in-Choose.otherwise c.as_slice-in-Choose-2.result.now
    c.in-Choose.is c.as_slice-in-Choose.ensures c.as_slice-in-Choose-2.ensures) in
    (omega (arith, c.decreases, size), tt)

pub one-iterations-requires : goal.one-iterations-requires
one-iterations-requires t c =
    let size = ap action_size (loop_is c.args.action.now c.in-Loop.max c.in-Loop.condition c.in-Loop.body
    c.as_slice-in-Loop.result.now c.in-Loop.step c.in-Loop.is
    c.as_slice-in-Loop.ensures) in
    (omega (arith, c.decreases, size), tt)

pub one-returns-in-Set-clause-variables : goal.one-returns-in-Set-clause-variables
unfolding plain_action
one-returns-in-Set-clause-variables t c =
    subst (λ a. c.set_width.result.variables ≡ capped (action_words (plain_action a))) (sym c.in-Set.is)
    c.set_width.ensures.variables

pub one-returns-in-Set-clause-masks : goal.one-returns-in-Set-clause-masks
unfolding plain_action
one-returns-in-Set-clause-masks t c =
    subst (λ a. c.set_width.result.masks ≡ capped (action_masks (plain_action a))) (sym c.in-Set.is)
    c.set_width.ensures.masks

pub one-returns-in-Call-clause-variables : goal.one-returns-in-Call-clause-variables
unfolding plain_action
one-returns-in-Call-clause-variables t c =
    subst (λ a. c.call.result.variables ≡ capped (action_words (plain_action a))) (sym c.in-Call.is)
    (subst (λ vs. c.call.result.variables ≡ capped (max (args_words (map plain_sp vs))
    (result_words (option_map plain_target c.in-Call.target))))
    c.as_slice.ensures c.call.ensures.variables)

pub one-returns-in-Call-clause-masks : goal.one-returns-in-Call-clause-masks
unfolding plain_action
one-returns-in-Call-clause-masks t c =
    subst (λ a. c.call.result.masks ≡ capped (action_masks (plain_action a))) (sym c.in-Call.is) c.call.ensures.masks

pub one-returns-in-Send-clause-variables : goal.one-returns-in-Send-clause-variables
unfolding plain_action
one-returns-in-Send-clause-variables t c =
    subst (λ a. c.send.result.variables ≡ capped (action_words (plain_action a))) (sym c.in-Send.is)
    c.send.ensures.variables

pub one-returns-in-Send-clause-masks : goal.one-returns-in-Send-clause-masks
unfolding plain_action
one-returns-in-Send-clause-masks t c =
    subst (λ a. c.send.result.masks ≡ capped (action_masks (plain_action a))) (sym c.in-Send.is) c.send.ensures.masks

pub one-returns-in-Choose-clause-variables : goal.one-returns-in-Choose-clause-variables
one-returns-in-Choose-clause-variables t c =
    subst (λ a. c.choice.result.variables ≡ capped (action_words a))
    (choose_is c.args.action.now c.in-Choose.branches c.as_slice-in-Choose.result.now c.in-Choose.otherwise
    c.as_slice-in-Choose-2.result.now
    c.in-Choose.is c.as_slice-in-Choose.ensures c.as_slice-in-Choose-2.ensures) c.choice.ensures.variables

pub one-returns-in-Choose-clause-masks : goal.one-returns-in-Choose-clause-masks
one-returns-in-Choose-clause-masks t c =
    subst (λ a. c.choice.result.masks ≡ capped (action_masks a))
    (choose_is c.args.action.now c.in-Choose.branches c.as_slice-in-Choose.result.now c.in-Choose.otherwise
    c.as_slice-in-Choose-2.result.now
    c.in-Choose.is c.as_slice-in-Choose.ensures c.as_slice-in-Choose-2.ensures) c.choice.ensures.masks

pub one-returns-in-Loop-clause-variables : goal.one-returns-in-Loop-clause-variables
one-returns-in-Loop-clause-variables t c =
    subst (λ a. c.iterations.result.variables ≡ capped (action_words a))
    (loop_is c.args.action.now c.in-Loop.max c.in-Loop.condition c.in-Loop.body c.as_slice-in-Loop.result.now
    c.in-Loop.step c.in-Loop.is
    c.as_slice-in-Loop.ensures) c.iterations.ensures.variables

pub one-returns-in-Loop-clause-masks : goal.one-returns-in-Loop-clause-masks
one-returns-in-Loop-clause-masks t c =
    subst (λ a. c.iterations.result.masks ≡ capped (action_masks a))
    (loop_is c.args.action.now c.in-Loop.max c.in-Loop.condition c.in-Loop.body c.as_slice-in-Loop.result.now
    c.in-Loop.step c.in-Loop.is
    c.as_slice-in-Loop.ensures) c.iterations.ensures.masks

pub one-returns-in-Return-clause-variables : goal.one-returns-in-Return-clause-variables
unfolding plain_action
one-returns-in-Return-clause-variables t c =
    subst (λ a. c.value_width.result.variables ≡ capped (action_words (plain_action a))) (sym c.in-Return.is)
    c.value_width.ensures.variables

pub one-returns-in-Return-clause-masks : goal.one-returns-in-Return-clause-masks
unfolding plain_action
one-returns-in-Return-clause-masks t c =
    subst (λ a. c.value_width.result.masks ≡ capped (action_masks (plain_action a))) (sym c.in-Return.is)
    c.value_width.ensures.masks

pub width_of-one-width-requires : goal.width_of-one-width-requires
width_of-one-width-requires t c =
    let part = part_size c.args.actions.now c.loop-action.action-index c.action-item.result
    (omega arith) c.action-item.is in
    (omega (arith, c.decreases, part), tt)
