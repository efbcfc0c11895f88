use Rattle.std.proofs.Common.{◌≡◌, ◌≤◌, zero, suc, ◌+◌, ◌-◌, List, length, drop, map, slice_index, ap, ap₂, sym, ◌∙◌, subst, arith}
use Rattle.std.proofs.lemmas.List.{length-take-le}
use Rattle.std.specs.Prelude.{option_map}
use Rattle.c_world.specs.Shown.{shown}
use Rattle.c_world.specs.World.{with_send}
use Rattle.sp_tree.specs.Plain.{plain_sp}
use Rattle.sp_tree.proofs.Runs.{sent_shown}
use Rattle.c_meaning.specs.declared.actions.Action.{Action}
use Rattle.c_meaning.specs.declared.actions.Routine.{Routine}
use Rattle.c_meaning.specs.declared.ways.Way.TheVariants as way
use Rattle.c_meaning.specs.Meaning.{Done, Outcome, goes_on, iteration_done, iterations_done}
use Rattle.c_meaning.specs.Resolved.{worth, args_worth, holds, step_done, outcome_done, action_done, actions_done, branches_done}
use Rattle.c_meaning.specs.Shown.{plain_action, plain_target, plain_assignment, actions_of, branches_of, bodies_of}
use Rattle.c_meaning.specs.Values.{State}
use Rattle.c_meaning.proofs.Acted.{plain_choose, plain_loop, body_at}
use Rattle.c_run.specs.Ran.{state_of, served_by, HasDone, HasOutcome}
use Rattle.c_meaning.specs.Sizes.{actions_size, branches_size}
use Rattle.c_run.specs.Sizes.{total}
use Rattle.c_run.proofs.Earlier.{earlier_serve, earlier_total}
use Rattle.c_meaning.proofs.Falls.{choose_size, loop_size, part_size}
use Rattle.c_run.proofs.Falls.{call_size, total_grows}
use Rattle.c_run.proofs.Runs.{has_done, along, reaches_first, reach_item, reach_end, next_action, left_by_break, left_by_continue, left_by_return, at_the_end, none_given, body_given, another_iteration, not_held, next_iteration, last_iteration, all_iterated}
use Rattle.c_run.proofs.run.+run.Goals as goal

pub act-called-given-requires : goal.act-called-given-requires
act-called-given-requires t c =
    let size = call_size c.args.action.now c.in-Call.function c.in-Call.args c.in-Call.target c.in-Call.is in
    (omega (arith, c.decreases, size), (c.requires.rest, c.requires.rooms))

pub act-choose-requires : goal.act-choose-requires
act-choose-requires t c =
    let size = choose_size c.args.action.now c.in-Choose.branches c.in-Choose.otherwise c.in-Choose.is in
    let branches = ap (λ bs. branches_size (branches_of bs)) c.as_slice-branches.ensures in
    let otherwise = ap (λ as'. actions_size (actions_of as')) c.as_slice-otherwise.ensures in
    (omega (arith, c.decreases, size, branches, otherwise), (c.requires.frame, (c.requires.rest, c.requires.rooms)))

pub act-iterations-requires : goal.act-iterations-requires
act-iterations-requires t c =
    let size = loop_size c.args.action.now c.in-Loop.max c.in-Loop.condition c.in-Loop.body c.in-Loop.step
    c.in-Loop.is in
    let body = ap (λ as'. actions_size (actions_of as')) c.as_slice-body.ensures in
    (omega (arith, c.decreases, size, body), (c.requires.frame, (c.requires.rest, c.requires.rooms)))

pub all-act-requires : goal.all-act-requires
all-act-requires t c =
    let part = part_size c.args.actions.now c.loop-action.action-index c.action-item.result
    (omega arith) c.action-item.is in
    (omega (arith, c.decreases, part), (omega arith, (omega arith, c.loop-action.invariant.rooms)))

pub choose-all-requires : goal.choose-all-requires
choose-all-requires t c =
    let own = ap (λ as'. actions_size (actions_of as')) c.as_slice.ensures in (
      omega (arith, c.decreases, c.in-Some.ensures.smaller, own),
      (c.requires.frame, (c.requires.rest, c.requires.rooms)),
    )

pub choose-all-requires-in-None : goal.choose-all-requires-in-None
choose-all-requires-in-None t c =
    (omega (arith, c.decreases), (c.requires.frame, (c.requires.rest, c.requires.rooms)))

pub iteration-all-requires : goal.iteration-all-requires
iteration-all-requires t c =
    (omega (arith, c.decreases), (c.requires.frame, (c.requires.rest, c.requires.rooms)))

pub iterations-iteration-requires : goal.iterations-iteration-requires
iterations-iteration-requires t c =
    (omega (arith, c.decreases), (omega arith, (omega arith, c.loop-iterated.invariant.rooms)))

pub act-returns-in-Set-clause-done : goal.act-returns-in-Set-clause-done
unfolding plain_action
act-returns-in-Set-clause-done t c =
    λ sends. has_done (action_done (served_by c.args.routines.now) (plain_action c.args.action.now)
    (state_of c.args.frame.now c.args.memory.now sends)) way.On c.assign.new.frame c.assign.new.memory sends
    (ap (λ a. action_done (served_by c.args.routines.now) (plain_action a) (state_of c.args.frame.now c.args.memory.now
    sends)) c.in-Set.is ∙ ap goes_on (c.assign.ensures.done sends))

pub act-returns-in-Call-clause-done : goal.act-returns-in-Call-clause-done
unfolding plain_action
act-returns-in-Call-clause-done t c =
    λ sends.
    let s : State = state_of c.args.frame.now c.args.memory.now sends in
    let result = option_map plain_target c.in-Call.target in
    let g : Outcome = served_by c.args.routines.now c.in-Call.function (args_worth (map plain_sp c.in-Call.args.values)
    s) (shown c.args.memory.now sends) in
    has_done (action_done (served_by c.args.routines.now) (plain_action c.args.action.now) s) way.On c.put.new.frame
    c.put.new.memory g.world.sends
    (ap (λ a. action_done (served_by c.args.routines.now) (plain_action a) s) c.in-Call.is
    ∙ ap (λ x. goes_on (outcome_done result s x)) (c.called-given.ensures.given sends).gives
    ∙ ap goes_on (sym (c.result_location-location.ensures g.world.sends c.called-given.result)
    ∙ c.put.ensures.done g.world.sends))

pub act-returns-in-Send-clause-done : goal.act-returns-in-Send-clause-done
unfolding plain_action
act-returns-in-Send-clause-done t c =
    λ sends.
    let s : State = (state_of c.args.frame.now c.args.memory.now sends) in
    let source = worth (plain_sp c.in-Send.source) s in
    let aim = worth (plain_sp c.in-Send.target) s in
    let count = worth (plain_sp c.in-Send.count) s in
    has_done (action_done (served_by c.args.routines.now) (plain_action c.args.action.now)
    (state_of c.args.frame.now c.args.memory.now sends)) way.On c.args.frame.now c.args.memory.now
    (with_send c.in-Send.core source aim count (shown c.args.memory.now sends)).sends
    (ap (λ a. action_done (served_by c.args.routines.now) (plain_action a) (state_of c.args.frame.now c.args.memory.now
    sends)) c.in-Send.is ∙ ap (λ w. goes_on (record { locals = slice_index c.args.frame.now; world = w }))
    (sent_shown c.in-Send.core source aim count c.args.memory.now sends))

pub act-returns-in-Choose-clause-done : goal.act-returns-in-Choose-clause-done
act-returns-in-Choose-clause-done t c =
    λ sends. along (action_done (served_by c.args.routines.now) (plain_action c.args.action.now)
    (state_of c.args.frame.now c.args.memory.now sends))
    (branches_done (served_by c.args.routines.now) (branches_of c.as_slice-branches.result.now)
    (actions_done (served_by c.args.routines.now) (actions_of c.as_slice-otherwise.result.now))
    (state_of c.args.frame.now c.args.memory.now sends))
    c.choose.result c.choose.new.frame c.choose.new.memory
    (ap (λ a. action_done (served_by c.args.routines.now) (plain_action a) (state_of c.args.frame.now c.args.memory.now
    sends)) c.in-Choose.is ∙ ap (λ p. action_done (served_by c.args.routines.now) p
    (state_of c.args.frame.now c.args.memory.now sends))
    (plain_choose c.in-Choose.branches c.in-Choose.otherwise)
    ∙ ap₂ (λ bs os. branches_done (served_by c.args.routines.now) (branches_of bs)
    (actions_done (served_by c.args.routines.now) (actions_of os)) (state_of c.args.frame.now c.args.memory.now
    sends)) (sym c.as_slice-branches.ensures) (sym c.as_slice-otherwise.ensures))
    (c.choose.ensures.done sends)

pub act-returns-in-Loop-clause-done : goal.act-returns-in-Loop-clause-done
act-returns-in-Loop-clause-done t c =
    λ sends.
    let looped : List Action → Done = λ as'. iterations_done (holds (plain_sp c.in-Loop.condition)) (actions_done
    (served_by c.args.routines.now) (actions_of as'))
    (step_done (option_map plain_assignment c.in-Loop.step)) c.in-Loop.max
    (state_of c.args.frame.now c.args.memory.now sends) in
    along (action_done (served_by c.args.routines.now) (plain_action c.args.action.now)
    (state_of c.args.frame.now c.args.memory.now sends)) (looped c.as_slice-body.result.now) c.iterations.result
    c.iterations.new.frame c.iterations.new.memory
    (ap (λ a. action_done (served_by c.args.routines.now) (plain_action a) (state_of c.args.frame.now c.args.memory.now
    sends)) c.in-Loop.is ∙ ap (λ p. action_done (served_by c.args.routines.now) p
    (state_of c.args.frame.now c.args.memory.now sends)) (plain_loop c.in-Loop.max c.in-Loop.condition
    c.in-Loop.body c.in-Loop.step)
    ∙ ap looped (sym c.as_slice-body.ensures))
    (c.iterations.ensures.done sends)

pub act-returns-in-Break-clause-done : goal.act-returns-in-Break-clause-done
unfolding plain_action
act-returns-in-Break-clause-done t c =
    λ sends. has_done (action_done (served_by c.args.routines.now) (plain_action c.args.action.now)
    (state_of c.args.frame.now c.args.memory.now sends)) way.Broken c.args.frame.now c.args.memory.now sends
    (ap (λ a. action_done (served_by c.args.routines.now) (plain_action a)
    (state_of c.args.frame.now c.args.memory.now sends)) c.in-Break.is)

pub act-returns-in-Continue-clause-done : goal.act-returns-in-Continue-clause-done
unfolding plain_action
act-returns-in-Continue-clause-done t c =
    λ sends. has_done (action_done (served_by c.args.routines.now) (plain_action c.args.action.now)
    (state_of c.args.frame.now c.args.memory.now sends)) way.Continued c.args.frame.now c.args.memory.now sends
    (ap (λ a. action_done (served_by c.args.routines.now) (plain_action a)
    (state_of c.args.frame.now c.args.memory.now sends)) c.in-Continue.is)

pub act-returns-in-Return-clause-done : goal.act-returns-in-Return-clause-done
unfolding plain_action
act-returns-in-Return-clause-done t c =
    λ sends. has_done (action_done (served_by c.args.routines.now) (plain_action c.args.action.now)
    (state_of c.args.frame.now c.args.memory.now sends)) (way.Returned c.value.result) c.args.frame.now
    c.args.memory.now sends
    (ap (λ a. action_done (served_by c.args.routines.now) (plain_action a) (state_of c.args.frame.now c.args.memory.now
    sends)) c.in-Return.is ∙ ap (λ n. let d : Done = record {
      way =
          way.Returned n;
      state =
          (state_of c.args.frame.now c.args.memory.now sends);
    } in d) (sym (c.value.ensures sends)))

pub all-loop-action-init : goal.all-loop-action-init
all-loop-action-init t c =
    record {
      reaches = λ sends. reaches_first (actions_done (served_by c.args.routines.now)
          (actions_of c.args.actions.now)) c.args.frame.now c.args.memory.now sends;
      rooms = c.requires.rooms;
    }

pub all-returns-in-Broken-clause-done : goal.all-returns-in-Broken-clause-done
all-returns-in-Broken-clause-done t c =
    λ sends. left_by_break (served_by c.args.routines.now) (actions_done (served_by c.args.routines.now)
    (actions_of c.args.actions.now) (state_of c.args.frame.now c.args.memory.now sends))
    (plain_action c.action-item.result) (actions_of (drop (c.loop-action.action-index + 1) c.args.actions.now))
    c.loop-action.frame c.loop-action.memory
    c.act.new.frame c.act.new.memory (reach_item (served_by c.args.routines.now)
    (actions_done (served_by c.args.routines.now) (actions_of c.args.actions.now)
    (state_of c.args.frame.now c.args.memory.now sends)) c.args.actions.now c.loop-action.action-index
    c.action-item.result c.loop-action.frame c.loop-action.memory (omega arith) c.action-item.is
    (c.loop-action.invariant.reaches sends)) c.in-Broken.ensures.done

pub all-returns-in-Continued-clause-done : goal.all-returns-in-Continued-clause-done
all-returns-in-Continued-clause-done t c =
    λ sends. left_by_continue (served_by c.args.routines.now) (actions_done (served_by c.args.routines.now)
    (actions_of c.args.actions.now) (state_of c.args.frame.now c.args.memory.now sends))
    (plain_action c.action-item.result) (actions_of (drop (c.loop-action.action-index + 1) c.args.actions.now))
    c.loop-action.frame c.loop-action.memory
    c.act.new.frame c.act.new.memory (reach_item (served_by c.args.routines.now)
    (actions_done (served_by c.args.routines.now) (actions_of c.args.actions.now)
    (state_of c.args.frame.now c.args.memory.now sends)) c.args.actions.now c.loop-action.action-index
    c.action-item.result c.loop-action.frame c.loop-action.memory (omega arith) c.action-item.is
    (c.loop-action.invariant.reaches sends)) c.in-Continued.ensures.done

pub all-returns-in-Returned-clause-done : goal.all-returns-in-Returned-clause-done
all-returns-in-Returned-clause-done t c =
    λ sends. left_by_return (served_by c.args.routines.now) (actions_done (served_by c.args.routines.now)
    (actions_of c.args.actions.now) (state_of c.args.frame.now c.args.memory.now sends))
    (plain_action c.action-item.result) (actions_of (drop (c.loop-action.action-index + 1) c.args.actions.now))
    c.loop-action.frame c.loop-action.memory
    c.act.new.frame c.act.new.memory c.in-Returned.value (reach_item (served_by c.args.routines.now)
    (actions_done (served_by c.args.routines.now) (actions_of c.args.actions.now)
    (state_of c.args.frame.now c.args.memory.now sends)) c.args.actions.now c.loop-action.action-index
    c.action-item.result c.loop-action.frame c.loop-action.memory (omega arith) c.action-item.is
    (c.loop-action.invariant.reaches sends)) c.in-Returned.ensures.done

pub all-loop-action-preserved : goal.all-loop-action-preserved
all-loop-action-preserved t c =
    record {
      reaches = λ sends. next_action (served_by c.args.routines.now) (actions_done (served_by c.args.routines.now)
          (actions_of c.args.actions.now) (state_of c.args.frame.now c.args.memory.now sends))
          (plain_action c.action-item.result)
          (actions_of (drop (c.loop-action.action-index + 1) c.args.actions.now)) c.loop-action.frame
          c.loop-action.memory
          c.act.new.frame c.act.new.memory (reach_item (served_by c.args.routines.now)
          (actions_done (served_by c.args.routines.now) (actions_of c.args.actions.now)
          (state_of c.args.frame.now c.args.memory.now sends)) c.args.actions.now c.loop-action.action-index
          c.action-item.result c.loop-action.frame c.loop-action.memory (omega arith) c.action-item.is
          (c.loop-action.invariant.reaches sends)) c.in-On.ensures.done;
      rooms = c.in-On.ensures.rooms;
    }

pub all-returns-clause-done : goal.all-returns-clause-done
all-returns-clause-done t c =
    λ sends. at_the_end (served_by c.args.routines.now) (actions_done (served_by c.args.routines.now)
    (actions_of c.args.actions.now) (state_of c.args.frame.now c.args.memory.now sends)) c.loop-action.frame
    c.loop-action.memory
    (reach_end (served_by c.args.routines.now) (actions_done (served_by c.args.routines.now)
    (actions_of c.args.actions.now) (state_of c.args.frame.now c.args.memory.now sends)) c.args.actions.now
    c.loop-action.action-index c.loop-action.frame c.loop-action.memory (omega arith)
    (c.loop-action.invariant.reaches sends))

pub choose-returns-in-Some-clause-done : goal.choose-returns-in-Some-clause-done
choose-returns-in-Some-clause-done t c =
    λ sends. along (branches_done (served_by c.args.routines.now) (branches_of c.args.branches.now)
    (actions_done (served_by c.args.routines.now) (actions_of c.args.otherwise.now))
    (state_of c.args.frame.now c.args.memory.now sends)) (actions_done (served_by c.args.routines.now)
    (actions_of c.as_slice.result.now) (state_of c.args.frame.now c.args.memory.now sends)) c.all.result
    c.all.new.frame c.all.new.memory
    (c.in-Some.ensures.picked sends (served_by c.args.routines.now) (actions_done (served_by c.args.routines.now)
    (actions_of c.args.otherwise.now)) ∙ ap (λ as'. actions_done (served_by c.args.routines.now) (actions_of as')
    (state_of c.args.frame.now c.args.memory.now sends)) (sym c.as_slice.ensures))
    (c.all.ensures.done sends)

pub choose-returns-in-None-clause-done : goal.choose-returns-in-None-clause-done
choose-returns-in-None-clause-done t c =
    λ sends. along (branches_done (served_by c.args.routines.now) (branches_of c.args.branches.now)
    (actions_done (served_by c.args.routines.now) (actions_of c.args.otherwise.now))
    (state_of c.args.frame.now c.args.memory.now sends)) (actions_done (served_by c.args.routines.now)
    (actions_of c.args.otherwise.now) (state_of c.args.frame.now c.args.memory.now sends))
    c.all-in-None.result c.all-in-None.new.frame c.all-in-None.new.memory
    (c.in-None.ensures.picked sends (served_by c.args.routines.now) (actions_done (served_by c.args.routines.now)
    (actions_of c.args.otherwise.now)))
    (c.all-in-None.ensures.done sends)

pub iteration-returns-in-On-clause-iterated : goal.iteration-returns-in-On-clause-iterated
iteration-returns-in-On-clause-iterated t c =
    λ sends. let d = (actions_done (served_by c.args.routines.now) (actions_of c.args.body.now)
    (state_of c.args.frame.now c.args.memory.now sends)) in record {
      sends = d.state.world.sends;
      goes = λ more. ap (iteration_done more (step_done (option_map plain_assignment c.args.next.now)))
          (c.in-On.ensures.done sends).ends ∙ ap more (c.step.ensures.done d.state.world.sends);
    }

pub iteration-returns-in-Continued-clause-iterated : goal.iteration-returns-in-Continued-clause-iterated
iteration-returns-in-Continued-clause-iterated t c =
    λ sends. let d = (actions_done (served_by c.args.routines.now) (actions_of c.args.body.now)
    (state_of c.args.frame.now c.args.memory.now sends)) in record {
      sends = d.state.world.sends;
      goes = λ more. ap (iteration_done more (step_done (option_map plain_assignment c.args.next.now)))
          (c.in-Continued.ensures.done sends).ends ∙ ap more (c.step-in-Continued.ensures.done d.state.world.sends);
    }

pub iteration-returns-in-Broken-clause-iterated : goal.iteration-returns-in-Broken-clause-iterated
iteration-returns-in-Broken-clause-iterated t c =
    λ sends more. let d = (actions_done (served_by c.args.routines.now) (actions_of c.args.body.now)
    (state_of c.args.frame.now c.args.memory.now sends)) in
    has_done (iteration_done more (step_done (option_map plain_assignment c.args.next.now)) d) way.On c.all.new.frame
    c.all.new.memory d.state.world.sends
    (ap (iteration_done more (step_done (option_map plain_assignment c.args.next.now)))
    (c.in-Broken.ensures.done sends).ends)

pub iteration-returns-in-Returned-clause-iterated : goal.iteration-returns-in-Returned-clause-iterated
iteration-returns-in-Returned-clause-iterated t c =
    λ sends more. let d = (actions_done (served_by c.args.routines.now) (actions_of c.args.body.now)
    (state_of c.args.frame.now c.args.memory.now sends)) in
    has_done (iteration_done more (step_done (option_map plain_assignment c.args.next.now)) d)
    (way.Returned c.in-Returned.value) c.all.new.frame c.all.new.memory d.state.world.sends
    (ap (iteration_done more (step_done (option_map plain_assignment c.args.next.now)))
    (c.in-Returned.ensures.done sends).ends)

pub iterations-loop-iterated-init : goal.iterations-loop-iterated-init
iterations-loop-iterated-init t c =
    let none : c.args.max ≡ c.args.max - 0 = omega arith in
    record {
      reaches = λ sends. another_iteration (holds (plain_sp c.args.iterating.now.condition.now))
          (actions_done (served_by c.args.routines.now) (actions_of c.args.iterating.now.body.now))
          (step_done (option_map plain_assignment c.args.iterating.now.step.now))
          (iterations_done (holds (plain_sp c.args.iterating.now.condition.now))
          (actions_done (served_by c.args.routines.now) (actions_of c.args.iterating.now.body.now))
          (step_done (option_map plain_assignment c.args.iterating.now.step.now)) c.args.max
          (state_of c.args.frame.now c.args.memory.now sends)) c.args.max (c.args.max - 0)
          c.args.frame.now c.args.memory.now none
          (reaches_first
          (iterations_done (holds (plain_sp c.args.iterating.now.condition.now))
          (actions_done (served_by c.args.routines.now)
          (actions_of c.args.iterating.now.body.now))
          (step_done (option_map plain_assignment
          c.args.iterating.now.step.now)) c.args.max) c.args.frame.now
          c.args.memory.now sends);
      rooms = c.requires.rooms;
    }

pub iterations-returns-then-not-is_held-clause-done : goal.iterations-returns-then-not-is_held-clause-done
iterations-returns-then-not-is_held-clause-done t c =
    let left = c.args.max - (c.loop-iterated._iterated + 1) in
    let more : c.args.max - c.loop-iterated._iterated ≡ suc left = omega arith in
    λ sends. not_held (holds (plain_sp c.args.iterating.now.condition.now))
    (actions_done (served_by c.args.routines.now) (actions_of c.args.iterating.now.body.now))
    (step_done (option_map plain_assignment c.args.iterating.now.step.now))
    (iterations_done (holds (plain_sp c.args.iterating.now.condition.now))
    (actions_done (served_by c.args.routines.now) (actions_of c.args.iterating.now.body.now))
    (step_done (option_map plain_assignment c.args.iterating.now.step.now)) c.args.max
    (state_of c.args.frame.now c.args.memory.now sends)) left c.loop-iterated.frame
    c.loop-iterated.memory
    (another_iteration (holds (plain_sp c.args.iterating.now.condition.now))
    (actions_done (served_by c.args.routines.now)
    (actions_of c.args.iterating.now.body.now))
    (step_done (option_map plain_assignment c.args.iterating.now.step.now))
    (iterations_done
    (holds (plain_sp c.args.iterating.now.condition.now))
    (actions_done (served_by c.args.routines.now)
    (actions_of c.args.iterating.now.body.now))
    (step_done (option_map plain_assignment
    c.args.iterating.now.step.now)) c.args.max
    (state_of c.args.frame.now c.args.memory.now
    sends)) (c.args.max
    - c.loop-iterated._iterated)
    (suc left) c.loop-iterated.frame
    c.loop-iterated.memory more
    (c.loop-iterated.invariant.reaches sends)) (λ x. sym (c.is_held.ensures x) ∙ c.if-not-is_held.true)

pub iterations-returns-in-Some-clause-done : goal.iterations-returns-in-Some-clause-done
iterations-returns-in-Some-clause-done t c =
    let left = c.args.max - (c.loop-iterated._iterated + 1) in
    let more : c.args.max - c.loop-iterated._iterated ≡ suc left = omega arith in
    λ sends. last_iteration (holds (plain_sp c.args.iterating.now.condition.now))
    (actions_done (served_by c.args.routines.now) (actions_of c.args.iterating.now.body.now))
    (step_done (option_map plain_assignment c.args.iterating.now.step.now))
    (iterations_done (holds (plain_sp c.args.iterating.now.condition.now))
    (actions_done (served_by c.args.routines.now) (actions_of c.args.iterating.now.body.now))
    (step_done (option_map plain_assignment c.args.iterating.now.step.now)) c.args.max
    (state_of c.args.frame.now c.args.memory.now sends)) left c.loop-iterated.frame
    c.loop-iterated.memory c.in-Some.way c.iteration.new.frame c.iteration.new.memory
    (another_iteration (holds (plain_sp c.args.iterating.now.condition.now))
    (actions_done (served_by c.args.routines.now)
    (actions_of c.args.iterating.now.body.now))
    (step_done (option_map plain_assignment c.args.iterating.now.step.now))
    (iterations_done
    (holds (plain_sp c.args.iterating.now.condition.now))
    (actions_done (served_by c.args.routines.now)
    (actions_of c.args.iterating.now.body.now))
    (step_done (option_map plain_assignment
    c.args.iterating.now.step.now)) c.args.max
    (state_of c.args.frame.now c.args.memory.now
    sends)) (c.args.max
    - c.loop-iterated._iterated)
    (suc left) c.loop-iterated.frame
    c.loop-iterated.memory more
    (c.loop-iterated.invariant.reaches sends)) (λ x. sym (c.is_held.ensures x) ∙ c.if-not-is_held.false)
    c.in-Some.ensures.iterated

pub iterations-loop-iterated-preserved : goal.iterations-loop-iterated-preserved
iterations-loop-iterated-preserved t c =
    let left = c.args.max - (c.loop-iterated._iterated + 1) in
    let more : c.args.max - c.loop-iterated._iterated ≡ suc left = omega arith in
    record {
      reaches = λ sends. next_iteration (holds (plain_sp c.args.iterating.now.condition.now))
          (actions_done (served_by c.args.routines.now) (actions_of c.args.iterating.now.body.now))
          (step_done (option_map plain_assignment c.args.iterating.now.step.now))
          (iterations_done (holds (plain_sp c.args.iterating.now.condition.now))
          (actions_done (served_by c.args.routines.now) (actions_of c.args.iterating.now.body.now))
          (step_done (option_map plain_assignment c.args.iterating.now.step.now)) c.args.max
          (state_of c.args.frame.now c.args.memory.now sends)) left c.loop-iterated.frame
          c.loop-iterated.memory c.iteration.new.frame c.iteration.new.memory
          (another_iteration (holds (plain_sp c.args.iterating.now.condition.now))
          (actions_done (served_by c.args.routines.now)
          (actions_of c.args.iterating.now.body.now))
          (step_done (option_map plain_assignment
          c.args.iterating.now.step.now))
          (iterations_done
          (holds (plain_sp c.args.iterating.now.condition.now))
          (actions_done (served_by c.args.routines.now)
          (actions_of c.args.iterating.now.body.now))
          (step_done (option_map plain_assignment
          c.args.iterating.now.step.now)) c.args.max
          (state_of c.args.frame.now
          c.args.memory.now sends))
          (c.args.max - c.loop-iterated._iterated) (suc left) c.loop-iterated.frame c.loop-iterated.memory more
          (c.loop-iterated.invariant.reaches sends))
          (λ x. sym (c.is_held.ensures x) ∙ c.if-not-is_held.false) c.in-None.ensures.iterated;
      rooms = c.in-None.ensures.rooms;
    }

pub iterations-returns-clause-done : goal.iterations-returns-clause-done
iterations-returns-clause-done t c =
    let none : c.args.max - c.loop-iterated._iterated ≡ zero = omega arith in
    λ sends. all_iterated (holds (plain_sp c.args.iterating.now.condition.now))
    (actions_done (served_by c.args.routines.now) (actions_of c.args.iterating.now.body.now))
    (step_done (option_map plain_assignment c.args.iterating.now.step.now))
    (iterations_done (holds (plain_sp c.args.iterating.now.condition.now))
    (actions_done (served_by c.args.routines.now) (actions_of c.args.iterating.now.body.now))
    (step_done (option_map plain_assignment c.args.iterating.now.step.now)) c.args.max
    (state_of c.args.frame.now c.args.memory.now sends)) c.loop-iterated.frame
    c.loop-iterated.memory c.is_held-held.result c.overran.new.self
    (another_iteration (holds (plain_sp c.args.iterating.now.condition.now))
    (actions_done (served_by c.args.routines.now) (actions_of c.args.iterating.now.body.now))
    (step_done (option_map plain_assignment c.args.iterating.now.step.now))
    (iterations_done (holds (plain_sp c.args.iterating.now.condition.now))
    (actions_done (served_by c.args.routines.now) (actions_of c.args.iterating.now.body.now))
    (step_done (option_map plain_assignment c.args.iterating.now.step.now)) c.args.max
    (state_of c.args.frame.now c.args.memory.now sends))
    (c.args.max - c.loop-iterated._iterated) zero c.loop-iterated.frame
    c.loop-iterated.memory none (c.loop-iterated.invariant.reaches sends))
    c.is_held-held.ensures c.overran.ensures.world

pub called-all-way-requires : goal.called-all-way-requires
called-all-way-requires t c =
    let rs = c.args.routines.now in
    let k = c.args.function in
    let within : k ≤ length rs = omega arith in
    let grows = total_grows (bodies_of rs) k (length rs) (omega arith) in
    let earlier = ap (λ xs. total (bodies_of xs) (length xs)) c.split_at.ensures.front ∙ earlier_total rs k within in
    let count = ap length c.split_at.ensures.front ∙ length-take-le k rs within in
    let body = ap actions_size (body_at rs k c.index-routines-function.result
    (omega arith) c.index-routines-function.is) in
    let own = ap (λ as'. actions_size (actions_of as')) (c.as_slice-body.ensures
    ∙ ap (λ (r : Routine). r.body) (sym c.index-routines-function.is)) in
    (omega (arith, c.decreases, grows, earlier, body, own), (omega arith, (omega (arith, count), c.requires.rooms)))

pub called-returns-then-function-routines-clause-given : goal.called-returns-then-function-routines-clause-given
called-returns-then-function-routines-clause-given t c =
    λ sends. none_given (bodies_of c.args.routines.now) c.args.function (length c.args.routines.now)
    (args_worth (map plain_sp c.args.args.now.values) (state_of c.args.frame.now c.args.memory.now sends))
    c.args.memory.now sends (omega arith)

pub called-returns-clause-given : goal.called-returns-clause-given
called-returns-clause-given t c =
    λ sends.
    let rs = c.args.routines.now in
    let k = c.args.function in
    let s : State = (state_of c.args.frame.now c.args.memory.now sends) in
    let words = c.pass.ensures sends ∙ ap (λ args. slice_index (args_worth (map plain_sp args) s)) c.as_slice.ensures in
    let body =
    body_at rs k c.index-routines-function.result (omega arith) c.index-routines-function.is
    ∙ ap actions_of (sym (c.as_slice-body.ensures ∙ ap (λ (r : Routine). r.body) (sym c.index-routines-function.is))) in
    let earlier = ap served_by c.split_at.ensures.front ∙ earlier_serve rs k (omega arith) in
    let done = subst (λ g. HasDone (actions_done g (actions_of c.as_slice-body.result.now)
    (state_of c.pass.new.own c.args.memory.now sends)) c.all-way.result c.all-way.new.frame c.all-way.new.memory)
    earlier (c.all-way.ensures.done sends) in
    let given = body_given (bodies_of rs) k (length rs) (args_worth (map plain_sp c.args.args.now.values) s)
    c.pass.new.own c.args.memory.now sends (actions_of c.as_slice-body.result.now)
    c.all-way.result c.all-way.new.frame c.all-way.new.memory (omega arith) body words done in
    subst (λ n. HasOutcome (served_by rs k (args_worth (map plain_sp c.args.args.now.values) s)
    (shown c.args.memory.now sends)) n c.all-way.new.memory) (sym c.given_by.ensures) given
