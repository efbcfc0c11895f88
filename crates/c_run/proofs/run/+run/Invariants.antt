use Rattle.std.proofs.Common.{◌≡◌, ◌+◌, ◌-◌, List, length, drop}
use Rattle.std.specs.Prelude.{option_map}
use Rattle.c_world.specs.Shown.{rooms}
use Rattle.c_world.specs.World.{Sending}
use Rattle.sp_tree.specs.Plain.{plain_sp}
use Rattle.c_meaning.specs.Meaning.{iterations_done}
use Rattle.c_meaning.specs.Resolved.{holds, step_done, actions_done}
use Rattle.c_meaning.specs.Rooms.{all_rooms}
use Rattle.c_meaning.specs.Shown.{plain_action, plain_assignment, actions_of, branches_of, bodies_of}
use Rattle.c_run.specs.Ran.{state_of, served_by}
use Rattle.c_run.proofs.Runs.{Reaches}
use Rattle.c_meaning.specs.Sizes.{action_size, actions_size, branches_size}
use Rattle.c_run.specs.Sizes.{total}
use Rattle.c_run.proofs.run.+run.Given as goal

abbrev pub invariant-all-loop-action : goal.invariant-all-loop-action
invariant-all-loop-action l = record {
  reaches : (sends : List Sending) → Reaches
      (actions_done (served_by l.routines) (actions_of l.actions) (state_of l.initial.frame l.initial.memory sends))
      (actions_done (served_by l.routines) (actions_of (drop l.action-index l.actions))) l.frame l.memory;
  rooms : rooms l.memory ≡ all_rooms;
}

abbrev pub invariant-iterations-loop-iterated : goal.invariant-iterations-loop-iterated
invariant-iterations-loop-iterated l = record {
  reaches : (sends : List Sending) → Reaches
      (iterations_done (holds (plain_sp l.iterating.condition.now)) (actions_done (served_by l.routines)
      (actions_of l.iterating.body.now))
      (step_done (option_map plain_assignment l.iterating.step.now)) l.max
      (state_of l.initial.frame l.initial.memory sends))
      (iterations_done (holds (plain_sp l.iterating.condition.now)) (actions_done (served_by l.routines)
      (actions_of l.iterating.body.now))
      (step_done (option_map plain_assignment l.iterating.step.now)) (l.max - l._iterated)) l.frame l.memory;
  rooms : rooms l.memory ≡ all_rooms;
}

abbrev pub decreases-act : goal.decreases-act
decreases-act l = total (bodies_of l.routines.now) (length l.routines.now) + action_size (plain_action l.action.now)

abbrev pub decreases-all : goal.decreases-all
decreases-all l = total (bodies_of l.routines.now) (length l.routines.now) + actions_size (actions_of l.actions.now)

abbrev pub decreases-choose : goal.decreases-choose
decreases-choose l =
    total (bodies_of l.routines.now) (length l.routines.now) + 1 + branches_size (branches_of l.branches.now)
    + actions_size (actions_of l.otherwise.now)

abbrev pub decreases-iteration : goal.decreases-iteration
decreases-iteration l =
    total (bodies_of l.routines.now) (length l.routines.now) + 1 + actions_size (actions_of l.body.now)

abbrev pub decreases-iterations : goal.decreases-iterations
decreases-iterations l =
    total (bodies_of l.routines.now) (length l.routines.now) + 2 + actions_size (actions_of l.iterating.now.body.now)

abbrev pub decreases-called : goal.decreases-called
decreases-called l = total (bodies_of l.routines.now) (length l.routines.now) + 1
