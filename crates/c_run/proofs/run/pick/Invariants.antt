use Rattle.std.proofs.Common.{◌≡◌, List, drop}
use Rattle.c_world.specs.World.{Sending}
use Rattle.c_meaning.specs.Meaning.{Done}
use Rattle.c_meaning.specs.Resolved.{Serves, branches_done}
use Rattle.c_meaning.specs.Shown.{branches_of}
use Rattle.c_meaning.specs.Values.{State}
use Rattle.c_run.specs.Ran.{state_of}
use Rattle.c_run.proofs.run.pick.Given as goal

abbrev pub invariant-loop-branch : goal.invariant-loop-branch
invariant-loop-branch l = (sends : List Sending) (g : Serves) (o : State → Done)
    → branches_done g (branches_of l.branches) o (state_of l.frame l.memory sends)
    ≡ branches_done g (branches_of (drop l.branch-index l.branches)) o (state_of l.frame l.memory sends)
