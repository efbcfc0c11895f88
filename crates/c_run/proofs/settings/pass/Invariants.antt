use Rattle.std.proofs.Common.{◌≡◌, ℕ, ◌<◌, ◌≤◌, List, map, slice_index}
use Rattle.c_world.specs.World.{Sending}
use Rattle.sp_tree.specs.Plain.{plain_sp}
use Rattle.c_meaning.specs.Resolved.{args_worth}
use Rattle.c_run.specs.Ran.{state_of}
use Rattle.c_run.proofs.settings.pass.Given as goal

abbrev pub invariant-loop-number : goal.invariant-loop-number
invariant-loop-number l = record {
  passed : (sends : List Sending) (k : ℕ) → k < l.number
      → slice_index l.own k ≡ slice_index (args_worth (map plain_sp l.args) (state_of l.frame l.memory sends)) k;
  cleared : (k : ℕ) → l.number ≤ k → slice_index l.own k ≡ 0;
}
