use Rattle.std.proofs.Common.{◌+◌, ◌≤◌, ◌++◌, length, vec_len, vec_capacity}
use Rattle.clock_board.specs.Board.{BoardFace}
use Rattle.tc_run.specs.Carried.{Carries, workers_in}
use Rattle.tc_run.proofs.one_thread.all_of.Given as goal

abbrev pub invariant-loop-group : goal.invariant-loop-group
invariant-loop-group l = record {
  carries : (board : BoardFace) → Carries board (workers_in l.initial.groups.items) (l.all.items
      ++ workers_in l.groups.items);
  room : length l.all.items + length (workers_in l.groups.items) ≤ vec_capacity l.all;
}

abbrev pub decreases-loop-group : goal.decreases-loop-group
decreases-loop-group l = vec_len l.groups
