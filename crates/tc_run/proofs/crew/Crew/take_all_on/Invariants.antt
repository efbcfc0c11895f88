use Rattle.std.proofs.Common.{◌≤◌, ◌++◌, length, vec_len}
use Rattle.tc_run.specs.Carried.{Carries, IsReady, workers_in, workers_of}
use Rattle.tc_run.proofs.crew.Crew.take_all_on.Given as goal

abbrev pub invariant-loop-group : goal.invariant-loop-group
invariant-loop-group g l = record {
  ready : IsReady l.common.board.now l.self (workers_in l.groups.items) (vec_len l.groups);
  flags : vec_len l.groups ≤ length l.refused;
  carries : Carries l.common.board.now (workers_of l.initial.self ++ workers_in l.initial.groups.items)
      (workers_of l.self ++ workers_in l.groups.items);
}

abbrev pub decreases-loop-group : goal.decreases-loop-group
decreases-loop-group g l = vec_len l.groups
