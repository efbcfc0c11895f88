use Rattle.std.proofs.Common.{◌≡◌, ℕ, ◌+◌, ◌<◌, ◌≤◌, vec_len, length, All}
use Rattle.tc_run.specs.Carried.{workers_in}
use Rattle.tc_run.specs.Groups.{AreGrouped, tasks_before}
use Rattle.tc_run.specs.Worked.{IsAtWork, HasWorker}
use Rattle.tc_run.proofs.making.groups_of.Given as goal

abbrev pub invariant-loop-loaded : goal.invariant-loop-loaded
invariant-loop-loaded R l = record {
  same : l.maker ≡ l.initial.maker;
  count : vec_len l.groups ≡ l.machine.workers + 1;
  of : All (IsAtWork l.machine l.board) (workers_in l.groups.items);
  have : (k : ℕ) → k < l.loaded-index → HasWorker (workers_in l.groups.items) k;
  total : length (workers_in l.groups.items) ≡ l.loaded-index;
  grouped : AreGrouped l.machine l.loaded-index l.groups.items;
  tasks : l.tasks ≡ tasks_before l.machine.cores l.loaded-index;
  few : l.tasks ≤ l.loaded-index;
}
