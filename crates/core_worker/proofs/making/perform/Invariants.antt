use Rattle.std.proofs.Common.{◌≡◌, ◌≤◌, length, take, drop}
use Rattle.clock_board.specs.View.{own, todo, IsGiven}
use Rattle.clock_board.specs.Board.{IsPassOf}
use Rattle.core_worker.specs.Runs.{with_made}
use Rattle.core_worker.proofs.Performing.{IsPartlyMade}
use Rattle.core_worker.proofs.making.perform.Given as goal

abbrev pub invariant-loop-op : goal.invariant-loop-op
invariant-loop-op g l = record {
  room : length l.values ≡ 8;
  loads : l.loads ≤ l.op-index;
  of : IsPassOf l.board l.pass;
  given : IsGiven l.pass.view;
  same : l.pass.view ≡ with_made l.initial.pass.view (own l.pass.view).made;
  made : IsPartlyMade l.event.stamp l.ops (drop l.op-index l.ops) (own l.initial.pass.view).made
      (todo l.initial.pass.view) (own l.pass.view).made (todo l.pass.view) (take l.loads l.values);
}
