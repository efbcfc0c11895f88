use Rattle.std.proofs.Common.{◌≡◌}
use Rattle.clock_board.specs.View.{own, IsGiven}
use Rattle.clock_board.specs.Board.{IsPassOf}
use Rattle.core_worker.specs.Runs.{with_looks}
use Rattle.core_worker.proofs.Sights.{IsLooking}
use Rattle.core_worker.proofs.looking.look_around.Given as goal

abbrev pub invariant-loop-d : goal.invariant-loop-d
invariant-loop-d g l = record {
  of : IsPassOf l.board l.pass;
  given : IsGiven l.pass.view;
  same : l.pass.view ≡ with_looks l.initial.pass.view (own l.pass.view).looks;
  looking : IsLooking l.wanted l.core l.d (own l.initial.pass.view).looks (own l.pass.view).looks;
}
