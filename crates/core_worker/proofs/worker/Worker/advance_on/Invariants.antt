use Rattle.std.proofs.Common.{◌≡◌}
use Rattle.clock_board.specs.Board.{IsPassOf}
use Rattle.core_worker.specs.Worker.{IsLater, IsDone, HasPieces}
use Rattle.core_worker.specs.declared.turn.Turn.TheVariants.{Ended}
use Rattle.core_worker.proofs.worker.Worker.advance_on.Given as goal

abbrev pub invariant-loop : goal.invariant-loop
invariant-loop g l = record {
  of : IsPassOf l.board l.self.pass;
  later : IsLater l.fn.self l.self;
  ended : l.turn ≡ Ended → IsDone l.self;
  pieces : HasPieces l.self;
}
