use Rattle.clock_board.specs.Board.{IsPassOf}
use Rattle.core_worker.specs.Worker.{IsLater}
use Rattle.core_worker.proofs.worker.Worker.run.Given as goal

abbrev pub invariant-loop : goal.invariant-loop
invariant-loop g l = record {
  of : IsPassOf l.board l.self.pass;
  later : IsLater l.initial.self l.self;
}
