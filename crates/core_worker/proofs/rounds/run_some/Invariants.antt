use Rattle.std.specs.List.{All}
use Rattle.core_worker.specs.Worker.{AreLater, IsOn}
use Rattle.core_worker.proofs.rounds.run_some.Given as goal

abbrev pub invariant-loop : goal.invariant-loop
invariant-loop g l = record {
  of : All (IsOn l.board) l.workers;
  later : AreLater l.initial.workers l.workers;
}
