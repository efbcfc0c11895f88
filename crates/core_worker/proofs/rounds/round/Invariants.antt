use Rattle.std.proofs.Common.{IsTrue}
use Rattle.std.specs.List.{All, AllWithin}
use Rattle.core_worker.specs.Worker.{AreLater, IsOn, IsDone, HasPieces}
use Rattle.core_worker.proofs.rounds.round.Given as goal

abbrev pub invariant-loop-k : goal.invariant-loop-k
invariant-loop-k g l = record {
  of : All (IsOn l.board) l.workers;
  later : AreLater l.initial.workers l.workers;
  pieces : AllWithin HasPieces l.workers 0 l.k;
  ended : IsTrue l.ended → AllWithin IsDone l.workers 0 l.k;
}
