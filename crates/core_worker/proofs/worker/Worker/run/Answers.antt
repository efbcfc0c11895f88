use Rattle.std.proofs.Common.{rules, sym, subst}
use Rattle.core_worker.specs.Worker.{HasPieces}
use Rattle.core_worker.proofs.worker.Worker.run.Goals as goal
use Rattle.core_worker.proofs.worker.Worker.run.Goals.{in-None, in-Some+in-Ended}

pub returns-clause-pieces : goal.returns-clause-pieces
returns-clause-pieces g c = elim c.match-next.branch [
  | in-None w ↦ absurd (search rules)
  | in-Some+in-Ended w ↦ subst HasPieces (sym w.self-is) w.advance_telling.ensures.pieces
]
