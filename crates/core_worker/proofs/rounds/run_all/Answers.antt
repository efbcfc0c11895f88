use Rattle.std.proofs.Common.{rules, sym, subst}
use Rattle.std.specs.List.{All}
use Rattle.core_worker.specs.Worker.{HasPieces}
use Rattle.core_worker.proofs.rounds.run_all.Goals as goal
use Rattle.core_worker.proofs.rounds.run_all.Goals.{in-None, in-Some+then-round}

pub returns-clause-pieces : goal.returns-clause-pieces
returns-clause-pieces g c = elim c.match-next.branch [
  | in-None w ↦ absurd (search rules)
  | in-Some+then-round w ↦ subst (All HasPieces) (sym w.workers-is) w.round.ensures.pieces
]
