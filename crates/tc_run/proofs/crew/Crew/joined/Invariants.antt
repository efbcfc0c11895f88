use Rattle.std.proofs.Common.{◌≤◌, length, vec_len, vec_capacity}
use Rattle.clock_board.specs.Board.{BoardFace}
use Rattle.tc_run.specs.Carried.{Carries, workers_of, IsCrewOn}
use Rattle.tc_run.proofs.crew.Crew.joined.Given as goal

abbrev pub invariant-loop-handle : goal.invariant-loop-handle
invariant-loop-handle g l = record {
  crew : (board : BoardFace) → IsCrewOn board l.fn.self → IsCrewOn board (record { here = l.here; away = l.away });
  carries : (board : BoardFace) → IsCrewOn board l.fn.self
      → Carries board (workers_of l.fn.self) (workers_of (record { here = l.here; away = l.away }));
  room : length (workers_of (record { here = l.here; away = l.away })) ≤ vec_capacity l.here;
}

abbrev pub decreases-loop-handle : goal.decreases-loop-handle
decreases-loop-handle g l = vec_len l.away
