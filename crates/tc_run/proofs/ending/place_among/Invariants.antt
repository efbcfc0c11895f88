use Rattle.std.proofs.Common.{ℕ, ◌<◌, ◌≢◌, slice_index_or}
use Rattle.core_worker.specs.Worker.{WorkerFace}
use Rattle.tc_run.specs.Worked.{number_of}
use Rattle.tc_run.proofs.ending.place_among.Given as goal

abbrev pub invariant-loop-k : goal.invariant-loop-k
invariant-loop-k l = (j : ℕ) (d : WorkerFace) → j < l.k → number_of (slice_index_or l.workers j d) ≢ l.core
