use Rattle.std.proofs.Common.{◌≡◌, ℕ, ◌-◌}
use Rattle.patmos_model.specs.State.{Core}
use Rattle.pipe_five.specs.Pipe.{StandsFor}
use Rattle.pipe_five.proofs.pipe.PipeCore.advance.Given as goal

abbrev pub invariant-loop-self : goal.invariant-loop-self
invariant-loop-self l = record {
  stands : (x : Core) (k : ℕ) → StandsFor l.fn.self x k → StandsFor l.self x k;
  limit : l.self.limit ≡ l.limit;
}

abbrev pub decreases-loop-self : goal.decreases-loop-self
decreases-loop-self l = l.limit - l.self.lone.cycle
