use Rattle.std.proofs.Common.{◌≡◌, ◌<◌, ◌≤◌, ◌++◌, length, min}
use Rattle.patmos_model.specs.State.{Core}
use Rattle.pipe_five.specs.Pipe.{StandsFor, limit_of}
use Rattle.pipe_five.specs.Steps.{done_below}
use Rattle.tcrest.specs.Pipe.{steps_text}
use Rattle.tcrest.proofs.pipe.put_steps.Given as goal

abbrev pub invariant-loop-count : goal.invariant-loop-count
invariant-loop-count l = record {
  later : limit_of l.core ≤ l.limit;
  reached : 0 < l.count → limit_of l.core ≡ l.limit;
  stands : (x : Core) → StandsFor l.initial.core x 0 → StandsFor l.core x l.count;
  few : (x : Core) → StandsFor l.initial.core x 0 → l.count ≤ length (done_below x l.limit);
  text : (x : Core) → StandsFor l.initial.core x 0 → l.text.items ≡ l.initial.text.items
      ++ steps_text x l.limit (min l.trace l.count);
}
