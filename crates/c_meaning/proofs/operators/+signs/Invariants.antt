use Rattle.std.proofs.Common.{length}
use Rattle.c_meaning.proofs.operators.+signs.Given as goal

abbrev pub decreases-signs : goal.decreases-signs
decreases-signs l = length l.ops.now
