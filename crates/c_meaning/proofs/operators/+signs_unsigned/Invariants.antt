use Rattle.std.proofs.Common.{length}
use Rattle.c_meaning.proofs.operators.+signs_unsigned.Given as goal

abbrev pub decreases-signs_unsigned : goal.decreases-signs_unsigned
decreases-signs_unsigned l = length l.ops.now
