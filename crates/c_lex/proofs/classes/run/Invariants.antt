use Rattle.std.proofs.Common.{◌≡◌, ◌+◌, length}
use Rattle.c_lex.specs.Bytes.{run}
use Rattle.c_lex.proofs.classes.run.Given as goal

abbrev pub invariant-loop-rest : goal.invariant-loop-rest
invariant-loop-rest l = record {
  is : l.count + run l.class l.rest ≡ run l.class l.bytes;
  within : l.count + length l.rest ≡ length l.bytes;
}

abbrev pub decreases-loop-rest : goal.decreases-loop-rest
decreases-loop-rest l = length l.rest
