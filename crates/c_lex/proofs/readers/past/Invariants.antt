use Rattle.std.proofs.Common.{◌≡◌, length}
use Rattle.c_lex.specs.Bytes.{past}
use Rattle.c_lex.proofs.readers.past.Given as goal

abbrev pub invariant-loop-expected : goal.invariant-loop-expected
invariant-loop-expected l = past l.expected l.rest ≡ past l.text l.bytes

abbrev pub decreases-loop-expected : goal.decreases-loop-expected
decreases-loop-expected l = length l.expected
