use Rattle.std.proofs.Common.{◌≡◌, ◌+◌, length, option_map}
use Rattle.c_lex.specs.Blanks.{comment_length}
use Rattle.c_lex.proofs.blanks.comment_length.Given as goal

abbrev pub invariant-loop-rest : goal.invariant-loop-rest
invariant-loop-rest l = record {
  is : option_map (λ n. l.count + n) (comment_length l.rest) ≡ comment_length l.bytes;
  within : l.count + length l.rest ≡ length l.bytes;
}

abbrev pub decreases-loop-rest : goal.decreases-loop-rest
decreases-loop-rest l = length l.rest
