use Rattle.std.proofs.Common.{◌≡◌, length}
use Rattle.c_lex.specs.Blanks.{ends_line}
use Rattle.c_lex.proofs.blanks.ends_line.Given as goal

abbrev pub invariant-loop-rest : goal.invariant-loop-rest
invariant-loop-rest l = ends_line l.rest ≡ ends_line l.bytes

abbrev pub decreases-loop-rest : goal.decreases-loop-rest
decreases-loop-rest l = length l.rest
