use Rattle.std.proofs.Common.{◌≡◌, length}
use Rattle.c_lex.specs.Blanks.{begins_line}
use Rattle.c_lex.proofs.blanks.begins_line.Given as goal

abbrev pub invariant-loop-rest : goal.invariant-loop-rest
invariant-loop-rest l = begins_line l.rest ≡ begins_line l.before

abbrev pub decreases-loop-rest : goal.decreases-loop-rest
decreases-loop-rest l = length l.rest
