use Rattle.patmos_syntax.proofs.Pieces.{Reads}
use Rattle.patmos_syntax.proofs.statements.first_piece.Given as goal

abbrev pub invariant-loop-i : goal.invariant-loop-i
invariant-loop-i l = Reads l.line l.text l.at l.end l.i
