use Rattle.std.proofs.Common.{◌≡◌, ◌+◌, ◌≤◌, length}
use Rattle.patmos_syntax.specs.Statements.{statements_of}
use Rattle.patmos_syntax.proofs.statements.next_statement.Given as goal

abbrev pub invariant-loop-unread : goal.invariant-loop-unread
invariant-loop-unread l =
    (statements_of l.unread.line l.unread.text.now ≡ statements_of l.initial.unread.line l.initial.unread.text.now)
    × (length l.unread.text.now ≤ length l.initial.unread.text.now)
    × (l.unread.line + length l.unread.text.now ≤ l.initial.unread.line + length l.initial.unread.text.now)

abbrev pub decreases-loop-unread : goal.decreases-loop-unread
decreases-loop-unread l = length l.unread.text.now
