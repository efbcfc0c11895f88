use Rattle.std.proofs.Common.{◌≡◌, ◌+◌, ◌≤◌, ◌^◌, ◌++◌, length}
use Rattle.patmos_syntax.specs.Statements.{statements_of}
use Rattle.patmos_syntax.specs.Items.{items_from}
use Rattle.patmos_syntax.specs.Shown.{shown_items}
use Rattle.patmos_syntax.proofs.items.items_of.Given as goal

abbrev pub invariant-statements : goal.invariant-statements
invariant-statements l =
    (shown_items l.items.items ++ items_from (statements_of l.unread.line l.unread.text.now)
    ≡ items_from (statements_of 1 l.fn.text))
    × (l.unread.line + length l.unread.text.now ≤ 2 ^ 32)

abbrev pub decreases-statements : goal.decreases-statements
decreases-statements l = length l.unread.text.now
