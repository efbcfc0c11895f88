use Rattle.std.proofs.Common.{◌≡◌, ◌++◌, length}
use Rattle.patmos_syntax.specs.Items.{items_in}
use Rattle.patmos_syntax.specs.Shown.{shown_items}
use Rattle.patmos_syntax.proofs.items.push_items.Given as goal

abbrev pub invariant-labels : goal.invariant-labels
invariant-labels l =
    shown_items l.items.items ++ items_in l.line (length l.rest) l.rest
    ≡ shown_items l.initial.items.items ++ items_in l.line (length l.text) l.text

abbrev pub decreases-labels : goal.decreases-labels
decreases-labels l = length l.rest
