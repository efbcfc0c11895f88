use Rattle.std.proofs.Common.{◌≡◌, ◌+◌, ◌*◌, ◌≤◌, drop}
use Rattle.patmos_asm.specs.Assembly.{size_from}
use Rattle.patmos_syntax.specs.Shown.{shown_items}
use Rattle.patmos_asm.proofs.words.size_of_function.Given as goal

abbrev pub invariant-loop-item : goal.invariant-loop-item
invariant-loop-item l =
    (l.size + size_from (shown_items (drop l.item-index l.items)) ≡ size_from (shown_items l.items))
    × (l.size ≤ 2 * l.item-index)
