use Rattle.std.proofs.Common.{◌≡◌, ◌++◌, drop}
use Rattle.patmos_asm.specs.Assembly.{names_from}
use Rattle.patmos_syntax.specs.Shown.{shown_items}
use Rattle.patmos_asm.proofs.codes.names_of.Given as goal

abbrev pub invariant-loop-item : goal.invariant-loop-item
invariant-loop-item l =
    l.names.items ++ names_from (shown_items (drop l.item-index l.items)) ≡ names_from (shown_items l.items)
