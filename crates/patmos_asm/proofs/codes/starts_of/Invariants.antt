use Rattle.std.proofs.Common.{◌≡◌, ◌++◌, drop, map}
use Rattle.patmos_asm.specs.Assembly.{functions_from, place_of}
use Rattle.patmos_syntax.specs.Shown.{shown_items}
use Rattle.patmos_asm.proofs.Within.{Within}
use Rattle.patmos_asm.proofs.codes.starts_of.Given as goal

abbrev pub invariant-loop-item : goal.invariant-loop-item
invariant-loop-item l =
    (l.starts.items ++ map (λ f. f.1) (functions_from l.at (shown_items (drop l.item-index l.items)))
    ≡ map (λ f. f.1) (functions_from 0 (shown_items l.items)))
    × Within (place_of (functions_from 0 (shown_items l.items))) l.at (shown_items (drop l.item-index l.items))
