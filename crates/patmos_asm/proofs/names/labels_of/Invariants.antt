use Rattle.std.proofs.Common.{◌≡◌, ℕ, ◌≤◌, ◌*◌, List, drop}
use Rattle.std.specs.Option.{option_or}
use Rattle.patmos_asm.specs.Assembly.{place_of, labels_from}
use Rattle.patmos_asm.specs.Names.{place_in}
use Rattle.patmos_syntax.specs.Shown.{shown_items}
use Rattle.patmos_asm.proofs.names.labels_of.Given as goal

abbrev pub invariant-loop-item : goal.invariant-loop-item
invariant-loop-item l =
    ((q : List ℕ) → option_or (place_in l.places q) (place_of
    (labels_from l.at (shown_items (drop l.item-index l.items))) q)
    ≡ place_of (labels_from 0 (shown_items l.items)) q)
    × (l.at ≤ 2 * l.item-index)
