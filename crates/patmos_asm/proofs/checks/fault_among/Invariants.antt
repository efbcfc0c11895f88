use Rattle.std.proofs.Common.{◌≡◌, ◌≤◌, ◌*◌, [], drop}
use Rattle.patmos_asm.specs.Assembly.{first_fault, place_of, nothing}
use Rattle.patmos_asm.specs.Before.{shown_before}
use Rattle.patmos_asm.specs.Names.{place_in}
use Rattle.patmos_syntax.specs.Shown.{shown_items}
use Rattle.patmos_asm.proofs.checks.fault_among.Given as goal

abbrev pub invariant-loop-i : goal.invariant-loop-i
invariant-loop-i l =
    (first_fault (place_in l.functions) (place_in l.labels) (shown_before l.before) (shown_items (drop l.i l.items))
    ≡ first_fault (place_in l.functions) (place_of []) nothing (shown_items l.items))
    × (l.before.size ≤ 2 * l.i)
    × (l.before.image ≤ 2 * l.i)
