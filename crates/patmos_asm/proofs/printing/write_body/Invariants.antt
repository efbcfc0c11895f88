use Rattle.std.proofs.Common.{◌≡◌, ◌≤◌, ◌-◌, ◌++◌, length, drop, string_bytes}
use Rattle.patmos_asm.specs.Printed.{bundles_from, lines_of}
use Rattle.patmos_asm.specs.Targets.{branched_in, name_in}
use Rattle.patmos_asm.proofs.printing.write_body.Given as goal

abbrev pub invariant-bundles : goal.invariant-bundles
invariant-bundles l =
    (string_bytes l.text ++ lines_of (name_in l.functions) (branched_in l.targets) (bundles_from l.at
    (drop l.at l.body))
    ≡ string_bytes l.initial.text ++ lines_of (name_in l.functions) (branched_in l.targets) (bundles_from 0 l.body))
    × (l.at ≤ length l.body)

abbrev pub decreases-bundles : goal.decreases-bundles
decreases-bundles l = length l.body - l.at
