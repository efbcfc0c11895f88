use Rattle.std.proofs.Common.{◌≡◌, ℕ, ◌≤◌, ◌-◌, ◌||◌, length, drop}
use Rattle.patmos_asm.specs.Printed.{bundles_from, targets_of, is_target}
use Rattle.patmos_asm.specs.Targets.{branched_in}
use Rattle.patmos_asm.proofs.printing.targets_of.Given as goal

abbrev pub invariant-bundles : goal.invariant-bundles
invariant-bundles l =
    ((n : ℕ) → (is_target n (targets_of (bundles_from l.at (drop l.at l.body))) || branched_in l.targets n)
    ≡ is_target n (targets_of (bundles_from 0 l.body)))
    × (l.at ≤ length l.body)

abbrev pub decreases-bundles : goal.decreases-bundles
decreases-bundles l = length l.body - l.at
